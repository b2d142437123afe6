-- A team may go to another thread: all that it is made of may.
use denote.Param.Send.{IsSend, IsSync, sendable, recorded_send, recorded_sync, struct_send, struct_sync}
use mathlib.Core.List.{[], ◌∷◌}
use denote.RattleType.{RattleType}
use denote.Struct.Struct.{Struct}
use denote.Struct.Declared.{shape}
use denote.Struct.Tuple.{type_at, TupleAt}
use Rattle.std.proofs.Crossing.{Vec-send}
use Rattle.batch_core.proofs.calls.Calls.TheSendSync as calls
use Rattle.shard_office.proofs.version.Version.TheSendSync as version
use Rattle.shard_office.proofs.Sendable.{pass_send}
use Rattle.team_run.specs.contracts.team.Team as team

pub team_send : IsSend team.the_row
team_send =
    recorded_send team.the_field.row _ _ team.the_type.to_one (struct_send (shape team.the_type)
    (pass_send, (calls.the_send, (Vec-send _ version.the_send, (search sendable, tt)))))

-- what a closure refers to, if it refers to four values
pub four_sync : (A B C D : RattleType) → IsSync A → IsSync B → IsSync C → IsSync D → IsSync (TupleAt [] (A ∷ B ∷ C ∷ D ∷ []))
four_sync A B C D a b c d =
    let T = type_at [] (A ∷ B ∷ C ∷ D ∷ []) in
    recorded_sync (Struct (shape T)) T.D T.to T.to_one (struct_sync (shape T) (a, (b, (c, (d, tt)))))
