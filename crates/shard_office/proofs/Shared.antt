-- An office may be used by several threads: all that it is made of may. So may the value of a shard by those who
-- make plans of it.
use denote.RattleType.{RattleType}
use mathlib.Core.List.{[], ◌∷◌}
use denote.Param.Send.{IsSync, sendable, part_keyless, view_sync, recorded_sync, struct_sync}
use denote.Struct.Struct.{Struct}
use denote.Struct.Tuple.{type_at, TupleAt}
use denote.Struct.Declared.{shape}
use Rattle.std.proofs.Crossing.{crosses, Vec-sync}
use Rattle.atomic_table.specs.contracts.badge.Badge as badge_row
use Rattle.atomic_table.proofs.badge.Badge.TheSendSync as badge
use Rattle.number_tie.specs.contracts.half.Half as half_row
use Rattle.number_tie.specs.contracts.half.Half.TheInside as half_fields
use Rattle.number_tie.proofs.tie.Tie.TheSendSync as tie
use Rattle.shard_book.proofs.book.ShardBook.TheSendSync as book
use Rattle.turn_lock.proofs.held.Held.TheSendSync as held
use Rattle.turn_lock.proofs.lock.TurnLock.TheSendSync as lock
use Rattle.shard_office.proofs.register_value.RegisterValue.TheSendSync as register_value
use Rattle.turn_lock.specs.contracts.held.Held as held_row
use Rattle.shard_office.specs.contracts.shard_value.ShardValue as shard_value
use Rattle.shard_office.specs.contracts.shard_value.ShardValue.TheInside as shard_fields
use Rattle.shard_office.specs.contracts.window.Window as window
use Rattle.shard_office.specs.contracts.office.Office as office
use Rattle.shard_office.specs.contracts.office.Office.TheInside as fields
use Rattle.shard_office.proofs.Sendable.{value_send}

window_sync : IsSync window.the_row
window_sync =
    let a = value_send in
    recorded_sync window.the_field.row _ _ window.the_type.to_one
    (struct_sync (shape window.the_type) (
      search (lock.the_sync, sendable, crosses) depth 20,
      (tie.the_sync, tt),
    ))

pub office_sync : IsSync office.the_row
office_sync =
    let b = register_value.the_send in
    view_sync fields.the_row _ _ _ _
    (recorded_sync fields.the_field.row _ _ fields.the_type.to_one (struct_sync (shape fields.the_type) (
      search sendable,
      (
        search sendable,
        (
          search sendable,
          (Vec-sync _ window_sync, (search (lock.the_sync, sendable, crosses) depth 20, tt)),
        ),
      ),
    ))
    )

-- a half has no bytes, and what it owns is the same to every thread
badge_sync : (V : RattleType) → IsSync (badge_row.the_row V)
badge_sync V = record { shared = λ d b o κ q. part_keyless (badge_row.the_row V) (badge.the_send V) q d b o }

half_sync : IsSync half_row.the_row
half_sync =
    view_sync half_fields.the_row _ _ _ _ (recorded_sync half_fields.the_field.row _ _
    half_fields.the_type.to_one (struct_sync (shape half_fields.the_type) (badge_sync _, tt)))

value_sync : IsSync shard_value.the_row
value_sync =
    view_sync shard_fields.the_row _ _ _ _ (recorded_sync shard_fields.the_field.row _ _
    shard_fields.the_type.to_one
    (struct_sync (shape shard_fields.the_type) (book.the_sync, (half_sync, tt))))

pub held_sync : IsSync (held_row.the_row shard_value.the_row)
held_sync = held.the_sync shard_value.the_row value_sync

-- what a closure refers to, if it refers to two values
pub two_sync : (A B : RattleType) → IsSync A → IsSync B → IsSync (TupleAt [] (A ∷ B ∷ []))
two_sync A B a b =
    let T = type_at [] (A ∷ B ∷ []) in
    recorded_sync (Struct (shape T)) T.D T.to T.to_one (struct_sync (shape T) (a, (b, tt)))
