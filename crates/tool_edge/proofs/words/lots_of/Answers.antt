use Rattle.std.proofs.Common.{List, ℕ, sym, subst}
use Rattle.meek_words.specs.Numerals.{IsLotList}
use Rattle.tool_edge.proofs.words.lots_of.Goals as goal

pub returns-clause-refused : goal.returns-clause-refused
returns-clause-refused c =
    λ refused lots list.
    c.read_lots.ensures.refused refused lots
    (subst (λ (word : List ℕ). IsLotList word lots) (sym c.as_bytes.ensures.value) list)
