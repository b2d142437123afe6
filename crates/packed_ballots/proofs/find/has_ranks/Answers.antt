use Rattle.std.proofs.Common.{ℕ, ◌≤◌, ◌%◌, All, ap, sym, subst, ◌∙◌}
use Rattle.std.proofs.lemmas.List.Elements.{All-drop}
use Rattle.packed_ballots.specs.Packed.{rest_of}
use Rattle.packed_ballots.proofs.Found.{same_from_ninth, slice_from}
use Rattle.packed_ballots.proofs.Fronts.{fronts_all}
use Rattle.packed_ballots.proofs.find.has_ranks.Goals as goal

-- the front ends with 0
pub returns-then-line-eq0 : goal.returns-then-line-eq0
returns-then-line-eq0 c = λ is.
    fronts_all (rest_of c.args.bytes.now 0 c.args.line) c.args.ranks.now c.requires.own c.requires.ranks
    (sym c.requires.front ∙ c.requires.same) (ap (λ (d : ℕ). d % 256) (sym c.requires.front) ∙ c.if-line-eq0.true)

pub stand_at-requires : goal.stand_at-requires
stand_at-requires c =
    let others = slice_from c.args.ranks.now c.in-Some.others.now 8 c.in-Some.ensures.lookup.0.2 in
    subst (All (λ (r : ℕ). 1 ≤ r)) (sym others)
    (All-drop (λ (r : ℕ). 1 ≤ r) 8 c.args.ranks.now (λ k d inside. (c.requires.ranks k d inside).0))

pub returns-in-Some : goal.returns-in-Some
returns-in-Some c = λ is.
    let others = slice_from c.args.ranks.now c.in-Some.others.now 8 c.in-Some.ensures.lookup.0.2 in
    same_from_ninth c.args.bytes.now c.args.ranks.now c.args.line c.requires.own c.requires.ranks
    (sym c.requires.front ∙ c.requires.same) c.in-Some.ensures.lookup.0.0 (c.stand_at.ensures is ∙ others)
