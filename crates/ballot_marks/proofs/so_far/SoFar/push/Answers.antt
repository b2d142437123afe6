use Rattle.std.proofs.Common.{◌≡◌, ◌≤◌, ℕ, false, ◌∷◌, [], ◌++◌, length, arith, subst, sym, ap}
use Rattle.ballot_marks.specs.declared.so_far.SoFar.TheInside.{Inside}
use Rattle.ballot_marks.specs.contracts.so_far.SoFar.{the_view, the_invariant}
use Rattle.ballot_marks.specs.Marks.{is_among}
use Rattle.ballot_marks.specs.SoFar.{Standing}
use Rattle.ballot_marks.proofs.RankLemmas.{Fits, Fits-new}
use Rattle.ballot_marks.proofs.so_far.SoFar.push.Goals as goal

-- there is room for a candidate who is not among the ranks
fits :
    (i : Inside) (s : Standing) (k : ℕ) → the_view i ≡ s → the_invariant i → length i.ranks ≡ 250
    → (1 ≤ k) × (k ≤ s.candidates) → is_among s.ranks k ≡ false → Fits i.candidates i.len k i.ranks
fits i s k is sound long candidate new =
    Fits-new i.candidates i.len k i.ranks (omega (arith, sound.0, long)) (omega (arith, sound.1, long))
    sound.2
    (subst (λ (s : Standing). (1 ≤ k) × (k ≤ s.candidates)) (sym is) candidate)
    (subst (λ (s : Standing). is_among s.ranks k ≡ false) (sym is) new)

pub bounds-self-inside-self-inside : goal.bounds-self-inside-self-inside
bounds-self-inside-self-inside c =
    let fit =
    fits _ _ _ c.self.view_is c.self.invariant c.self.told c.requires.candidate c.requires.another in
    omega (arith, fit.room, c.self.told)

pub invariant_of-self : goal.invariant_of-self
invariant_of-self c =
    let fit =
    fits _ _ _ c.self.view_is c.self.invariant c.self.told c.requires.candidate c.requires.another in
    (c.self.invariant.0, omega (arith, fit.room, c.self.told), fit.ranking)

pub returns : goal.returns
returns c =
    let fit =
    fits _ _ _ c.self.view_is c.self.invariant c.self.told c.requires.candidate c.requires.another in
    rw fit.pushed (ap (λ (s : Standing). let more : Standing =
    record s { ranks = s.ranks ++ c.args.candidate ∷ [] } in
    more) c.self.view_is)
