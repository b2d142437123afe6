use Rattle.std.proofs.Common.{◌≡◌, ℕ, min, Bool, true, false, slice_index, arith, ap, sym, ◌∙◌, inl, inr}
use Rattle.std.proofs.lemmas.Bool.{cases_eq, cases_lt}
use Rattle.candidate_roll.specs.State.{state_at}
use Rattle.meek_rule.specs.Situation.{is_hopeful}
use Rattle.meek_rule.proofs.ties.lowest_hopeful.Goals.{then-is_hopeful, else-is_hopeful}
use Rattle.meek_rule.proofs.ties.lowest_hopeful.Goals as goal

pub loop-p-preserved : goal.loop-p-preserved
loop-p-preserved g c =
    let p = c.loop-p.p in
    let vote : ℕ → ℕ = λ q. slice_index c.args.votes.now q in
    let hopeful : ℕ → Bool = λ q. is_hopeful (state_at c.args.states.now q) in
    let before = c.loop-p.invariant in
    elim c.if-is_hopeful.branch [
      | then-is_hopeful w ↦
          let is : hopeful p ≡ true = sym c.is_hopeful.ensures ∙ w.if-is_hopeful.true in
          let here : w.units.result ≡ vote p = w.units.ensures.value ∙ w.get.ensures in
          let least : c.if-is_hopeful.lowest ≡ min c.loop-p.lowest (vote p) =
          w.lowest-is ∙ (w.min-lowest.ensures ∙ ap (min c.loop-p.lowest) here) in
          record {
            none_lower = λ q below passes. elim (cases_eq q p) [
              | inl same ↦ (let at : vote q ≡ vote p = ap vote same in omega arith)
              | inr other ↦ omega (arith, before.none_lower q (omega arith) passes)
            ];
            of_one = elim (cases_lt (vote p) c.loop-p.lowest) [
              | inl less ↦ inr (p, omega arith, is, omega arith)
              | inr past ↦ elim before.of_one [
                | inl none ↦ inl (omega arith)
                | inr one ↦ inr (one.0, omega (arith, one.1), one.2, omega (arith, one.3))
              ]
            ];
          }
      | else-is_hopeful w ↦
          let fails : hopeful p ≡ false = sym c.is_hopeful.ensures ∙ w.if-is_hopeful.false in
          let same_lowest : c.if-is_hopeful.lowest ≡ c.loop-p.lowest = w.lowest-is in
          record {
            none_lower = λ q below passes. elim (cases_eq q p) [
              | inl same ↦ absurd (let off = sym passes ∙ (ap hopeful same ∙ fails) in cc)
              | inr other ↦ omega (arith, before.none_lower q (omega arith) passes)
            ];
            of_one = elim before.of_one [
              | inl none ↦ inl (omega arith)
              | inr one ↦ inr (one.0, omega (arith, one.1), one.2, omega (arith, one.3))
            ];
          }
    ]
