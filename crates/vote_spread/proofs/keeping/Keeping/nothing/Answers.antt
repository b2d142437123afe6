use Rattle.std.proofs.Common.{◌≡◌, ◌≤◌, length, drop, replicate, arith, ap, sym, ◌∙◌}
use Rattle.std.proofs.lemmas.List.{take_at}
use Rattle.std.proofs.lemmas.List.Elements.{All-replicate}
use Rattle.vote_spread.specs.declared.class.Class.TheVariants.{Passes}
use Rattle.vote_spread.specs.Class.{class_of}
use Rattle.vote_spread.specs.Factor.{factors_of}
use Rattle.vote_spread.proofs.RowLemmas.{map-same}
use Rattle.vote_spread.proofs.keeping.Keeping.nothing.Goals as goal

pub invariant_of-result : goal.invariant_of-result
invariant_of-result c =
    let n = c.args.candidates in
    let one = c.args.one in
    let factors = c.in_ok-factors.factors in
    let found = c.find_factors.new.factors in
    let zeros : c.in_ok-keeps.keeps.items ≡ replicate n 0 = c.in_ok-keeps.ensures in
    let passes : c.in_ok-classes.classes.items ≡ replicate n Passes = c.in_ok-classes.ensures.items_if_clones_equal (λ y is. is) in
    record {
      have_factors = record {
        whole = c.requires.whole;
        small = c.requires.small;
        at_most_one = rw zeros (All-replicate (λ k. k ≤ one) n 0 (omega arith));
        factors_are =
            take_at found (drop (length found) factors.items) factors.len
            (omega (arith, c.find_factors.auto.factors, ap length c.as_mut_slice.ensures.value, factors.ok.0))
            ∙ (c.find_factors.ensures ∙ ap (factors_of one) c.as_slice.ensures.value);
      };
      classes_are = rw (zeros, passes) (sym (map-same n (class_of one) 0));
    }
