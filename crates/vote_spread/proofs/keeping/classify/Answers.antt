use Rattle.std.proofs.Common.{◌<◌, not, length, map, get_or, set, arith, ap, sym, ◌∙◌, inl, inr}
use Rattle.std.proofs.lemmas.Bool.{cases_eq, not-false, or_parts}
use Rattle.std.proofs.lemmas.List.{get_or-map, get_or-set_same, get_or-set_other, set-get_or, length-map, same_lists}
use Rattle.vote_spread.specs.Class.{class_of}
use Rattle.vote_spread.proofs.keeping.classify.Goals as goal

pub loop-i-preserved : goal.loop-i-preserved
loop-i-preserved c =
    let i = c.loop-i.i in
    let one = c.args.one in
    let keeps = c.args.keeps.now in
    let old = c.loop-i.classes in
    let class = c.of-class.result in
    let inside : i < length old = omega arith in
    record {
      so_far =
          λ k d lt. elim (cases_eq k i) [
            | inl e ↦
                ap (λ m. get_or (set old i class) m d) e
                ∙ (get_or-set_same old i class d inside
                ∙ (c.of-class.ensures ∙ ap (λ m. class_of one (get_or keeps m 0)) (sym e)))
            | inr other ↦ get_or-set_other old i k class d other ∙ c.loop-i.invariant.so_far k d (omega arith)
          ];
      unchanged =
          λ none.
          let both = or_parts c.loop-i.changed (not c.is-same.result) none in
          let is = c.is-same.ensures (not-false c.is-same.result both.1) in
          ap (set old i) is ∙ (set-get_or old i _ ∙ c.loop-i.invariant.unchanged both.0);
    }

pub returns-clause-classes : goal.returns-clause-classes
returns-clause-classes c =
    let keeps = c.args.keeps.now in
    same_lists c.loop-i.classes (map (class_of c.args.one) keeps) (omega (arith, length-map keeps (class_of c.args.one)))
    (λ k d lt. c.loop-i.invariant.so_far k d (omega arith)
    ∙ sym (get_or-map (class_of c.args.one) keeps k 0 d (omega arith)))
