use Rattle.std.proofs.Common.{◌≡◌, ◌≤◌, ◌++◌, length, drop, map, take, ap, sym, subst, ◌∙◌}
use Rattle.std.specs.List.{All}
use Rattle.std.proofs.lemmas.List.{take_at, length-map}
use Rattle.vote_spread.specs.Class.{class_of}
use Rattle.vote_spread.specs.Factor.{factor_of, factors_of}
use Rattle.vote_spread.specs.KeepingSeen.{KeepingSeen, AreKept}
use Rattle.vote_spread.proofs.keeping.Keeping.load.Given.{Over}
use Rattle.vote_spread.proofs.keeping.Keeping.load.Goals as goal
use Rattle.vote_spread.proofs.keeping.Keeping.load.Goals.{After-as_slice, After-classify}

-- the keep values that stand now are those of the table
units : (g : Over) (c : After-as_slice g) → c.as_slice.result.now ≡ c.copy_units.new.units
units g c =
    let keeps = c.self.inside.keeps in
    let given = c.copy_units.new.units in
    c.as_slice.ensures.value
    ∙ take_at given (drop (length given) keeps.items) keeps.len
    (c.copy_units.auto.units ∙ (ap length c.as_mut_slice.ensures.value ∙ sym keeps.ok.0))

at_most_one : (g : Over) (c : After-as_slice g) → All (λ k. k ≤ c.self.inside.one) c.as_slice.result.now
at_most_one g c =
    let one = ap (λ (k : KeepingSeen). k.one) c.self.view_is ∙ c.requires.scale in
    subst (All (λ k. k ≤ c.self.inside.one)) (sym (units g c))
    (subst (λ s. All (λ k. k ≤ s) c.copy_units.new.units) (sym one) c.copy_units.ensures.at_most_one)

pub find_factors-requires : goal.find_factors-requires
find_factors-requires g c =
    let before = (goal.at.find_factors-requires g c).After-as_slice in
    let is = c.self.inside in
    let had = c.self.invariant.have_factors in
    record {
      some = had.whole;
      small = had.small;
      at_most_one = at_most_one g before;
      of_all =
          ap length c.as_mut_slice-2.ensures.value
          ∙ (ap length had.factors_are
          ∙ (length-map is.keeps.items (factor_of is.one)
          ∙ (sym (c.copy_units.auto.units ∙ ap length c.as_mut_slice.ensures.value) ∙ sym (ap length (units g before)))));
    }

pub classify-requires : goal.classify-requires
classify-requires g c =
    let before = (goal.at.classify-requires g c).After-as_slice in
    let is = c.self.inside in
    ap length c.as_mut_slice-3.ensures.value
    ∙ (ap length c.self.invariant.classes_are
    ∙ (length-map is.keeps.items (class_of is.one)
    ∙ (sym (c.copy_units.auto.units ∙ ap length c.as_mut_slice.ensures.value)
    ∙ (sym (ap length (units g before)) ∙ ap length (c.as_slice.ensures.value ∙ sym c.as_slice-2.ensures.value)))))

-- what follows from the keep values is as they say
kept :
    (g : Over) (c : After-classify g)
    → All (λ k. k ≤ c.self.inside.one) c.as_slice.result.now
    → AreKept c.self.inside.one
    (take c.self.inside.keeps.len
    (c.copy_units.new.units ++ drop (length c.copy_units.new.units) c.self.inside.keeps.items))
    (take c.self.inside.factors.len
    (c.find_factors.new.factors ++ drop (length c.find_factors.new.factors) c.self.inside.factors.items))
    (take c.self.inside.classes.len
    (c.classify.new.classes ++ drop (length c.classify.new.classes) c.self.inside.classes.items))
kept g c few =
    let is = c.self.inside in
    let found = c.find_factors.new.factors in
    let classes = c.classify.new.classes in
    record {
      have_factors = record {
        whole = c.self.invariant.have_factors.whole;
        small = c.self.invariant.have_factors.small;
        at_most_one = subst (All (λ k. k ≤ is.one)) c.as_slice.ensures.value few;
        factors_are =
            take_at found (drop (length found) is.factors.items) is.factors.len
            (c.find_factors.auto.factors ∙ (ap length c.as_mut_slice-2.ensures.value ∙ sym is.factors.ok.0))
            ∙ (c.find_factors.ensures ∙ ap (factors_of is.one) c.as_slice.ensures.value);
      };
      classes_are =
          take_at classes (drop (length classes) is.classes.items) is.classes.len
          (c.classify.auto.classes ∙ (ap length c.as_mut_slice-3.ensures.value ∙ sym is.classes.ok.0))
          ∙ (c.classify.ensures.classes ∙ ap (map (class_of is.one)) c.as_slice-2.ensures.value);
    }

pub invariant_of-self : goal.invariant_of-self
invariant_of-self g c =
    let before = goal.at.invariant_of-self g c in
    kept g before.After-classify (at_most_one g before.After-as_slice)

pub invariant_of-self-else-classify : goal.invariant_of-self-else-classify
invariant_of-self-else-classify g c =
    let before = goal.at.invariant_of-self-else-classify g c in
    kept g before.After-classify (at_most_one g before.After-as_slice)

pub returns-then-classify : goal.returns-then-classify
returns-then-classify g c =
    let before = (goal.at.returns-then-classify g c).After-as_slice in
    record {
      same_one = ap (λ (k : KeepingSeen). k.one) c.self.view_is;
      taken = sym c.as_slice.ensures.value ∙ (units g before ∙ c.copy_units.ensures.units);
      at_most_one = subst (All (λ k. k ≤ c.self.inside.one)) c.as_slice.ensures.value (at_most_one g before);
      fresh = λ e. absurd cc;
    }

pub returns-else-classify : goal.returns-else-classify
returns-else-classify g c =
    let before = (goal.at.returns-else-classify g c).After-as_slice in
    let is = c.self.inside in
    record {
      same_one = ap (λ (k : KeepingSeen). k.one) c.self.view_is;
      taken = sym c.as_slice.ensures.value ∙ (units g before ∙ c.copy_units.ensures.units);
      at_most_one = subst (All (λ k. k ≤ is.one)) c.as_slice.ensures.value (at_most_one g before);
      fresh = λ e. (
        sym (ap (λ (k : KeepingSeen). k.stale) c.self.view_is) ∙ e,
        ap (map (class_of is.one)) (sym c.as_slice-2.ensures.value)
            ∙ (sym c.classify.ensures.classes
            ∙ (c.classify.ensures.changed c.if-classify.false
            ∙ (c.as_mut_slice-3.ensures.value
            ∙ (c.self.invariant.classes_are
            ∙ ap (λ (k : KeepingSeen). map (class_of k.one) k.keeps) c.self.view_is)))),
      );
    }
