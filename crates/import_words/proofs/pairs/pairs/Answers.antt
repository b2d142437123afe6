use Rattle.std.proofs.Common.{◌≡◌, ◌++◌, ◌∷◌, [], ◌∙◌, sym, ap, subst, rules, List, map, string_bytes, All}
use Rattle.std.specs.List.{flat_map}
use Rattle.meek_words.specs.Numerals.{Word}
use Rattle.import_words.specs.Pairs.{words_of}
use Rattle.import_words.specs.Values.{pairs_in}
use Rattle.import_words.specs.declared.pair.Pair.{Pair}
use Rattle.import_words.proofs.PairLemmas.{HasValue, left_more, none_left, front_more, values_more, some_words}
use Rattle.import_words.proofs.pairs.pairs.Goals as goal

pub returns-in_default-clause-refused : goal.returns-in_default-clause-refused
returns-in_default-clause-refused c _ pairs are =
    none_left (map string_bytes c.loop-rest.rest.now)
    (some_words string_bytes c.loop-rest.rest.now (sym c.is_empty.ensures ∙ c.loop-rest-test.true))
    c.in_default.ensures.none (c.loop-rest.invariant.left pairs are)

pub loop-rest-preserved : goal.loop-rest-preserved
loop-rest-preserved c =
    let cut = c.in-Some.ensures.cut in
    let done = c.loop-rest.pairs.items in
    let items : c.push.new.self.items ≡ done ++ c.in-Some.pair ∷ [] = grind (rules) in
    record {
      front =
          c.loop-rest.invariant.front
          ∙ ap (λ (ws : List Word). flat_map words_of (pairs_in done) ++ ws) cut.1
          ∙ front_more done c.in-Some.pair (map string_bytes c.in-Some.behind.now)
          ∙ ap (λ (ps : List Pair). flat_map words_of (pairs_in ps) ++ map string_bytes c.in-Some.behind.now)
          (sym items);
      values =
          subst (λ (ps : List Pair). All HasValue (pairs_in ps)) (sym items)
          (values_more done c.in-Some.pair c.loop-rest.invariant.values cut.0);
      left = λ pairs are. left_more _ _ _ _ cut.1 (c.loop-rest.invariant.left pairs are);
    }
