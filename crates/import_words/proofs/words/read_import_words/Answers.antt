use Rattle.std.proofs.Common.{◌≡◌, ◌∙◌, List, ap, arith, map, string_bytes, subst, sym}
use Rattle.std.proofs.lemmas.Bool.{false≢true}
use Rattle.meek_words.specs.Numerals.{Word}
use Rattle.import_words.specs.Asks.{AreFor, Says}
use Rattle.import_words.specs.Pairs.{ArePairs, Given, given_of}
use Rattle.import_words.specs.Values.{given_by, pairs_in}
use Rattle.import_words.specs.declared.layout.Layout.{Layout}
use Rattle.import_words.specs.declared.pair.Pair.{Pair}
use Rattle.import_words.proofs.OneLemmas.{fit_of, said_layout, says_of}
use Rattle.import_words.proofs.words.read_import_words.Goals as goal

-- pairs are the same as a slice
are_in :
    (words : List Word) (slice pairs : List Pair) → slice ≡ pairs → ArePairs words (pairs_in pairs)
    → ArePairs words (pairs_in slice)
are_in words slice pairs same are = subst (λ (ps : List Pair). ArePairs words (pairs_in ps)) (sym same) are

pub returns-in_err-values-clause-refused : goal.returns-in_err-values-clause-refused
returns-in_err-values-clause-refused c refused asked asks =
    let words : List Word = map string_bytes c.args.words.now in
    let are = are_in words _ _ c.as_slice.ensures.value c.in_ok-pairs.ensures.are in
    c.in_err-values.ensures.refused (grind (arith, c.from_residual-in_err-values.ensures, refused)) asked
    (says_of words (pairs_in c.as_slice.result.now) asked are asks)

pub returns-in_err-asked-clause-refused : goal.returns-in_err-asked-clause-refused
returns-in_err-asked-clause-refused c refused asked asks =
    let words : List Word = map string_bytes c.args.words.now in
    let are = are_in words _ _ c.as_slice.ensures.value c.in_ok-pairs.ensures.are in
    c.in_err-asked.ensures.refused (grind (arith, c.from_residual-in_err-asked.ensures, refused)) asked
    (subst (λ (given : Given). Says given asked) (sym c.in_ok-values.ensures.given)
    (says_of words (pairs_in c.as_slice.result.now) asked are asks))

pub returns-then-not-are_for-clause-refused : goal.returns-then-not-are_for-clause-refused
returns-then-not-are_for-clause-refused c _ asked asks =
    let words : List Word = map string_bytes c.args.words.now in
    let are = are_in words _ _ c.as_slice.ensures.value c.in_ok-pairs.ensures.are in
    let says =
    subst (λ (given : Given). Says given asked) (sym c.in_ok-values.ensures.given)
    (says_of words (pairs_in c.as_slice.result.now) asked are asks) in
    let layout =
    said_layout (given_by c.in_ok-values.values) asked c.in_ok-asked.asked says c.in_ok-asked.ensures.accepted
    in
    let fit =
    fit_of words (pairs_in c.as_slice-2.result.now) asked
    (are_in words _ _ c.as_slice-2.ensures.value c.in_ok-pairs.ensures.are) asks in
    false≢true (sym c.if-not-are_for.true ∙ c.are_for.ensures.1
    (subst (λ (l : Layout). AreFor l (pairs_in c.as_slice-2.result.now)) layout fit))

pub returns-clause-one : goal.returns-clause-one
returns-clause-one c asked asks =
    let words : List Word = map string_bytes c.args.words.now in
    c.words_ask_one_thing.ensures words c.in_ok-asked.asked asked (record {
      pairs = pairs_in c.in_ok-pairs.pairs.items;
      are = c.in_ok-pairs.ensures.are;
      fit =
          subst (λ (ps : List Pair). AreFor c.in_ok-asked.asked.layout (pairs_in ps))
          c.as_slice-2.ensures.value
          (c.are_for.ensures.0 c.if-not-are_for.false);
      says =
          subst (λ (given : Given). Says given c.in_ok-asked.asked)
          (c.in_ok-values.ensures.given ∙ ap (λ (ps : List Pair). given_of (pairs_in ps))
          c.as_slice.ensures.value)
          c.in_ok-asked.ensures.accepted;
    }) asks
