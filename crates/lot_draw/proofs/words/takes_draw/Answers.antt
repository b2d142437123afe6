use Rattle.std.proofs.Common.{◌≡◌, ◌∙◌, sym, ap, subst, List, map, length, arith, inl, inr}
use Rattle.std.specs.String.{string_bytes}
use Rattle.std.proofs.lemmas.Bool.{false≢true}
use Rattle.meek_words.specs.Numerals.{Word}
use Rattle.lot_draw.specs.Words.{AreOptions, TakesDraw}
use Rattle.lot_draw.proofs.WordLemmas.{four_items, four_alike, taken, refused, neither}
use Rattle.lot_draw.proofs.words.takes_draw.Goals as goal

seed_first :
    (c : goal.After-asked)
    → AreOptions (map string_bytes c.args.words.now) c.as_str.result.now c.as_str-then-are_words.result.now
seed_first c =
    let four : length c.args.words.now ≡ 4 = omega arith in
    let items =
    four_items c.args.words.now c.first-item.result c.value-item.result c.second-item.result
    c.other-item.result four c.first-item.is c.value-item.is c.second-item.is c.other-item.is in
    let names = c.are_words.ensures.0 c.if-are_words.true in
    inl (ap (map string_bytes) items
    ∙ four_alike _ _ _ _ _ _ _ _ names.0 (sym c.as_str.ensures.value) names.1
    (sym c.as_str-then-are_words.ensures.value))

seed_second :
    (c : goal.After-asked-then-are_words-2)
    → AreOptions (map string_bytes c.args.words.now) c.as_str-then-are_words-2.result.now
    c.as_str-then-are_words-2-2.result.now
seed_second c =
    let four : length c.args.words.now ≡ 4 = omega arith in
    let items =
    four_items c.args.words.now c.first-item.result c.value-item.result c.second-item.result
    c.other-item.result four c.first-item.is c.value-item.is c.second-item.is c.other-item.is in
    let names = c.are_words-2.ensures.0 c.if-are_words-2.true in
    inr (ap (map string_bytes) items
    ∙ four_alike _ _ _ _ _ _ _ _ names.0 (sym c.as_str-then-are_words-2-2.ensures.value) names.1
    (sym c.as_str-then-are_words-2.ensures.value))

pub returns-then-are_words-clause-taken : goal.returns-then-are_words-clause-taken
returns-then-are_words-clause-taken c = taken _ _ _ c.asked.result (seed_first c) c.asked.ensures.seed c.asked.ensures.taken

pub returns-then-are_words-clause-refused : goal.returns-then-are_words-clause-refused
returns-then-are_words-clause-refused c none = refused _ _ _ (seed_first c) (c.asked.ensures.refused none)

pub returns-then-are_words-2-clause-taken : goal.returns-then-are_words-2-clause-taken
returns-then-are_words-2-clause-taken c =
    taken _ _ _ c.asked-then-are_words-2.result (seed_second c) c.asked-then-are_words-2.ensures.seed
    c.asked-then-are_words-2.ensures.taken

pub returns-then-are_words-2-clause-refused : goal.returns-then-are_words-2-clause-refused
returns-then-are_words-2-clause-refused c none =
    refused _ _ _ (seed_second c) (c.asked-then-are_words-2.ensures.refused none)

pub returns-clause-refused : goal.returns-clause-refused
returns-clause-refused c none asked takes =
    let four : length c.args.words.now ≡ 4 = omega arith in
    let items =
    four_items c.args.words.now c.first-item.result c.value-item.result c.second-item.result
    c.other-item.result four c.first-item.is c.value-item.is c.second-item.is c.other-item.is in
    neither _ _ _ _ (λ names. false≢true (sym c.if-are_words.false ∙ c.are_words.ensures.1 names))
    (λ names. false≢true (sym c.if-are_words-2.false ∙ c.are_words-2.ensures.1 names))
    asked (subst (λ (words : List Word). TakesDraw words asked) (ap (map string_bytes) items) takes)
