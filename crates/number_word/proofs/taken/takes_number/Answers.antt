use Rattle.std.proofs.Common.{◌≡◌, [], ◌∷◌, map, length, sym, ◌∙◌, ap, arith}
use Rattle.std.specs.String.{string_bytes}
use Rattle.meek_words.specs.Numerals.{Word}
use Rattle.number_word.proofs.OptionLemmas.{two_items, alike, unlike, other_option, asked_of_number}
use Rattle.number_word.proofs.taken.takes_number.Goals as goal

-- The words are the option and a number.
pub returns : goal.returns
returns c =
    let two : length c.args.words.now ≡ 2 = omega arith in
    let items = two_items c.args.words.now c.name-item.result c.number-item.result two c.name-item.is c.number-item.is in
    let option : string_bytes c.name-item.result ≡ c.args.option.now =
    sym c.as_str.ensures.value ∙ alike c.as_str.result.now c.args.option.now (sym c.ne.ensures ∙ c.if-ne.false) in
    asked_of_number c.args.option.now c.args.greatest (map string_bytes c.args.words.now) (string_bytes c.number-item.result)
    c.as_str-2.result.now c.read_number.result
    (ap (map string_bytes) items ∙ ap (λ (w : Word). w ∷ string_bytes c.number-item.result ∷ []) option)
    c.as_str-2.ensures.value c.read_number.ensures.taken c.read_number.ensures.refused

-- They begin with another word.
pub returns-then-ne : goal.returns-then-ne
returns-then-ne c =
    let two : length c.args.words.now ≡ 2 = omega arith in
    let items = two_items c.args.words.now c.name-item.result c.number-item.result two c.name-item.is c.number-item.is in
    other_option c.args.option.now c.args.greatest (map string_bytes c.args.words.now) (string_bytes c.name-item.result)
    (string_bytes c.number-item.result) (ap (map string_bytes) items)
    (λ same. unlike c.as_str.result.now c.args.option.now (sym c.ne.ensures ∙ c.if-ne.true) (c.as_str.ensures.value ∙ same))
