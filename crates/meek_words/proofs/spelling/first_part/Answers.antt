use Rattle.std.proofs.Common.{ap, ap₂, ◌∙◌, sym, subst, map, string_bytes, ◌∷◌, refl}
use Rattle.meek_words.specs.Parts.{OneWord, TwoWords, Plain, IsValue}
use Rattle.meek_words.proofs.spelling.first_part.Goals as goal
use Rattle.meek_words.proofs.spelling.first_part.Goals.{in-OneWord, in-FirstOfTwo+in_ok-value-in-FirstOfTwo, in-Plain}

pub returns-then-is_value-clause-cut : goal.returns-then-is_value-clause-cut
returns-then-is_value-clause-cut c =
    let value : IsValue c.match-spelling_of.name.1.now = c.if-is_value.ensures.0 refl in
    let words = ap (map string_bytes) c.in_ok-word.ensures.cases.0 in
    elim c.match-spelling_of.branch [
      | in-OneWord w ↦ rw w.name-is (
        OneWord w.in-OneWord.name w.in-OneWord.value.now,
        subst (λ t. IsValue t.1.now) w.name-is value,
        refl,
        words ∙ ap (λ word. word ∷ map string_bytes c.in_ok-word.rest.now) (sym c.deref.ensures ∙ w.in-OneWord.ensures),
      )
      | in-FirstOfTwo+in_ok-value-in-FirstOfTwo w ↦ rw w.name-is (
        TwoWords w.in-FirstOfTwo.name w.as_str.result.now,
        subst (λ t. IsValue t.1.now) w.name-is value,
        refl,
        words ∙ ap₂ (λ word rest. word ∷ rest) (sym c.deref.ensures ∙ w.in-FirstOfTwo.ensures)
            (ap (map string_bytes) w.in_ok-value-in-FirstOfTwo.ensures.cases.0
            ∙ ap (λ word. word ∷ map string_bytes w.in_ok-value-in-FirstOfTwo.rest.now)
            (sym w.as_str.ensures.value)),
      )
      | in-Plain w ↦ rw w.name-is (
        Plain w.as_str-in-Plain.result.now,
        subst (λ t. IsValue t.1.now) w.name-is value,
        refl,
        words ∙ ap (λ word. word ∷ map string_bytes c.in_ok-word.rest.now) (sym w.as_str-in-Plain.ensures.value),
      )
    ]
