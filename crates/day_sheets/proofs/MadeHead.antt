-- The head of a made day: its roll and its lots.
use Rattle.std.proofs.Common.{◌≡◌, ℕ, ◌<◌, ◌==◌, ◌&&◌, Bool, true, List, [], ◌∷◌, ◌++◌, length, map, refl, arith}
use Rattle.std.proofs.lemmas.Bool.{and_parts, eqb-true, ltb-true}
use Rattle.std.specs.Prelude.{codes, nat_lt, ⊤}
use Rattle.std.specs.List.{flat_map, list_all}
use Rattle.std.specs.Char.{is_ascii_digit}
use Rattle.input_text.specs.Token.{Number, Text}
use Rattle.input_text.specs.Scan.{number, is_in_string}
use Rattle.input_text.specs.Written.{Spells, Each}
use Rattle.input_text.proofs.Spelling.{number_spelled, words, strings, parts, nothing}
use Rattle.day_reader.specs.declared.keyword.Keyword.TheVariants as key
use Rattle.day_reader.specs.Keyword.{word}
use Rattle.meek_trial.specs.Trial.{roll_lines, lots_line}
use Rattle.day_sheets.specs.MadeDay.{trial_names, trial_lots}

each_all : (test : ℕ → Bool) (text : List ℕ) → list_all test text ≡ true → Each test text
each_all test [] all = tt
each_all test (c ∷ text) all = ((and_parts (test c) _ all).0, each_all test text (and_parts (test c) _ all).1)

-- ---- names, each on a line of its own

abbrev AreStrings : List (List ℕ) → Type 0
AreStrings [] = ⊤
AreStrings (name ∷ names) = Each is_in_string name × AreStrings names

are_strings : (names : List (List ℕ)) → list_all (list_all is_in_string) names ≡ true → AreStrings names
are_strings [] all = tt
are_strings (name ∷ names) all =
    let both = and_parts (list_all is_in_string name) _ all in (each_all is_in_string name both.0, are_strings names both.1)

names_spelled :
    (names : List (List ℕ)) → AreStrings names
    → Spells (flat_map (λ name. 34 ∷ (name ++ 34 ∷ 10 ∷ [])) names) (map Text names)
names_spelled [] are = nothing
names_spelled (name ∷ names) are =
    parts (34 ∷ (name ++ 34 ∷ 10 ∷ [])) (flat_map (λ n. 34 ∷ (n ++ 34 ∷ 10 ∷ [])) names) (Text name ∷ []) (map Text names)
    (strings name 10 are.0 refl) (names_spelled names are.1)

-- ---- numbers with their digits, each with a space after it

record Digits : Type 0 where
  value : ℕ
  text : List ℕ

abbrev AreDigits : List Digits → Type 0
AreDigits [] = ⊤
AreDigits (d ∷ ds) = (0 < length d.text) × Each is_ascii_digit d.text × (number d.text ≡ d.value) × AreDigits ds

abbrev are_right : Digits → Bool
are_right d = nat_lt 0 (length d.text) && (list_all is_ascii_digit d.text && (number d.text == d.value))

are_digits : (ds : List Digits) → list_all are_right ds ≡ true → AreDigits ds
are_digits [] all = tt
are_digits (d ∷ ds) all =
    let both = and_parts (are_right d) _ all in
    let some = and_parts (nat_lt 0 (length d.text)) _ both.0 in
    let right = and_parts (list_all is_ascii_digit d.text) _ some.1 in (
      ltb-true _ _ some.0,
      each_all is_ascii_digit d.text right.0,
      eqb-true _ _ right.1,
      are_digits ds both.1,
    )

digits_spelled :
    (ds : List Digits) → AreDigits ds
    → Spells (flat_map (λ d. d.text ++ 32 ∷ []) ds) (map Number (map (λ d. d.value) ds))
digits_spelled [] are = nothing
digits_spelled (d ∷ ds) are =
    parts (d.text ++ 32 ∷ []) (flat_map (λ e. e.text ++ 32 ∷ []) ds) (Number d.value ∷ [])
    (map Number (map (λ e. e.value) ds))
    (number_spelled d.text 32 d.value are.0 are.1 are.2 refl) (digits_spelled ds are.3)

abbrev one : (value : ℕ) (text : List ℕ) → Digits
one value text = record { value = value; text = text }

-- ---- the head

pub roll_spelled : Spells roll_lines (Number 12 ∷ Number 4 ∷ Number 0 ∷ map Text trial_names)
roll_spelled =
    parts (codes "12 ") (codes "4\n0\n" ++ flat_map (λ name. 34 ∷ (name ++ 34 ∷ 10 ∷ [])) trial_names)
    (Number 12 ∷ []) (Number 4 ∷ Number 0 ∷ map Text trial_names)
    (number_spelled (codes "12") 32 12 (omega arith) (refl, (refl, tt)) refl refl)
    (parts (codes "4\n") (codes "0\n" ++ flat_map (λ name. 34 ∷ (name ++ 34 ∷ 10 ∷ [])) trial_names)
    (Number 4 ∷ []) (Number 0 ∷ map Text trial_names)
    (number_spelled (codes "4") 10 4 (omega arith) (refl, tt) refl refl)
    (parts (codes "0\n") (flat_map (λ name. 34 ∷ (name ++ 34 ∷ 10 ∷ [])) trial_names) (Number 0 ∷ []) (map Text trial_names)
    (number_spelled (codes "0") 10 0 (omega arith) (refl, tt) refl refl)
    (names_spelled trial_names (are_strings trial_names refl))))

pub lots_spelled : Spells lots_line (word key.Lots ∷ map Number trial_lots ++ Number 0 ∷ [])
lots_spelled =
    let lots =
    one 12 (codes "12") ∷ one 11 (codes "11") ∷ one 10 (codes "10") ∷ one 9 (codes "9") ∷ one 8 (codes "8")
    ∷ one 7 (codes "7")
    ∷ one 6 (codes "6") ∷ one 5 (codes "5") ∷ one 4 (codes "4") ∷ one 3 (codes "3") ∷ one 2 (codes "2")
    ∷ one 1 (codes "1") ∷ [] in
    parts (codes "lots ") (flat_map (λ d. d.text ++ 32 ∷ []) lots ++ codes "0\n") (word key.Lots ∷ [])
    (map Number trial_lots ++ Number 0 ∷ [])
    (words 108 (codes "ots") 32 (refl, (refl, (refl, (refl, tt)))) refl)
    (parts (flat_map (λ d. d.text ++ 32 ∷ []) lots) (codes "0\n") (map Number trial_lots) (Number 0 ∷ [])
    (digits_spelled lots (are_digits lots refl))
    (number_spelled (codes "0") 10 0 (omega arith) (refl, tt) refl refl))
