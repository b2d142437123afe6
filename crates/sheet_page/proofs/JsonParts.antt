-- Parts of a text of JSON, one after another.
use Rattle.std.proofs.Common.{◌≡◌, ◌∙◌, refl, sym, ap, ℕ, ◌+◌, ◌<◌, ◌≤◌, List, [], ◌∷◌, ◌++◌, map, arith}
use Rattle.std.proofs.Common.{append_assoc, append-nil}
use Rattle.std.specs.Prelude.{zero, suc}
use Rattle.std.specs.List.{flat_map, range_with_len}
use Rattle.sheet_page.specs.Json.{comma_at, joined}
use Rattle.sheet_page.specs.JsonGrammar.{Json, IsTextOf, AreItems, closed, others_closed}
use Rattle.sheet_page.specs.JsonReading.{read_string}
use Rattle.sheet_page.specs.JsonText.{string_text}
use Rattle.sheet_page.specs.JsonValues.{items_of, said}
use Rattle.sheet_page.specs.Values.{all_places}
use Rattle.sheet_page.proofs.JsonReads.{strings_read}

-- parts one after another, and bytes after them
abbrev pub onto : List (List ℕ) → List ℕ → List ℕ
onto [] rest = rest
onto (part ∷ parts) rest = part ++ onto parts rest

pub joined-onto : (parts : List (List ℕ)) (rest : List ℕ) → joined parts ++ rest ≡ onto parts rest
joined-onto [] rest = refl
joined-onto (part ∷ parts) rest =
    append_assoc part (joined parts) rest ∙ ap (λ (l : List ℕ). part ++ l) (joined-onto parts rest)

-- a string, whatever its text
pub said-text : (text : List ℕ) → IsTextOf (said text) (string_text text)
said-text text = ap read_string (sym (append-nil (string_text text))) ∙ strings_read text []

-- ---- lists of values

comma : (a : ℕ) → 1 ≤ a → comma_at a ≡ 44 ∷ []
comma zero some = absurd (omega (arith, some))
comma (suc a) some = refl

module _ (j g : ℕ → List ℕ) (is : (p : ℕ) → j p ≡ comma_at p ++ g p) (rest : List ℕ) where
  -- what is after the first item of a list, from this place on
  others-written :
      (a n : ℕ) → 1 ≤ a
      → flat_map j (range_with_len a n) ++ 93 ∷ rest ≡ others_closed (map g (range_with_len a n)) 93 ++ rest
  others-written a zero some = refl
  others-written a (suc n) some =
      let more = others_closed (map g (range_with_len (a + 1) n)) 93 in
      append_assoc (j a) (flat_map j (range_with_len (a + 1) n)) (93 ∷ rest)
      ∙ ap (λ (l : List ℕ). j a ++ l) (others-written (a + 1) n (omega arith))
      ∙ ap (λ (l : List ℕ). l ++ (more ++ rest)) (is a ∙ ap (λ (l : List ℕ). l ++ g a) (comma a some))
      ∙ ap (λ (l : List ℕ). 44 ∷ l) (sym (append_assoc (g a) more rest))

  -- the items of a list, with a comma before each but the first
  pub list-written : (n : ℕ) → flat_map j (all_places n) ++ 93 ∷ rest ≡ closed (map g (all_places n)) 93 ++ rest
  list-written zero = refl
  list-written (suc n) =
      let more = others_closed (map g (range_with_len 1 n)) 93 in
      append_assoc (j 0) (flat_map j (range_with_len 1 n)) (93 ∷ rest)
      ∙ ap (λ (l : List ℕ). j 0 ++ l) (others-written 1 n (omega arith))
      ∙ ap (λ (l : List ℕ). l ++ (more ++ rest)) (is 0)
      ∙ sym (append_assoc (g 0) more rest)

-- a value for each place
are-items-from :
    (value : ℕ → Json) (text : ℕ → List ℕ) (n a : ℕ) → ((p : ℕ) → a ≤ p → p < a + n → IsTextOf (value p) (text p))
    → AreItems (items_of (map value (range_with_len a n))) (map text (range_with_len a n))
are-items-from value text zero a is = refl
are-items-from value text (suc n) a is = (
  is a (omega arith) (omega arith),
  are-items-from value text n (a + 1) (λ p low high. is p (omega (arith, low)) (omega (arith, high))),
)

pub are-items :
    (value : ℕ → Json) (text : ℕ → List ℕ) (n : ℕ) → ((p : ℕ) → p < n → IsTextOf (value p) (text p))
    → AreItems (items_of (map value (all_places n))) (map text (all_places n))
are-items value text n is = are-items-from value text n 0 (λ p low high. is p (omega (arith, high)))
