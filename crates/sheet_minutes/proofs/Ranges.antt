-- What is written for the places of a range, one more at a time.
use Rattle.std.proofs.Common.{◌≡◌, ◌∙◌, ap, sym, refl, arith, ℕ, zero, suc, ◌+◌, Bool, true, false, cond, List, [], ◌∷◌, ◌++◌, append-nil, map}
use Rattle.std.specs.List.{filter, flat_map, range_with_len}
use Rattle.std.specs.Str.{encode_utf8_all}
use Rattle.std.specs.Char.{encode_utf8}
use Rattle.std.proofs.lemmas.List.Concat.{flat_map-append}
use Rattle.std.proofs.lemmas.List.Elements.{filter-append}
use Rattle.std.proofs.lemmas.List.FromFn.{map-range_with_len_more}
use Rattle.std.proofs.lemmas.Str.{encodes-append}
use Rattle.meek_rule.specs.Row.{Row}
use Rattle.sheet_minutes.specs.Rounds.{ends_round, rounds_in}

map_itself : (xs : List ℕ) → map (λ (x : ℕ). x) xs ≡ xs
map_itself [] = refl
map_itself (x ∷ xs) = ap (λ (l : List ℕ). x ∷ l) (map_itself xs)

pub range-more : (a n : ℕ) → range_with_len a (n + 1) ≡ range_with_len a n ++ (a + n) ∷ []
range-more a n =
    sym (map_itself (range_with_len a (n + 1))) ∙ map-range_with_len_more (λ (x : ℕ). x) a n (a + n) refl
    ∙ ap (λ (l : List ℕ). l ++ (a + n) ∷ []) (map_itself (range_with_len a n))

-- the texts of one place more
pub flat_map-range_more :
    (h : ℕ → List ℕ) (a n : ℕ)
    → flat_map h (range_with_len a (n + 1)) ≡ flat_map h (range_with_len a n) ++ h (a + n)
flat_map-range_more h a n =
    ap (flat_map h) (range-more a n) ∙ flat_map-append h (range_with_len a n) ((a + n) ∷ [])
    ∙ ap (λ (l : List ℕ). flat_map h (range_with_len a n) ++ l) (append-nil (h (a + n)))

-- the same from the first place on
pub flat_map-places_more :
    (h : ℕ → List ℕ) (n : ℕ) → flat_map h (range_with_len 0 (n + 1)) ≡ flat_map h (range_with_len 0 n) ++ h n
flat_map-places_more h n =
    let here : 0 + n ≡ n = omega arith in
    flat_map-range_more h 0 n ∙ ap (λ (k : ℕ). flat_map h (range_with_len 0 n) ++ h k) here

-- one character more
pub encode-range_more :
    (f : ℕ → ℕ) (n : ℕ)
    → encode_utf8_all (map f (range_with_len 0 (n + 1)))
    ≡ encode_utf8_all (map f (range_with_len 0 n)) ++ encode_utf8 (f n)
encode-range_more f n =
    ap encode_utf8_all (map-range_with_len_more f 0 n n (omega arith))
    ∙ encodes-append (map f (range_with_len 0 n)) (f n ∷ [])
    ∙ ap (λ (l : List ℕ). encode_utf8_all (map f (range_with_len 0 n)) ++ l) (append-nil (encode_utf8 (f n)))

-- ---- rounds

-- a place, if a round ends there
abbrev pub round_at : List Row → (i : ℕ) → List ℕ
round_at rows i = cond (ends_round rows i) (i ∷ []) []

single : (p : ℕ → Bool) (i : ℕ) (b : Bool) → p i ≡ b → filter p (i ∷ []) ≡ cond b (i ∷ []) []
single p i b is = ap (λ (c : Bool). cond c (i ∷ []) []) is

pub rounds_in-more :
    (rows : List Row) (a n : ℕ) → rounds_in rows a (n + 1) ≡ rounds_in rows a n ++ round_at rows (a + n)
rounds_in-more rows a n =
    ap (filter (ends_round rows)) (range-more a n)
    ∙ filter-append (ends_round rows) (range_with_len a n) ((a + n) ∷ [])
    ∙ ap (λ (l : List ℕ). rounds_in rows a n ++ l) (single (ends_round rows) (a + n) (ends_round rows (a + n)) refl)

-- a range cut at a place
pub range-cut : (a m n : ℕ) → range_with_len a (m + n) ≡ range_with_len a m ++ range_with_len (a + m) n
range-cut a zero n =
    let none : 0 + n ≡ n = omega arith in
    let here : a ≡ a + 0 = omega arith in
    ap (λ (k : ℕ). range_with_len a k) none ∙ ap (λ (b : ℕ). range_with_len b n) here
range-cut a (suc m) n =
    let next : suc m + n ≡ suc (m + n) = omega arith in
    let here : a + 1 + m ≡ a + suc m = omega arith in
    ap (λ (k : ℕ). range_with_len a k) next
    ∙ ap (λ (l : List ℕ). a ∷ l) (range-cut (a + 1) m n ∙ ap (λ (b : ℕ). range_with_len (a + 1) m ++ range_with_len b n) here)

pub rounds_in-cut :
    (rows : List Row) (a m n : ℕ) → rounds_in rows a (m + n) ≡ rounds_in rows a m ++ rounds_in rows (a + m) n
rounds_in-cut rows a m n =
    ap (filter (ends_round rows)) (range-cut a m n)
    ∙ filter-append (ends_round rows) (range_with_len a m) (range_with_len (a + m) n)

-- the texts of the rounds of one place more
pub texts-more :
    (h : ℕ → List ℕ) (rows : List Row) (a n : ℕ)
    → flat_map h (rounds_in rows a (n + 1)) ≡ flat_map h (rounds_in rows a n) ++ flat_map h (round_at rows (a + n))
texts-more h rows a n =
    ap (flat_map h) (rounds_in-more rows a n) ∙ flat_map-append h (rounds_in rows a n) (round_at rows (a + n))

pub text_of_end :
    (h : ℕ → List ℕ) (rows : List Row) (i : ℕ) → ends_round rows i ≡ true → flat_map h (round_at rows i) ≡ h i
text_of_end h rows i ends = ap (λ (b : Bool). flat_map h (cond b (i ∷ []) [])) ends ∙ append-nil (h i)

pub text_of_none :
    (h : ℕ → List ℕ) (rows : List Row) (i : ℕ) → ends_round rows i ≡ false → flat_map h (round_at rows i) ≡ []
text_of_none h rows i goes_on = ap (λ (b : Bool). flat_map h (cond b (i ∷ []) [])) goes_on
