-- The texts of short numbers, four bytes for each.
use Rattle.std.proofs.Common.{◌≡◌, ◌≢◌, ℕ, ◌+◌, ◌-◌, ◌*◌, ◌<◌, ◌≤◌, List, [], ◌∷◌, ◌++◌, length, take, drop}
use Rattle.std.proofs.Common.{get_or, set, ap, sym, subst, ◌∙◌, arith, ⊎_elim, append_assoc}
use Rattle.std.specs.Prelude.{decimal, slice_index}
use Rattle.std.proofs.Math.Seq.{take-append-add}
use Rattle.std.proofs.lemmas.Bool.{cases_lt}
use Rattle.std.proofs.lemmas.List.{length-append, length-take-le, length-drop, length-set, take-append-le}
use Rattle.std.proofs.lemmas.List.{take-take, drop_at, drop-append-le, drop-take, drop_more, set_at}
use Rattle.std.proofs.lemmas.List.{get_or-set_same, get_or-set_other}
use borrow.Rule.Slice.PartMut.{put_mid}
use Rattle.blt_writer.specs.ShortTexts.{AreTexts, AreTextsBelow, IsTextOf}
use Rattle.blt_writer.specs.Text.{number_then}

-- a front of what was put at a place
pub front_put :
    {X : Type 0} (at j l : ℕ) (bytes part : List X) → at ≤ length bytes → l ≤ length part
    → take (at + l) (put_mid at j bytes part) ≡ take at bytes ++ take l part
front_put {X} at j l bytes part inside short =
    let before = take at bytes in
    let long : length before ≡ at = length-take-le at bytes inside in
    let rest : List X = drop j (drop at bytes) in
    ap (λ (k : ℕ). take (k + l) (before ++ (part ++ rest))) (sym long)
    ∙ (take-append-add before (part ++ rest) l ∙ ap (λ (xs : List X). before ++ xs) (take-append-le l part rest short))

one_more : (xs : List ℕ) (i k d : ℕ) → i + k < length xs → drop (i + k) xs ≡ get_or xs (i + k) d ∷ drop (i + (k + 1)) xs
one_more xs i k d inside = drop_more xs (i + k) d inside ∙ ap (λ (m : ℕ). get_or xs (i + k) d ∷ drop m xs) (omega arith)

-- four bytes by their places
pub four_at :
    (xs : List ℕ) (i d : ℕ) → i + 4 ≤ length xs
    → get_or xs i d ∷ get_or xs (i + 1) d ∷ get_or xs (i + 2) d ∷ get_or xs (i + 3) d ∷ []
    ≡ take 4 (drop i xs)
four_at xs i d inside =
    let a = get_or xs i d in
    let b = get_or xs (i + 1) d in
    let c = get_or xs (i + 2) d in
    sym
    (ap (λ (l : List ℕ). take 4 l) (drop_more xs i d (omega (arith, inside)))
    ∙ (ap (λ (l : List ℕ). a ∷ take 3 l) (one_more xs i 1 d (omega (arith, inside)))
    ∙ (ap (λ (l : List ℕ). a ∷ b ∷ take 2 l) (one_more xs i 2 d (omega (arith, inside)))
    ∙ ap (λ (l : List ℕ). a ∷ b ∷ c ∷ take 1 l) (one_more xs i 3 d (omega (arith, inside))))))

pub put_number :
    (texts lens : List ℕ) (n at j k : ℕ) (bytes part : List ℕ) → AreTexts texts lens → n < 256
    → at + 4 ≤ length bytes → k ≡ 4
    → part ≡ take k (drop (4 * n) texts)
    → take (at + slice_index lens n) (put_mid at j bytes part) ≡ take at bytes ++ number_then 32 n
put_number texts lens n at j k bytes part are below room four is =
    let each = are.each n below in
    let l = slice_index lens n in
    let left = length-drop (4 * n) texts in
    let size : length part ≡ 4 =
    ap length is
    ∙ (length-take-le k (drop (4 * n) texts) (omega (arith, left, are.texts_long, below, four)) ∙ four) in
    front_put at j l bytes part (omega (arith, room)) (omega (arith, size, each.short))
    ∙ ap (λ (xs : List ℕ). take at bytes ++ xs)
    (ap (take l) is ∙ (take-take l k (drop (4 * n) texts) (omega (arith, each.short, four)) ∙ each.text))

-- ---- one number more is spelled

module _ (texts lens text : List ℕ) (n j : ℕ) (below : n < 256) (are : AreTextsBelow n texts lens)
    (is : text ≡ decimal n) (short : length text ≤ 3)
    (as_long : j ≡ length text) where
  abbrev from : ℕ
  from = 4 * n

  abbrev rest : List ℕ
  rest = drop j (drop from texts)

  abbrev pub texts_then : List ℕ
  texts_then = set (put_mid from j texts text) (from + length text) 32

  abbrev pub lens_then : List ℕ
  lens_then = set lens n (length text + 1)

  before_is : length (take from texts) ≡ from
  before_is = length-take-le from texts (omega (arith, are.texts_long, below))

  some_rest : 0 < length rest
  some_rest = omega (arith, are.texts_long, below, short, as_long, length-drop j (drop from texts), length-drop from texts)

  behind : List ℕ
  behind = drop 1 rest

  parted : texts_then ≡ take from texts ++ (text ++ 32 ∷ drop 1 rest)
  parted =
      let all : put_mid from j texts text ≡ (take from texts ++ text) ++ (get_or rest 0 0 ∷ drop 1 rest) =
      sym (append_assoc (take from texts) text rest)
      ∙ ap (λ (xs : List ℕ). (take from texts ++ text) ++ xs) (drop_more rest 0 0 some_rest) in
      let long : length (take from texts ++ text) ≡ from + length text =
      omega (arith, length-append (take from texts) text, before_is) in
      ap (λ (xs : List ℕ). set xs (from + length text) 32) all
      ∙ (set_at (take from texts ++ text) (get_or rest 0 0) (drop 1 rest) 32 (from + length text) long
      ∙ append_assoc (take from texts) text (32 ∷ drop 1 rest))

  whole : length texts_then ≡ 1024
  whole =
      let put : length (put_mid from j texts text) ≡ length (take from texts) + (length text + length rest) =
      omega (arith, length-append (take from texts) (text ++ rest), length-append text rest) in
      omega (
        arith,
        length-set (put_mid from j texts text) (from + length text) 32,
        put,
        before_is,
        as_long,
        are.texts_long,
        below,
        short,
        length-drop j (drop from texts),
        length-drop from texts,
      )

  new_text : IsTextOf texts_then lens_then n
  new_text =
      let len : slice_index lens_then n ≡ length text + 1 =
      get_or-set_same lens n (length text + 1) 0 (omega (arith, are.lens_long, below)) in
      record {
        short = omega (arith, len, short);
        text =
            ap (λ (k : ℕ). take k (drop from texts_then)) len
            ∙ (ap (λ (xs : List ℕ). take (length text + 1) (drop from xs)) parted
            ∙ (ap (take (length text + 1)) (drop_at (take from texts) (text ++ 32 ∷ drop 1 rest) from before_is)
            ∙ (take-append-add text (32 ∷ drop 1 rest) 1 ∙ ap (λ (xs : List ℕ). xs ++ 32 ∷ []) is)));
      }

  old_text : (m : ℕ) → m < n → IsTextOf texts_then lens_then m
  old_text m before =
      let old = are.each m before in
      let other : m ≢ n = λ same. absurd (omega (arith, before, same)) in
      let len : slice_index lens_then m ≡ slice_index lens m = get_or-set_other lens n m (length text + 1) 0 other in
      let l = slice_index lens m in
      let gap = from - 4 * m in
      let sum : 4 * m + gap ≡ from = omega (arith, before) in
      let own : List ℕ = drop (4 * m) (take from texts) in
      let front : own ≡ take gap (drop (4 * m) texts) =
      ap (λ (k : ℕ). drop (4 * m) (take k texts)) (sym sum) ∙ drop-take (4 * m) gap texts in
      let room : l ≤ length own = omega (arith, before, old.short, length-drop (4 * m) (take from texts), before_is) in
      record {
        short = omega (arith, len, old.short);
        text =
            ap (λ (k : ℕ). take k (drop (4 * m) texts_then)) len
            ∙ (ap (λ (xs : List ℕ). take l (drop (4 * m) xs)) parted
            ∙ (ap (take l) (drop-append-le (4 * m) (take from texts) (text ++ 32 ∷ drop 1 rest)
            (omega (arith, before, before_is)))
            ∙ (take-append-le l own (text ++ 32 ∷ drop 1 rest) room
            ∙ (ap (take l) front ∙ (take-take l gap (drop (4 * m) texts) (omega (arith, before, old.short)) ∙ old.text)))));
      }

  pub spelled_more : AreTextsBelow (n + 1) texts_then lens_then
  spelled_more = record {
    texts_long = whole;
    lens_long = length-set lens n (length text + 1) ∙ are.lens_long;
    each =
        λ m within.
        ⊎_elim (λ (before : m < n). old_text m before)
        (λ (behind : n ≤ m). let here : m ≡ n =
        omega (arith, within, behind) in
        subst (IsTextOf texts_then lens_then) (sym here) new_text)
        (cases_lt m n);
  }
