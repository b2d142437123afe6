-- Where a line `end` is in a text that goes on after a line. 10 is the line feed that ends a line.
use Rattle.std.proofs.Common.{◌≡◌, ◌⊎◌, inl, inr, ℕ, zero, suc, ◌+◌, ◌-◌, ◌<◌, ◌≤◌, List, [], ◌∷◌, ◌++◌, length, take}
use Rattle.std.proofs.Common.{drop, get_or, codes, refl, sym, ap, ◌∙◌, arith, append_assoc, length-append}
use Rattle.std.proofs.Common.{take-append-drop, drop-drop, drop_at, get_or-append-add}
use Rattle.std.proofs.lemmas.Bool.{cases_lt}
use Rattle.std.proofs.lemmas.List.{drop_more, get_or_append_left}
use Rattle.sheet_text.specs.Lines.{ended}
use Rattle.sheet_reader.specs.Cut.{IsWithout}
use Rattle.sheet_check.specs.Input.{HasEndAt, IsLineStart}
use Rattle.day_text.proofs.Cuts.{cut_once, without_none}

pub ended_length : (line : List ℕ) → length (ended line) ≡ length line + 1
ended_length line = length-append line (10 ∷ [])

-- what is after a line
pub drop_ended : (line rest : List ℕ) (j : ℕ) → drop (length (ended line) + j) (ended line ++ rest) ≡ drop j rest
drop_ended line rest j =
    sym (drop-drop j (length (ended line)) (ended line ++ rest))
    ∙ ap (λ (t : List ℕ). drop j t) (drop_at (ended line) rest (length (ended line)) refl)

no_feed : (line : List ℕ) (m : ℕ) → IsWithout 10 line → m < length line → get_or line m 0 ≡ 10 → ⊥
no_feed line m none below is =
    without_none 10 (take m line) (drop (m + 1) line) line none
    (sym (take-append-drop m line)
    ∙ ap (λ (t : List ℕ). take m line ++ t)
    (drop_more line m 0 below ∙ ap (λ (b : ℕ). b ∷ drop (m + 1) line) is))

-- ---- from what is after a line to the whole

start_after : (line rest : List ℕ) (j : ℕ) → IsLineStart rest j → IsLineStart (ended line ++ rest) (length (ended line) + j)
start_after line rest zero starts =
    let at : length (ended line) + zero - 1 ≡ length line + 0 = omega (arith, ended_length line) in
    inr (ap (λ (k : ℕ). get_or (ended line ++ rest) k 0) at
    ∙ (ap (λ (t : List ℕ). get_or t (length line + 0) 0) (append_assoc line (10 ∷ []) rest)
    ∙ get_or-append-add line (10 ∷ rest) 0 0))
start_after line rest (suc j) (inl is) = absurd (omega (arith, is))
start_after line rest (suc j) (inr feed) =
    let at : length (ended line) + suc j - 1 ≡ length (ended line) + j = omega arith in
    let own : j ≡ suc j - 1 = omega arith in
    inr (ap (λ (k : ℕ). get_or (ended line ++ rest) k 0) at
    ∙ (get_or-append-add (ended line) rest j 0 ∙ (ap (λ (k : ℕ). get_or rest k 0) own ∙ feed)))

pub end_after : (line rest : List ℕ) (j : ℕ) → HasEndAt rest j → HasEndAt (ended line ++ rest) (length (ended line) + j)
end_after line rest j there = record {
  starts = start_after line rest j there.starts;
  is_end = ap (λ (t : List ℕ). take 4 t) (drop_ended line rest j) ∙ there.is_end;
}

-- ---- from the whole to what is after a line

start_in :
    (line rest : List ℕ) (m j : ℕ) → suc m ≡ length (ended line) + j → get_or (ended line ++ rest) (suc m - 1) 0 ≡ 10
    → IsLineStart rest j
start_in line rest m zero is feed = inl refl
start_in line rest m (suc j) is feed =
    let at : length (ended line) + j ≡ suc m - 1 = omega (arith, is) in
    let own : suc j - 1 ≡ j = omega arith in
    inr (ap (λ (k : ℕ). get_or rest k 0) own
    ∙ (sym (get_or-append-add (ended line) rest j 0) ∙ (ap (λ (k : ℕ). get_or (ended line ++ rest) k 0) at ∙ feed)))

-- The line itself is `end`, or such a line is in what is after it.
abbrev pub EndsIn : (line rest : List ℕ) → (k : ℕ) → Type 0
EndsIn line rest k =
    ((k ≡ 0) × (line ≡ codes "end")) ⊎ ((j : ℕ) × (k ≡ length (ended line) + j) × HasEndAt rest j)

pub end_in : (line rest : List ℕ) (k : ℕ) → IsWithout 10 line → HasEndAt (ended line ++ rest) k → EndsIn line rest k
end_in line rest zero none here =
    let whole : List ℕ = ended line ++ rest in
    inl (
      refl,
      (cut_once 10 line (codes "end") rest (drop 4 whole) none refl
          (sym (append_assoc line (10 ∷ []) rest)
          ∙ (sym (take-append-drop 4 whole) ∙ ap (λ (t : List ℕ). t ++ drop 4 whole) here.is_end))).0,
    )
end_in line rest (suc m) none here = by here.starts
  where
    later : get_or (ended line ++ rest) (suc m - 1) 0 ≡ 10 → length line ≤ m → EndsIn line rest (suc m)
    later feed beyond =
        let j : ℕ = m - length line in
        let at : suc m ≡ length (ended line) + j = omega (arith, beyond, ended_length line) in
        inr (
          j,
          at,
          record {
            starts = start_in line rest m j at feed;
            is_end =
                ap (λ (t : List ℕ). take 4 t)
                (sym (drop_ended line rest j) ∙ ap (λ (k : ℕ). drop k (ended line ++ rest)) (sym at))
                ∙ here.is_end;
          },
        )

    by : IsLineStart (ended line ++ rest) (suc m) → EndsIn line rest (suc m)
    by (inl is) = absurd (omega (arith, is))
    by (inr feed) =
        let own : m ≡ suc m - 1 = omega arith in
        elim (cases_lt m (length line)) [
          | inl within ↦ absurd (no_feed line m none within
              (sym (get_or_append_left line (10 ∷ rest) 0 m within)
              ∙ (ap (λ (t : List ℕ). get_or t m 0) (sym (append_assoc line (10 ∷ []) rest))
              ∙ (ap (λ (k : ℕ). get_or (ended line ++ rest) k 0) own ∙ feed))))
          | inr beyond ↦ later feed beyond
        ]
