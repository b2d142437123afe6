-- The clerk's call is the end of a day, so a whole history is no front of another.
use Rattle.std.proofs.Common.{◌≡◌, ℕ, zero, suc, ◌+◌, ◌<◌, List, [], ◌∷◌, ◌++◌, length, take, drop}
use Rattle.std.proofs.Common.{refl, sym, ap, ◌∙◌, arith}
use Rattle.std.specs.Prelude.{slice_get}
use Rattle.std.proofs.lemmas.List.{append-nil, append_assoc, length-append, take-append-drop}
use Rattle.batch_core.specs.declared.entry.Entry.{Entry}
use Rattle.day_reader.specs.declared.script.Script.{Script}
use Rattle.day_lines.specs.DayHistory.{IsHistoryOf, clerk_freeze}
use Rattle.day_replay.proofs.Lists.{got_ahead, got_behind}
use Rattle.day_replay.proofs.Own.{none_by}

-- an item of a front is there in the list
pub in_front : (xs : List Entry) (n k : ℕ) → k < n → slice_get (take n xs) k ≡ slice_get xs k
in_front [] zero k below = absurd (omega (arith, below))
in_front [] (suc n) k below = refl
in_front (x ∷ xs) zero k below = absurd (omega (arith, below))
in_front (x ∷ xs) (suc n) zero below = refl
in_front (x ∷ xs) (suc n) (suc k) below = in_front xs n k (omega (arith, below))

module _ (scripts : List Script) where
  -- after the clerk's call there is none
  nothing_behind :
      (history other : List Entry) (e : Entry) (rest : List Entry) → IsHistoryOf scripts history
      → IsHistoryOf scripts other → history ≡ other ++ e ∷ rest → ⊥
  nothing_behind history other e rest is also whole =
      let mine = is.ends.before in
      let its = also.ends.before in
      let front : history ≡ its ++ clerk_freeze ∷ (e ∷ rest) =
      whole ∙ (ap (λ (l : List Entry). l ++ e ∷ rest) also.ends.last ∙ append_assoc its (clerk_freeze ∷ []) (e ∷ rest)) in
      let behind : List Entry = clerk_freeze ∷ (e ∷ rest) in
      let some : length behind ≡ suc (suc (length rest)) = refl in
      let one : length history ≡ length mine + 1 = ap length is.ends.last ∙ length-append mine (clerk_freeze ∷ []) in
      let many : length history ≡ length its + length behind = ap length front ∙ length-append its behind in
      let before : length its < length mine = omega (arith, one, many, some) in
      none_by 0 mine (length its) clerk_freeze is.ends.no_other
      (sym (got_ahead mine (clerk_freeze ∷ []) (length its) before)
      ∙ (ap (λ (l : List Entry). slice_get l (length its)) (sym is.ends.last ∙ front)
      ∙ got_behind its clerk_freeze (e ∷ rest))) refl

  -- a history whose front another one is, is that one
  pub no_more : (history other : List Entry) → IsHistoryOf scripts history → IsHistoryOf scripts other
      → other ≡ take (length other) history → history ≡ other
  no_more history other is also front = by (drop (length other) history) refl
    where
      parts : history ≡ other ++ drop (length other) history
      parts =
          sym (take-append-drop (length other) history)
          ∙ ap (λ (l : List Entry). l ++ drop (length other) history) (sym front)

      by : (rest : List Entry) → drop (length other) history ≡ rest → history ≡ other
      by [] none = parts ∙ (ap (λ (l : List Entry). other ++ l) none ∙ append-nil other)
      by (e ∷ rest) some =
          absurd
          (nothing_behind history other e rest is also (parts ∙ ap (λ (l : List Entry). other ++ l) some))
