-- The faults of orders that are read one after another.
use Rattle.std.proofs.Common.{◌≡◌, ℕ, ◌+◌, List, [], ◌∷◌, ◌++◌, map, take, length, Option, refl, ap, sym, ◌∙◌}
use Rattle.std.specs.List.{sum_by, enumerate_from}
use Rattle.std.proofs.lemmas.List.{append_assoc, length_push, take_at}
use Rattle.std.proofs.lemmas.List.Sums.{sum_by_push}
use Rattle.ballot_marks.specs.declared.choice.Treat.{Treat}
use Rattle.preflib_text.specs.declared.pref_fault.PrefFault.{PrefFault}
use Rattle.preflib_text.specs.Ballots.{room_behind}
use Rattle.preflib_text.specs.Counting.{faults_behind}
use Rattle.preflib_text.specs.Faults.{Line}
use Rattle.preflib_text.specs.Items.{count_of}
use Rattle.preflib_text.specs.Refusals.{whole_fault, order_faults}

module _ (equal : Treat) (n : ℕ) where
  abbrev faults_from : List Line → ℕ → List Line → List (Option PrefFault)
  faults_from all i rest =
      map (whole_fault equal n) (map (λ (at : ℕ × Line). (room_behind (take at.0 all), at.1)) (enumerate_from i rest))

  behind : (rest before all : List Line) → all ≡ before ++ rest
      → faults_from all (length before) rest ≡ faults_behind equal n (sum_by count_of before) rest
  behind [] before all is = refl
  behind (l ∷ ls) before all is =
      let front : take (length before) all ≡ before =
      ap (take (length before)) is ∙ take_at before (l ∷ ls) (length before) refl in
      ap (λ xs. whole_fault equal n (room_behind xs, l) ∷ faults_from all (length before + 1) ls) front
      ∙ ap (λ rest. whole_fault equal n (room_behind before, l) ∷ rest)
      (ap (λ k. faults_from all k ls) (sym (length_push before l))
      ∙ behind ls (before ++ l ∷ []) all (is ∙ sym (append_assoc before (l ∷ []) ls))
      ∙ ap (λ k. faults_behind equal n k ls) (sum_by_push count_of before l))

  pub same_faults : (ls : List Line) → order_faults equal n ls ≡ faults_behind equal n 0 ls
  same_faults ls = behind ls [] ls refl
