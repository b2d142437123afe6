-- A row of blank fields has no weight.
use Rattle.std.proofs.Common.{◌≡◌, ℕ, Bool, true, cond, List, [], ◌∷◌, length, Some, None, eq-eqb, refl, sym, subst}
use Rattle.ballot_marks.specs.declared.treatment.Treatment.{Treatment}
use Rattle.ballot_table.specs.declared.column.Column.{Column}
use Rattle.ballot_table.specs.declared.column.Column.TheVariants.{Weight, PassedOver, Candidate, Rank, List as Lists}
use Rattle.ballot_table.specs.declared.empty.Empty.TheVariants.{Drop}
use Rattle.ballot_table.specs.Asked.{Asked}
use Rattle.ballot_table.specs.Finding.{candidates_in}
use Rattle.ballot_table.specs.JudgedRows.{IsJudged, IsRowRead, row_there}
use Rattle.ballot_table.specs.Rows.{weight_at, all_blank}

weightless : (columns : List Column) (texts : List (List ℕ)) → all_blank texts ≡ true → weight_at columns texts ≡ 0
weightless [] texts blank = refl
weightless (c ∷ cs) [] blank = refl
weightless (c ∷ cs) ((b ∷ bs) ∷ texts) blank = absurd (cc blank)
weightless (Weight ∷ cs) ([] ∷ texts) blank = refl
weightless (PassedOver ∷ cs) ([] ∷ texts) blank = weightless cs texts blank
weightless (Candidate c ∷ cs) ([] ∷ texts) blank = weightless cs texts blank
weightless (Rank r ∷ cs) ([] ∷ texts) blank = weightless cs texts blank
weightless (Lists ∷ cs) ([] ∷ texts) blank = weightless cs texts blank

pub dropped_row : (t : Treatment) (asked : Asked) (room : ℕ) (columns : List Column) (texts : List (List ℕ))
    → length texts ≡ length columns → all_blank texts ≡ true → IsRowRead asked t Drop room columns texts None
dropped_row t asked room columns texts long blank = record {
  sound = rw (eq-eqb (length texts) (length columns) long, blank) refl;
  is_judged =
      subst (λ (b : Bool). IsJudged (candidates_in asked columns) t (weight_at columns texts)
      (cond b None (Some (row_there asked room columns texts))) None)
      (sym blank)
      (weightless columns texts blank);
}
