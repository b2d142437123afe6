-- Iterations that are read one after another and handed on. The lines are those of the iterations so far and of what is
-- left; an iteration is read in one way, so where the lines are iterations up to that of the result, so is what is left.
-- Where neither the result nor an iteration comes next, the lines are therefore none.
use Rattle.std.proofs.Common.{◌≡◌, ℕ, List, [], ◌∷◌, ◌++◌, sym, ◌∙◌, ap, subst}
use Rattle.std.proofs.Common.{append_assoc, append-nil}
use Rattle.std.specs.Prelude.{◌≢◌, codes, All}
use Rattle.std.specs.List.{FoldsTo}
use Rattle.std.proofs.lemmas.Fn.{FoldsTo-push, chained_keeps}
use Rattle.std.proofs.lemmas.Grind.{flat_map-append}
use Rattle.std.proofs.lemmas.List.Elements.{All-head, All-tail, All-push}
use Rattle.meek_rule.specs.Row.{Row}
use Rattle.sheet_text.specs.Lines.{row_lines}
use Rattle.sheet_reader.specs.Form.{IsPrintableRow}
use Rattle.sheet_reader.specs.Parts.{rows_lines, NoRow, NoRows}
use Rattle.sheet_reader.proofs.RowLines.{row_not_result, rows_cons, behind_row}

-- the lines are iterations of n candidates, the line of the result, and a rest
pub record AreRows (places n : ℕ) (lines rest : List (List ℕ)) : Type 0 where
  pub rows : List Row
  pub printable : All (IsPrintableRow places n) rows
  pub lines_are : lines ≡ rows_lines places rows ++ codes "result" ∷ rest

-- What is left of them after some iterations.
rows_left :
    (places n : ℕ) (rows others : List Row) (left rest : List (List ℕ)) → All (IsPrintableRow places n) rows
    → All (IsPrintableRow places n) others → rows_lines places rows ++ left ≡ rows_lines places others ++ codes "result" ∷ rest
    → AreRows places n left rest
rows_left places n [] others left rest p q e = record { rows = others; printable = q; lines_are = e }
rows_left places n (r ∷ rows) [] left rest p q e =
    absurd (row_not_result places r (rows_lines places rows ++ left) rest (sym (rows_cons places r rows left) ∙ e))
rows_left places n (r ∷ rows) (o ∷ others) left rest p q e =
    rows_left places n rows others left rest (All-tail (IsPrintableRow places n) r rows p) (All-tail (IsPrintableRow places n) o others q)
    (behind_row places n r o (rows_lines places rows ++ left) (rows_lines places others ++ codes "result" ∷ rest)
    (All-head (IsPrintableRow places n) r rows p).of_all.states (All-head (IsPrintableRow places n) o others q).of_all.states
    (sym (rows_cons places r rows left) ∙ e ∙ rows_cons places o others (codes "result" ∷ rest)))

-- Where the result does not come next, iterations begin with an iteration.
no_row_first :
    (places n : ℕ) (left rest : List (List ℕ)) → ((more : List (List ℕ)) → left ≢ codes "result" ∷ more) → NoRow places n left
    → AreRows places n left rest → ⊥
no_row_first places n left rest other none are = by are.rows are.printable are.lines_are
  where
    by :
        (rows : List Row) → All (IsPrintableRow places n) rows
        → left ≡ rows_lines places rows ++ codes "result" ∷ rest → ⊥
    by [] printable is = other rest is
    by (row ∷ rows) printable is =
        none row (rows_lines places rows ++ codes "result" ∷ rest) (All-head (IsPrintableRow places n) row rows printable)
        (is ∙ rows_cons places row rows (codes "result" ∷ rest))

-- How far iterations of n candidates were read, and what the sink that took them has become.
pub record AreReadUpTo {S : Type 0} (takes : S → Row → S → Type 0) (places n : ℕ) (lines left : List (List ℕ))
    (begun now : S) : Type 0 where
  pub rows : List Row
  pub taken : FoldsTo takes begun rows now
  pub printable : All (IsPrintableRow places n) rows
  pub read : lines ≡ rows_lines places rows ++ left

module _ {S : Type 0} {takes : S → Row → S → Type 0} {places n : ℕ} {lines left : List (List ℕ)} {begun now : S}
    (so_far : AreReadUpTo takes places n lines left begun now) where
  -- one iteration more was read and handed on
  pub one_more :
      {row : Row} {new : List (List ℕ)} {next : S} → IsPrintableRow places n row → left ≡ row_lines places row ++ new
      → takes now row next → AreReadUpTo takes places n lines new begun next
  one_more {row} {new} {next} is comes took = record {
    rows = so_far.rows ++ row ∷ [];
    taken = FoldsTo-push takes begun so_far.rows now row next so_far.taken took;
    printable = All-push (IsPrintableRow places n) so_far.rows row so_far.printable is;
    read = so_far.read ∙ ap (λ (ls : List (List ℕ)). rows_lines places so_far.rows ++ ls) comes
        ∙ sym (append_assoc (rows_lines places so_far.rows) (row_lines places row) new)
        ∙ ap (λ (ls : List (List ℕ)). ls ++ new) (sym (flat_map-append (row_lines places) so_far.rows (row ∷ [])
        ∙ ap (λ (ls : List (List ℕ)). rows_lines places so_far.rows ++ ls) (append-nil (row_lines places row))));
  }

  -- neither the result nor an iteration comes next
  pub no_rows : ((more : List (List ℕ)) → left ≢ codes "result" ∷ more) → NoRow places n left → NoRows places n lines
  no_rows other none others rest printable is =
      no_row_first places n left rest other none
      (rows_left places n so_far.rows others left rest so_far.printable printable (sym so_far.read ∙ is))

-- what was found of as many candidates, and of the same lines
pub no_row_of :
    {places m n : ℕ} {lines others : List (List ℕ)} → m ≡ n → others ≡ lines → NoRow places m others → NoRow places n lines
no_row_of {places} all same none row rest is e =
    none row rest (subst (λ (k : ℕ). IsPrintableRow places k row) (sym all) is) (same ∙ e)

-- An empty list that takes each iteration at its end becomes the list of those that were handed on.
pub taken_are :
    (begun list rows : List Row) → begun ≡ []
    → FoldsTo (λ (before : List Row) (row : Row) (after : List Row). after ≡ before ++ row ∷ []) begun rows list
    → list ≡ rows
taken_are begun list rows none taken =
    chained_keeps (λ (before : List Row) (row : Row) (after : List Row). after ≡ before ++ row ∷ [])
    (λ (so_far list : List Row). list ≡ so_far)
    (λ so_far list row after same push. push ∙ ap (λ (ls : List Row). ls ++ row ∷ []) same) rows begun list none taken
