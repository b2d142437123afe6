-- An iteration that is read part by part: its numbers, the lines of its candidates, its amounts, what it decided. Each part
-- is as long as that of any other iteration of as many candidates, so after it the same is left to be read.
use Rattle.std.proofs.Common.{◌≡◌, ℕ, List, ◌∷◌, ◌++◌, length, sym, ◌∙◌}
use Rattle.meek_rule.specs.Row.{Row}
use Rattle.sheet_text.specs.Lines.{row_lines}
use Rattle.sheet_reader.specs.Form.{IsPrintableRow}
use Rattle.sheet_reader.specs.Parts.{number_line_of, standing_lines, amount_lines_of, decision_lines_of}
use Rattle.sheet_reader.proofs.RowLines.{row_is}

-- what is after the amounts of a row, after the lines of its candidates, and after its numbers
abbrev pub behind_amounts : Row → (rest : List (List ℕ)) → List (List ℕ)
behind_amounts row rest = decision_lines_of row.elected row.capped row.step row.tied ++ rest

abbrev pub behind_standings : (places : ℕ) → Row → (rest : List (List ℕ)) → List (List ℕ)
behind_standings places row rest = amount_lines_of places row.total row.quota row.surplus ++ behind_amounts row rest

abbrev pub behind_numbers : (places n : ℕ) → Row → (rest : List (List ℕ)) → List (List ℕ)
behind_numbers places n row rest = standing_lines places n row.states row.keeps row.votes ++ behind_standings places row rest

-- the lines of a row begin with its numbers
pub in_parts :
    (places : ℕ) (row : Row) (rest : List (List ℕ)) {n : ℕ} {lines : List (List ℕ)} → length row.states ≡ n
    → lines ≡ row_lines places row ++ rest → lines ≡ number_line_of row.round row.iteration ∷ behind_numbers places n row rest
in_parts places row rest {n} all is = is ∙ row_is places n row rest all

-- after three lines, as those of the amounts
pub behind_three : {X : Type 0} {a b c a' b' c' : X} {xs ys : List X} → a ∷ b ∷ c ∷ xs ≡ a' ∷ b' ∷ c' ∷ ys → xs ≡ ys
behind_three e = cc

-- A row whose parts were read one after another was read: m candidates have lines, and they are all.
pub of_parts :
    (places : ℕ) {n m : ℕ} {row : Row} {lines l1 l2 l3 : List (List ℕ)} (rest : List (List ℕ)) → IsPrintableRow places n row
    → length row.states ≡ m → lines ≡ number_line_of row.round row.iteration ∷ l1
    → l1 ≡ standing_lines places m row.states row.keeps row.votes ++ l2
    → l2 ≡ amount_lines_of places row.total row.quota row.surplus ++ l3
    → l3 ≡ behind_amounts row rest → IsPrintableRow places n row × (lines ≡ row_lines places row ++ rest)
of_parts places {m = m} {row = row} rest is all numbers standings amounts decision =
    (is, rw (numbers, standings, amounts, decision) (sym (row_is places m row rest all)))
