-- Lines of one kind, as the code makes them one after another.
use Rattle.std.specs.Prelude.{ℕ, ◌+◌, Bool, nat_lt, if◌then◌else◌, List, ◌++◌}
use Rattle.std.specs.List.{fold}
use Rattle.ballot_findings.specs.Lines.{only_if}

-- a text, and how many lines of one kind there were, in it or not
pub record Counted : Type 0 where
  pub text : List ℕ
  pub count : ℕ

abbrev pub counted : (text : List ℕ) → (count : ℕ) → Counted
counted text count = record { text = text; count = count }

-- one line more, which is written where there are fewer than a hundred
abbrev pub with_line : Counted → (line : List ℕ) → Counted
with_line lines line = counted (lines.text ++ only_if (nat_lt lines.count 100) line) (lines.count + 1)

abbrev pub with_line_if : Bool → Counted → (line : List ℕ) → Counted
with_line_if test lines line = if test then with_line lines line else lines

-- a line more for each of these
abbrev pub with_lines : {X : Type 0} → (line : X → List ℕ) → Counted → List X → Counted
with_lines line lines xs = fold (λ ls x. with_line ls (line x)) lines xs
