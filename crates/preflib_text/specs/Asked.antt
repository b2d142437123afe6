-- What the words say besides the text.
use Rattle.std.specs.Prelude.{ℕ, List, Option}
use Rattle.ballot_marks.specs.declared.choice.Treat.{Treat}

-- the title, where the words give one, the numbers of those who are withdrawn, and what becomes of equal ranks
pub record Asked : Type 0 where
  pub title : Option (List ℕ)
  pub withdrawn : List ℕ
  pub equal : Treat
