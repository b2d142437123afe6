-- What the words say of a table's columns and texts.
use Rattle.std.specs.Prelude.{ℕ, Bool, List, Option}
use Rattle.ballot_table.specs.declared.layout.Layout.{Layout}
use Rattle.ballot_table.specs.declared.table_asked.TableAsked.{TableAsked}

-- the layout, and the texts that have a meaning of their own
pub record Asked : Type 0 where
  pub layout : Layout
  -- the words say that there is a head, whatever is in it, or that there is none
  pub head_is_said : Bool
  -- So many records are the head. Where it is none, the columns are named by their numbers.
  pub heads : ℕ
  -- candidates stand in brackets at the end of the head's fields
  pub bracketed : Bool
  -- heads of the weight's column, of those that are passed over and of those that are read, in the order of the words
  pub labels : List (List ℕ)
  -- of choices the heads of the columns that are read, in order of rank; with none all are that have no label
  pub chosen : List (List ℕ)
  pub weight : Option (List ℕ)
  -- texts of blank cells, and of ranks that more than one candidate has
  pub blank : List (List ℕ)
  pub over : List (List ℕ)
  -- texts of the ranks from the first on; with none they are numbers
  pub ranks : List (List ℕ)
  -- names of the candidates in number order, where the head doesn't give them
  pub candidates : List (List ℕ)
  pub withdrawn : List ℕ

-- what is asked of a table, but for the byte between its fields, its blank rows and marks that are not plain
abbrev pub asked_of : TableAsked → Asked
asked_of asked = record {
  layout = asked.layout;
  head_is_said = asked.head_is_said;
  heads = asked.heads;
  bracketed = asked.bracketed;
  labels = asked.labels;
  chosen = asked.chosen;
  weight = asked.weight;
  blank = asked.blank;
  over = asked.over;
  ranks = asked.ranks;
  candidates = asked.candidates;
  withdrawn = asked.withdrawn;
}
