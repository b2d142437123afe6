-- What the ranks of a row say, one after another.
use Rattle.std.specs.Prelude.{◌≡◌, ℕ, List, length, map, fold, Option}
use Rattle.std.specs.List.{slice_get}
use Rattle.std.specs.Option.{option_map_or}
use Rattle.ballot_marks.specs.declared.mark.Mark.{Mark}
use Rattle.ballot_marks.specs.declared.says.Says.{Says}
use Rattle.ballot_table.specs.Rows.{by_rank, marks_of}

-- so many ranks, the last that isn't blank, which is 0 where all are, and the marks of those that aren't, each with
-- its rank
pub record SaidList : Type 0 where
  pub count : ℕ
  pub last : ℕ
  pub ranks : List ℕ
  pub marks : List Mark

-- the last rank that isn't blank, after this one
abbrev pub last_behind : (last : ℕ) → List (ℕ × Says) → ℕ
last_behind last said = fold (λ rank s. s.0) last said

-- The ranks from the first on say this.
pub record IsSaying (says : List (Option Says)) (said : SaidList) : Type 0 where
  pub count : said.count ≡ length says
  pub last : said.last ≡ last_behind 0 (by_rank says)
  pub ranks : said.ranks ≡ map (λ s. s.0) (by_rank says)
  pub marks : said.marks ≡ marks_of (by_rank says)

-- the rank of the mark at a place, from 0; after the last there is none
abbrev pub rank_at : List (ℕ × Says) → (place : ℕ) → ℕ
rank_at said place = option_map_or (λ s. s.0) (slice_get said place) 0
