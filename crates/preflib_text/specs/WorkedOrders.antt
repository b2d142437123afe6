-- Orders worked by hand.
use Rattle.std.specs.Prelude.{ℕ, ◌+◌, List, [], ◌∷◌, ◌++◌, replicate, codes}
use Rattle.preflib_text.specs.declared.pref_kind.PrefKind.{PrefKind}
use Rattle.preflib_text.specs.declared.pref_kind.PrefKind.TheVariants.{BadByte, BadNumber, NoSuchCandidate, Repeated}
use Rattle.preflib_text.specs.declared.pref_kind.PrefKind.TheVariants.{TooManyBallots, EqualRank}
use Rattle.preflib_text.specs.Worked.{plainly, three, ann_ben_cid, Refuses, Says}

-- lines after three candidates, whose first byte is 103 in line 5, have a fault at a byte of line 5, from 0
abbrev pub RefusesAt : List ℕ → PrefKind → (at : ℕ) → Type 0
RefusesAt lines kind at = Refuses (three ++ lines) kind (103 + at) 5 (at + 1)

-- lines after three candidates stand for these ballots
abbrev pub Counts : List ℕ → List (List ℕ) → Type 0
Counts lines rankings = Says plainly (three ++ lines) ann_ben_cid [] rankings

pub record WorkedOrders : Type 0 where
  pub blanks : Counts (9 ∷ codes "3 : { 2 } , 1 " ++ 9 ∷ codes "\n") (replicate 3 (2 ∷ 1 ∷ []))
  pub no_blanks : Counts (codes "1:3,{1},2") ((3 ∷ 1 ∷ 2 ∷ []) ∷ [])
  pub zeros_in_front : Counts (codes "02: 003\n1: 1\n") ((3 ∷ []) ∷ (3 ∷ []) ∷ (1 ∷ []) ∷ [])
  pub no_ballot : RefusesAt (codes "0: 1\n") BadNumber 0
  pub too_many : RefusesAt (codes "1000000000: 1\n") TooManyBallots 0
  pub too_many_together : Refuses (three ++ codes "999999999: 1\n1: 2\n") TooManyBallots 116 6 1
  pub repeated : RefusesAt (codes "3: 2,1,2\n") Repeated 7
  pub repeated_in_braces : RefusesAt (codes "3: 2,{1,2}\n") Repeated 8
  pub nobody : RefusesAt (codes "3: 0\n") NoSuchCandidate 3
  pub above : RefusesAt (codes "3: {1,4}\n") NoSuchCandidate 6
  pub no_part : RefusesAt (codes "3: 2;1\n") BadByte 4
  pub no_part_at_front : RefusesAt (codes "x\n") BadByte 0
  pub no_part_in_braces : RefusesAt (codes "3: {1#2}\n") BadByte 5
  pub no_count : RefusesAt (codes ": 1\n") BadNumber 0
  pub blanks_alone : RefusesAt (codes " \n") BadNumber 1
  pub count_alone : RefusesAt (codes "3\n") BadNumber 1
  pub no_colon : RefusesAt (codes "3 2\n") BadNumber 2
  pub no_item : RefusesAt (codes "3:\n") BadNumber 2
  pub no_further_item : RefusesAt (codes "3: 2,\n") BadNumber 5
  pub two_commas : RefusesAt (codes "3: 2,,1\n") BadNumber 5
  pub no_comma : RefusesAt (codes "3: 2 1\n") BadNumber 5
  pub brace_behind_number : RefusesAt (codes "3: 2{1}\n") BadNumber 4
  pub number_behind_brace : RefusesAt (codes "3: {2}1\n") BadNumber 6
  pub closed_unopened : RefusesAt (codes "3: 2}\n") BadNumber 4
  pub not_closed : RefusesAt (codes "3: {2\n") BadNumber 5
  pub nobody_in_braces : RefusesAt (codes "3: {}\n") BadNumber 4
  pub braces_in_braces : RefusesAt (codes "3: {1,{2}}\n") BadNumber 6
  pub colon_in_braces : RefusesAt (codes "3: {1:2}\n") BadNumber 5
  pub comma_first : RefusesAt (codes "3: ,1\n") BadNumber 3
  pub form_before_marks : RefusesAt (codes "3: {1,2},4\n") NoSuchCandidate 9
  pub order_by_order : RefusesAt (codes "1: {1,2}\nx\n") EqualRank 3
  pub second_of_equal : RefusesAt (codes "1: 3,{2,1}\n") EqualRank 5
