-- Texts worked by hand: whole ones, and lines.
use Rattle.std.specs.Prelude.{◌≡◌, ℕ, List, [], ◌∷◌, ◌++◌, replicate, Some, None, codes, take}
use Rattle.ballot_marks.specs.declared.choice.Treat.{Treat}
use Rattle.ballot_marks.specs.declared.choice.Treat.TheVariants.{Refuse, Cut, Pass}
use Rattle.preflib_text.specs.declared.pref_fault.PrefFault.TheVariants as fault
use Rattle.preflib_text.specs.declared.pref_kind.PrefKind.{PrefKind}
use Rattle.preflib_text.specs.declared.pref_kind.PrefKind.TheVariants.{BadByte, EmptyLine, BadHeader, EqualRank}
use Rattle.preflib_text.specs.declared.pref_kind.PrefKind.TheVariants.{WrongTotal, NameExpected, NoSuchCandidate}
use Rattle.preflib_text.specs.Asked.{Asked}
use Rattle.preflib_text.specs.Ballots.{entries, orders, ballots}
use Rattle.preflib_text.specs.Head.{names, title}
use Rattle.preflib_text.specs.Refusals.{fault_of_text}

-- nothing is asked, or a title
abbrev pub plainly : Asked
plainly = record { title = None; withdrawn = []; equal = Refuse }

abbrev pub titled : List ℕ → Asked
titled title = record plainly { title = Some title }

-- this becomes of equal ranks
abbrev pub but : Treat → Asked → Asked
but equal asked = record asked { equal = equal }

-- three candidates: 103 bytes in four lines
abbrev pub three : List ℕ
three =
    codes "# NUMBER ALTERNATIVES: 3\n# ALTERNATIVE NAME 1: Ann\n# ALTERNATIVE NAME 2: Ben\n# ALTERNATIVE NAME 3: Cid\n"

abbrev pub ann_ben_cid : List (List ℕ)
ann_ben_cid = codes "Ann" ∷ codes "Ben" ∷ codes "Cid" ∷ []

-- a text has this fault at a byte, in a line and at a byte of the line
abbrev pub Refuses : List ℕ → PrefKind → (at row column : ℕ) → Type 0
Refuses bytes kind at row column =
    fault_of_text plainly bytes ≡ Some (fault.Line kind at row column)

-- a text has no fault, and says these names, this title and these ballots
pub record Says (asked : Asked) (bytes : List ℕ) (name_list : List (List ℕ))
    (election_title : List ℕ) (rankings : List (List ℕ)) : Type 0
  where
    pub no_fault : fault_of_text asked bytes ≡ None
    pub names_are : names (entries bytes) ≡ name_list
    pub title_is : title asked (entries bytes) ≡ election_title
    pub ballots_are : ballots asked.equal (orders bytes) ≡ Some rankings

pub record WorkedTexts : Type 0 where
  pub plain :
      Says plainly (codes "# TITLE: Town\n" ++ three ++ codes "# NUMBER VOTERS: 5\n3: 2,1\n2: 3\n")
      ann_ben_cid (codes "Town")
      (replicate 3 (2 ∷ 1 ∷ []) ++ replicate 2 (3 ∷ []))
  pub equal_rank : Refuses (three ++ codes "3: 2,{1,3}\n") EqualRank 108 5 6
  pub equal_rank_cut :
      Says (but Cut (titled (codes "T"))) (three ++ codes "3: 2,{1,3}\n") ann_ben_cid (codes "T") (replicate 3 (2 ∷ []))
  pub equal_rank_passed : Says (but Pass plainly) (three ++ codes "1: {1,2},3") ann_ben_cid [] ((3 ∷ []) ∷ [])
  pub equal_rank_first : Says (but Cut plainly) (three ++ codes "1: {1,2},3") ann_ben_cid [] ([] ∷ [])
  pub cut_off : Refuses (three ++ codes "# NUMBER VOTERS: 9\n3: 2,1\n") WrongTotal 129 7 1
  pub cut_off_within : Refuses (three ++ codes "# NUMBER VOTERS: 9\n3: 2,1") WrongTotal 128 7 1
  pub more_than_voters : Refuses (three ++ codes "# NUMBER VOTERS: 2\n3: 2\n") WrongTotal 127 7 1
  pub no_name : Refuses (take 77 three ++ codes "3: 2\n") NameExpected 77 4 1
  pub no_such_candidate : Refuses (three ++ codes "3: 2,4\n") NoSuchCandidate 108 5 6
  pub no_orders : Says (titled (codes "T")) (codes "# TITLE: Town\n" ++ three) ann_ben_cid (codes "T") []
  pub nobody_voted : Says plainly (three ++ codes "# NUMBER VOTERS: 0\n") ann_ben_cid [] []
  pub nothing : Refuses [] BadHeader 0 1 1
  pub marked_and_nothing : Refuses (0xEF ∷ 0xBB ∷ 0xBF ∷ []) BadHeader 3 1 1
  pub places_behind_a_mark :
      Refuses
      (0xEF ∷ 0xBB ∷ 0xBF ∷ codes "# NUMBER ALTERNATIVES: 1\r\n# ALTERNATIVE NAME 1: Ann\r\n2: 2\r\n")
      NoSuchCandidate 59 3 4
  pub returns :
      Says plainly
      (0xEF ∷ 0xBB ∷ 0xBF ∷ codes "# NUMBER ALTERNATIVES: 1\r\n# ALTERNATIVE NAME 1: Ann\r\n2: 1\r\n1: 1")
      (codes "Ann" ∷ []) [] (replicate 3 (1 ∷ []))
  pub return_at_end : Refuses (three ++ codes "3: 2\r") BadByte 107 5 5
  pub return_within : Refuses (three ++ codes "3: 2\r,1\n") BadByte 107 5 5
  pub control_byte : Refuses (three ++ codes "3: 2" ++ 7 ∷ codes ",x\n") BadByte 107 5 5
  pub control_byte_first : Refuses (codes "3: x" ++ 31 ∷ []) BadByte 4 1 5
  pub control_byte_in_metadata : Refuses (codes "# NUMBER ALTERNATIVES: x" ++ 1 ∷ codes "\n") BadByte 24 1 25
  pub empty_line : Refuses (three ++ codes "3: 2\n\n") EmptyLine 108 6 1
  pub empty_line_in_metadata : Refuses (codes "# NUMBER ALTERNATIVES: 3\n\n") EmptyLine 25 2 1
  pub empty_line_of_a_return : Refuses (three ++ codes "\r\n3: 2\n") EmptyLine 103 5 1
