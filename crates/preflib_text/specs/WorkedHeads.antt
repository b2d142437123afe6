-- Metadata worked by hand.
use Rattle.std.specs.Prelude.{◌≡◌, ℕ, List, [], ◌∷◌, ◌++◌, replicate, Some, codes, take}
use Rattle.preflib_text.specs.declared.pref_fault.PrefFault.TheVariants as fault
use Rattle.preflib_text.specs.declared.pref_kind.PrefKind.TheVariants.{BadByte, BadHeader, BadNumber, BadName}
use Rattle.preflib_text.specs.declared.pref_kind.PrefKind.TheVariants.{NameExpected, TooLongName, NoSuchCandidate}
use Rattle.preflib_text.specs.declared.pref_kind.PrefKind.TheVariants.{Repeated, BadWithdrawn}
use Rattle.preflib_text.specs.Asked.{Asked}
use Rattle.preflib_text.specs.Worked.{plainly, titled, three, ann_ben_cid, Refuses, Says}
use Rattle.preflib_text.specs.Refusals.{fault_of_text}

-- the number of candidates alone: 25 bytes
abbrev pub number : List ℕ
number = codes "# NUMBER ALTERNATIVES: 3\n"

-- these are withdrawn
abbrev pub without : List ℕ → Asked
without withdrawn = record plainly { withdrawn = withdrawn }

-- one of the withdrawn, by place, is no candidate of a text
abbrev pub RefusesWithdrawn : List ℕ → List ℕ → (place : ℕ) → Type 0
RefusesWithdrawn withdrawn bytes place =
    fault_of_text (without withdrawn) bytes ≡ Some (fault.Word BadWithdrawn place)

pub record WorkedHeads : Type 0 where
  pub no_number : Refuses (codes "# FILE NAME: x\n") BadHeader 15 2 1
  pub number_zero : Refuses (codes "# NUMBER ALTERNATIVES: 0\n") BadHeader 23 1 24
  pub number_too_great : Refuses (codes "# NUMBER ALTERNATIVES: 251\n") BadHeader 23 1 24
  pub greatest_number : Refuses (codes "# NUMBER ALTERNATIVES: 250\n") NameExpected 27 2 1
  pub no_value : Refuses (codes "# NUMBER ALTERNATIVES: \n") BadHeader 23 1 24
  pub no_digits : Refuses (codes "# NUMBER ALTERNATIVES:  3x\n") BadHeader 24 1 25
  pub voters : Refuses (codes "#NUMBER VOTERS:five\n") BadNumber 15 1 16
  pub title_with_a_quote : Refuses (codes "# TITLE: A \"b\"\n") BadName 9 1 10
  pub title_with_a_tab : Refuses (codes "# TITLE: A" ++ 9 ∷ codes "b\n") BadName 9 1 10
  pub title_not_judged : Says (titled (codes "T")) (codes "# TITLE: \"\n" ++ three) ann_ben_cid (codes "T") []
  pub long_title : Refuses (codes "# TITLE: " ++ replicate 1001 65) TooLongName 9 1 10
  pub longest_title : Refuses (codes "# TITLE: " ++ replicate 1000 65) BadHeader 1009 2 1
  pub empty_title : Says plainly (codes "# TITLE:\n" ++ three) ann_ben_cid [] []
  pub colons_in_title : Says plainly (codes "# TITLE: A: b\n" ++ three) ann_ben_cid (codes "A: b") []
  pub no_name : Refuses (number ++ codes "# ALTERNATIVE NAME 1:\n") NameExpected 46 2 22
  pub name_with_a_quote : Refuses (number ++ codes "# ALTERNATIVE NAME 1: \"Ann\"\n") BadName 47 2 23
  pub long_name : Refuses (number ++ codes "# ALTERNATIVE NAME 1: " ++ replicate 201 65) TooLongName 47 2 23
  pub longest_name : Refuses (number ++ codes "# ALTERNATIVE NAME 1: " ++ replicate 200 65) NameExpected 247 3 1
  pub name_before_number : Refuses (codes "# ALTERNATIVE NAME 1: Ann\n" ++ number) NoSuchCandidate 22 1 23
  pub name_of_nobody : Refuses (number ++ codes "# ALTERNATIVE NAME 4: Dee\n") NoSuchCandidate 47 2 23
  pub name_of_zero : Refuses (number ++ codes "# ALTERNATIVE NAME 0: Dee\n") NoSuchCandidate 47 2 23
  pub name_of_no_number : Refuses (number ++ codes "# ALTERNATIVE NAME one: Ann\n") NoSuchCandidate 49 2 25
  pub two_spaces : Refuses (number ++ codes "# ALTERNATIVE NAME  1: Ann\n") NoSuchCandidate 48 2 24
  pub number_again : Refuses (three ++ codes "# NUMBER ALTERNATIVES: x\n") Repeated 126 5 24
  pub name_again : Refuses (three ++ codes "# ALTERNATIVE NAME 01: Dee\n") Repeated 126 5 24
  pub title_again : Refuses (codes "# TITLE: A\n# TITLE: B\n") Repeated 20 2 10
  pub voters_again : Refuses (codes "# NUMBER VOTERS: 1\n# NUMBER VOTERS: 1\n") Repeated 36 2 18
  pub names_alike :
      Says plainly
      (codes "# NUMBER ALTERNATIVES: 2\n# ALTERNATIVE NAME 2: Ann\n# ALTERNATIVE NAME 1: Ann \n")
      (codes "Ann" ∷ codes "Ann" ∷ []) [] []
  pub names_by_number :
      Says plainly (codes "# NUMBER ALTERNATIVES: 2\n# ALTERNATIVE NAME 2: Ben\n# ALTERNATIVE NAME 1: Ann\n")
      (codes "Ann" ∷ codes "Ben" ∷ []) [] []
  pub not_used :
      Says plainly
      (codes "#\n# TITLE\n# DATA TYPE: soc\n# ALTERNATIVE NAME: x\n# DATA TYPE: toi\n# Title: x\n" ++ three)
      ann_ben_cid [] []
  pub no_name_at_end : Refuses (take 77 three) NameExpected 77 4 1
  pub metadata_behind_an_order : Refuses (three ++ codes "3: 2\n# TITLE: Town\n") BadNumber 108 6 1
  pub blank_before_metadata : Refuses (three ++ codes " # TITLE: Town\n") BadByte 104 5 2
  pub withdrawn : Says (without (3 ∷ 3 ∷ [])) three ann_ben_cid [] []
  pub withdrawn_above : RefusesWithdrawn (1 ∷ 4 ∷ 5 ∷ []) (three ++ codes "x\n") 2
  pub withdrawn_zero : RefusesWithdrawn (0 ∷ []) three 1
