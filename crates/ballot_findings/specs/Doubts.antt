-- What of candidates and of pairs of them wants a look, as the code asks for it.
use Rattle.std.specs.Prelude.{ℕ, Bool, not, List, codes}
use Rattle.candidate_roll.specs.Roll.{RollList}
use Rattle.ballot_findings.specs.declared.doubt.Doubt.{Doubt}
use Rattle.ballot_findings.specs.declared.doubt.Doubt.TheVariants.{Name, Unranked}
use Rattle.ballot_findings.specs.declared.likeness.Likeness.{Likeness}
use Rattle.ballot_findings.specs.declared.likeness.Likeness.TheVariants.{Same, Similar}
use Rattle.ballot_findings.specs.Names.{have_like_names, have_one_name, name_of}
use Rattle.ballot_findings.specs.Oddities.{is_odd, name_words}
use Rattle.ballot_findings.specs.Tally.{TallyList, was_ranked}

abbrev pub doubt_words : Doubt → List ℕ
doubt_words (Name oddity) = name_words oddity
doubt_words Unranked = codes "look on no ballot"

abbrev pub is_doubtful : Doubt → RollList → TallyList → (c : ℕ) → Bool
is_doubtful (Name oddity) roll tally c = is_odd oddity (name_of roll.names c)
is_doubtful Unranked roll tally c = not (was_ranked tally c)

abbrev pub like_words : Likeness → List ℕ
like_words Same = codes "look same name"
like_words Similar = codes "look similar name"

abbrev pub are_like : Likeness → (names : List (List ℕ)) → (c d : ℕ) → Bool
are_like Same names c d = have_one_name names c d
are_like Similar names c d = have_like_names names c d
