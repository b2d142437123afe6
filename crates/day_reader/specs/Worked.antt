-- Day files worked by hand.
use Rattle.std.specs.Prelude.{◌≡◌, ℕ, List, [], ◌∷◌, ◌++◌, false, codes, Result, Ok, Err}
use Rattle.candidate_roll.specs.Roll.{RollList}
use Rattle.batch_core.specs.declared.change.Change.TheVariants.{Enter, Correct, Withdraw}
use Rattle.batch_core.specs.declared.call.Call.TheVariants.{Change, Freeze, Strike}
use Rattle.input_text.specs.declared.fault_kind.FaultKind.{FaultKind}
use Rattle.input_text.specs.declared.fault_kind.FaultKind.TheVariants.{BadByte, NoSuchCandidate, Repeated, Ended, Trailing, BallotsInRoll, BadLots, WordExpected, BadTeam, BadBatch, BadRevision, BatchTooLarge, TooManyFreezes, BadPlaces, BadOmega}
use Rattle.input_text.specs.declared.input_fault.InputFault.{InputFault}
use Rattle.day_reader.specs.declared.day.Day.{Day}
use Rattle.day_reader.specs.Said.{reading}

-- two candidates for one seat
abbrev pub two : RollList
two = record { seats = 1; names = codes "A" ∷ codes "B" ∷ []; title = codes "T"; withdrawn = false ∷ false ∷ [] }

-- their lots, 29 bytes
abbrev pub head : List ℕ
head = codes "2 1\n0\n\"A\" \"B\" \"T\"\nlots 2 1 0\n"

-- each call of one team
abbrev pub EachCall : Type 0
EachCall =
    reading (head ++ codes "team 1\nenter 7\n3 1 2 0\n0\ncorrect 7 1\n1 2 0\n0\nwithdraw 7 2\nstrike 2\nfreeze\nend\n")
    ≡ Ok (record {
      roll = two;
      lots = 2 ∷ 1 ∷ [];
      places = 9;
      omega = 1000;
      scripts = record {
        team = 1;
        calls = Change (Enter 7 (record { candidates = 2; lines = record { count = 3; ranking = 1 ∷ 2 ∷ [] } ∷ [] }))
            ∷ Change (Correct 7 1 (record { candidates = 2; lines = record { count = 1; ranking = 2 ∷ [] } ∷ [] }))
            ∷ Change (Withdraw 7 2)
            ∷ Strike 2
            ∷ Freeze
            ∷ [];
      } ∷ [];
    })

-- teams in another order, and other places
abbrev pub TurnedTeams : Type 0
TurnedTeams =
    reading (head ++ codes "places 6 omega 1\nteam 3\nteam 1\nfreeze\nend\n")
    ≡ Ok (record {
      roll = two;
      lots = 2 ∷ 1 ∷ [];
      places = 6;
      omega = 1;
      scripts = record { team = 1; calls = Freeze ∷ [] } ∷ record { team = 3; calls = [] } ∷ [];
    })

abbrev pub refused : FaultKind → ℕ → Result Day InputFault
refused kind at = Err (record { kind = kind; at = at })

-- refusals up to the first team
pub record HeadRefusals : Type 0 where
  pub ballots_in_the_roll : reading (codes "2 1\n1 1 0\n0\n") ≡ refused BallotsInRoll 4
  pub lot_twice : reading (codes "2 1\n0\n\"A\" \"B\" \"T\"\nlots 2 2 0\n") ≡ refused BadLots 25
  pub lot_missing : reading (codes "2 1\n0\n\"A\" \"B\" \"T\"\nlots 2 0\n") ≡ refused BadLots 25
  pub nothing : reading head ≡ refused Ended 29
  pub call_without_team : reading (head ++ codes "enter 7\n0\nend\n") ≡ refused WordExpected 29
  pub capital_letters : reading (head ++ codes "TEAM 1\nend\n") ≡ refused BadByte 29
  pub few_places : reading (head ++ codes "places 5 omega 1\n") ≡ refused BadPlaces 36
  pub no_omega : reading (head ++ codes "places 6 omega 0\n") ≡ refused BadOmega 44
  pub places_alone : reading (head ++ codes "places 6 team 1\n") ≡ refused WordExpected 38
  pub end_twice : reading (head ++ codes "end\nend\n") ≡ refused Trailing 33

-- refusals among the teams
pub record TeamRefusals : Type 0 where
  pub no_such_team : reading (head ++ codes "team 17\nend\n") ≡ refused BadTeam 34
  pub team_twice : reading (head ++ codes "team 1\nteam 1\nend\n") ≡ refused BadTeam 41
  pub late_places : reading (head ++ codes "team 1\nplaces 6\n") ≡ refused WordExpected 36
  pub no_such_batch : reading (head ++ codes "team 1\nenter 10000\n0\nend\n") ≡ refused BadBatch 42
  pub no_such_revision : reading (head ++ codes "team 1\nwithdraw 7 0\nend\n") ≡ refused BadRevision 47
  pub large_batch : reading (head ++ codes "team 1\nenter 7\n100001 1 0\n0\nend\n") ≡ refused BatchTooLarge 44
  pub rank_twice : reading (head ++ codes "team 1\nenter 7\n1 1 1 0\n0\nend\n") ≡ refused Repeated 48
  pub strike_nobody : reading (head ++ codes "team 1\nstrike 3\nend\n") ≡ refused NoSuchCandidate 43
  pub ninth_freeze : reading (head ++ codes "team 1\nfreeze\nfreeze\nfreeze\nfreeze\nfreeze\nfreeze\nfreeze\nfreeze\nfreeze\nend\n") ≡ refused TooManyFreezes 92
  pub no_end : reading (head ++ codes "team 1\nfreeze\n") ≡ refused Ended 43
