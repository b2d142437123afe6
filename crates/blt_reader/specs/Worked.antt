-- Ballot files worked by hand.
use Rattle.std.specs.Prelude.{◌≡◌, ℕ, [], ◌∷◌, ◌++◌, true, false, codes, replicate, Result, Ok, Err}
use Rattle.input_text.specs.declared.fault_kind.FaultKind.{FaultKind}
use Rattle.input_text.specs.declared.fault_kind.FaultKind.TheVariants.{BadByte, BadNumber, BadHeader, BadWithdrawn, NoSuchCandidate, Repeated, TooManyBallots, NameExpected, TooLongName, Ended, Trailing}
use Rattle.input_text.specs.declared.input_fault.InputFault.{InputFault}
use Rattle.blt_reader.specs.Poll.{Poll}
use Rattle.blt_reader.specs.Said.{reading}

-- a comment, a withdrawn candidate and six lines
abbrev pub SampleFile : Type 0
SampleFile =
    reading (codes "# sample\n4 2\n-2\n3 1 3 4 0\n4 1 3 2 0\n2 4 1 3 0\n1 2 0\n2 2 4 3 1 0\n1 3 4 2 0\n0\n\"Ann\"\n\"Ben\"\n\"Cid\"\n\"Dee\"\n\"Sample\"\n")
    ≡ Ok (record {
      roll = record {
        seats = 2;
        names = codes "Ann" ∷ codes "Ben" ∷ codes "Cid" ∷ codes "Dee" ∷ [];
        title = codes "Sample";
        withdrawn = false ∷ true ∷ false ∷ false ∷ [];
      };
      lines = record { count = 3; ranking = 1 ∷ 3 ∷ 4 ∷ [] }
          ∷ record { count = 4; ranking = 1 ∷ 3 ∷ 2 ∷ [] }
          ∷ record { count = 2; ranking = 4 ∷ 1 ∷ 3 ∷ [] }
          ∷ record { count = 1; ranking = 2 ∷ [] }
          ∷ record { count = 2; ranking = 2 ∷ 4 ∷ 3 ∷ 1 ∷ [] }
          ∷ record { count = 1; ranking = 3 ∷ 4 ∷ 2 ∷ [] }
          ∷ [];
    })

-- a byte order mark, carriage returns, a candidate withdrawn twice, an empty ballot, leading zeros, and strings after
-- the title
abbrev pub MarkedFile : Type 0
MarkedFile =
    reading (0xEF ∷ 0xBB ∷ 0xBF ∷ codes "3 1 # one seat\r\n-3 -3\r\n2 0\r\n007 1 0\r\n1 3 0\r\n2 2 0\r\n0\r\n\"A\" \"B\" \"C\"\r\n\"T\" \"note\" \"x\"\r\n")
    ≡ Ok (record {
      roll = record {
        seats = 1;
        names = codes "A" ∷ codes "B" ∷ codes "C" ∷ [];
        title = codes "T";
        withdrawn = false ∷ false ∷ true ∷ [];
      };
      lines = record { count = 2; ranking = [] }
          ∷ record { count = 7; ranking = 1 ∷ [] }
          ∷ record { count = 1; ranking = 3 ∷ [] }
          ∷ record { count = 2; ranking = 2 ∷ [] }
          ∷ [];
    })

abbrev pub refused : FaultKind → ℕ → Result Poll InputFault
refused kind at = Err (record { kind = kind; at = at })

-- each kind of refusal
pub record Refusals : Type 0 where
  pub nothing : reading [] ≡ refused Ended 0
  pub no_candidates : reading (codes "0 1\n") ≡ refused BadHeader 0
  pub no_seats : reading (codes "2 0\n") ≡ refused BadHeader 2
  pub withdrawn_nobody : reading (codes "2 1\n-3\n") ≡ refused BadWithdrawn 4
  pub no_such_candidate : reading (codes "2 1\n1 3 0\n") ≡ refused NoSuchCandidate 6
  pub twice_on_a_ballot : reading (codes "3 1\n1 3 3 0\n") ≡ refused Repeated 8
  pub equal_ranks : reading (codes "3 1\n1 1=2 0\n") ≡ refused BadByte 7
  pub withdrawn_late : reading (codes "2 1\n1 1 0\n-1\n") ≡ refused BadNumber 10
  pub one_ballot_too_many : reading (codes "2 1\n999999999 1 0\n1 2 0\n") ≡ refused TooManyBallots 18
  pub past_32_bits : reading (codes "2 1\n4294967297 1 0\n") ≡ refused TooManyBallots 4
  pub no_name : reading (codes "1 1\n0\n7\n") ≡ refused NameExpected 6
  pub long_name : reading (codes "1 1\n0\n\"" ++ (replicate 201 65 ++ codes "\"\n\"T\"\n")) ≡ refused TooLongName 6
  pub open_name : reading (codes "1 1\n0\n\"An") ≡ refused Ended 9
  pub no_title : reading (codes "1 1\n0\n\"A\"\n") ≡ refused Ended 10
  pub behind_the_title : reading (codes "1 1\n0\n\"A\" \"T\" 5\n") ≡ refused Trailing 14
