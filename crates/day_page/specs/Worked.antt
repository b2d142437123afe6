-- A day worked by hand, as a text, as a table and as JSON.
use Rattle.std.specs.Prelude.{◌≡◌, List, ℕ, [], ◌∷◌, ◌++◌, true, false, codes}
use Rattle.std.specs.List.{flat_map}
use Rattle.sheet_text.specs.Lines.{ended}
use Rattle.day_text.specs.End.{DayEndList}
use Rattle.day_text.specs.Worked.{values}
use Rattle.day_page.specs.DayCsv.{day_csv}
use Rattle.day_page.specs.DayJson.{json_with}
use Rattle.day_page.specs.DayMinutes.{minutes_with}

-- what is in the end of the day that is worked by hand with the form of its text
abbrev pub end : DayEndList
end = record {
  batches = record { number = 2; revision = 2; stands = true } ∷ record { number = 3; revision = 2; stands = false } ∷ [];
  struck = 2 ∷ [];
}

-- lines one after another, each with its line feed
abbrev pub text : List (List ℕ) → List ℕ
text lines = flat_map ended lines

-- The day has a freeze of team 1, a candidate who is struck after it, and the office's own freeze. Both sheets have no iteration.
abbrev pub WorkedDay : Type 0
WorkedDay =
    minutes_with 9 values.history values.sheets end
    ≡ text (codes "A day of ballot entry"
    ∷ []
    ∷ codes "Calls"
    ∷ codes "Number Who     Call               Answer"
    ∷ codes "     1 team 1  enter 3            entered"
    ∷ codes "     2 team 16 enter 2            entered"
    ∷ codes "     3 team 16 correct 2 1        corrected 2"
    ∷ codes "     4 team 1  withdraw 2 1       stale 2"
    ∷ codes "     5 team 1  withdraw 3 1       withdrawn 2"
    ∷ codes "     6 team 1  correct 3 2        gone 2"
    ∷ codes "     7 team 1  freeze             frozen"
    ∷ codes "     8 team 1  strike 2           struck"
    ∷ codes "     9 clerk   freeze             frozen"
    ∷ []
    ∷ codes "What stands in the end"
    ∷ codes "Batches that were entered: 2. Candidates who were struck: 1."
    ∷ codes "Batch 2 stands at revision 2."
    ∷ codes "Batch 3 was withdrawn, at revision 2."
    ∷ codes "Candidate 2 was struck."
    ∷ []
    ∷ codes "Freeze 9, the office's own: what stands after call 9"
    ∷ []
    ∷ codes "T"
    ∷ codes "Seats: 2. Ballots: 5."
    ∷ []
    ∷ codes "Result"
    ∷ codes "End: No more candidates are left than seats."
    ∷ codes "End: A (1) is elected: there is a seat for each who remains."
    ∷ codes "A (1): elected"
    ∷ codes "B (2): withdrawn"
    ∷ []
    ∷ codes "Votes at the end of each round"
    ∷ codes "Behind each round: H hopeful, E elected, D defeated, W withdrawn"
    ∷ []
    ∷ codes "Decisions"
    ∷ []
    ∷ codes "Freeze 7: what stands after call 7"
    ∷ []
    ∷ codes "T"
    ∷ codes "Seats: 2. Ballots: 5."
    ∷ []
    ∷ codes "Result"
    ∷ codes "End: No more candidates are left than seats."
    ∷ codes "End: A (1) is elected: there is a seat for each who remains."
    ∷ codes "End: B (2) is elected: there is a seat for each who remains."
    ∷ codes "A (1): elected"
    ∷ codes "B (2): elected"
    ∷ []
    ∷ codes "Votes at the end of each round"
    ∷ codes "Behind each round: H hopeful, E elected, D defeated, W withdrawn"
    ∷ []
    ∷ codes "Decisions"
    ∷ [])

-- lines one after another, each with a carriage return (13) and a line feed (10)
abbrev pub returned : List (List ℕ) → List ℕ
returned lines = flat_map (λ line. line ++ 13 ∷ 10 ∷ []) lines

-- The calls of the same day as a table.
abbrev pub WorkedTable : Type 0
WorkedTable =
    day_csv values
    ≡ returned (codes "number,caller,call,answer"
    ∷ codes "1,team 1,enter 3,entered"
    ∷ codes "2,team 16,enter 2,entered"
    ∷ codes "3,team 16,correct 2 1,corrected 2"
    ∷ codes "4,team 1,withdraw 2 1,stale 2"
    ∷ codes "5,team 1,withdraw 3 1,withdrawn 2"
    ∷ codes "6,team 1,correct 3 2,gone 2"
    ∷ codes "7,team 1,freeze,frozen"
    ∷ codes "8,team 1,strike 2,struck"
    ∷ codes "9,clerk,freeze,frozen"
    ∷ [])

-- The same day as JSON, without the line feed after it.
abbrev pub WorkedJson : Type 0
WorkedJson =
    json_with 9 values.history values.sheets end
    ≡ codes "{\"calls\":[{\"number\":1,\"caller\":1,\"call\":\"enter 3\",\"answer\":\"entered\"},"
    ++ codes "{\"number\":2,\"caller\":16,\"call\":\"enter 2\",\"answer\":\"entered\"},"
    ++ codes "{\"number\":3,\"caller\":16,\"call\":\"correct 2 1\",\"answer\":\"corrected 2\"},"
    ++ codes "{\"number\":4,\"caller\":1,\"call\":\"withdraw 2 1\",\"answer\":\"stale 2\"},"
    ++ codes "{\"number\":5,\"caller\":1,\"call\":\"withdraw 3 1\",\"answer\":\"withdrawn 2\"},"
    ++ codes "{\"number\":6,\"caller\":1,\"call\":\"correct 3 2\",\"answer\":\"gone 2\"},"
    ++ codes "{\"number\":7,\"caller\":1,\"call\":\"freeze\",\"answer\":\"frozen\"},"
    ++ codes "{\"number\":8,\"caller\":1,\"call\":\"strike 2\",\"answer\":\"struck\"},"
    ++ codes "{\"number\":9,\"caller\":0,\"call\":\"freeze\",\"answer\":\"frozen\"}],"
    ++ codes "\"batches\":[{\"number\":2,\"revision\":2,\"stands\":true},{\"number\":3,\"revision\":2,\"stands\":false}],"
    ++ codes "\"struck\":[2],"
    ++ codes "\"freezes\":[{\"at\":7,\"own\":false,\"sheet\":{\"title\":\"T\",\"seats\":2,\"ballots\":5,"
    ++ codes "\"candidates\":[{\"number\":1,\"name\":\"A\",\"outcome\":\"elected\"},"
    ++ codes "{\"number\":2,\"name\":\"B\",\"outcome\":\"elected\"}],\"iterations\":[]}},"
    ++ codes "{\"at\":9,\"own\":true,\"sheet\":{\"title\":\"T\",\"seats\":2,\"ballots\":5,"
    ++ codes "\"candidates\":[{\"number\":1,\"name\":\"A\",\"outcome\":\"elected\"},"
    ++ codes "{\"number\":2,\"name\":\"B\",\"outcome\":\"withdrawn\"}],\"iterations\":[]}}]}"
