-- A day worked by hand: its text, and what is in the end.
use Rattle.std.specs.Prelude.{◌≡◌, ℕ, List, [], ◌∷◌, true, false, codes}
use Rattle.candidate_roll.specs.declared.state.State.TheVariants.{Elected, Withdrawn}
use Rattle.batch_core.specs.declared.change.Change.TheVariants.{Enter, Correct, Withdraw}
use Rattle.batch_core.specs.declared.call.Call.TheVariants.{Change, Freeze, Strike}
use Rattle.batch_core.specs.declared.reply.Reply.TheVariants as reply
use Rattle.batch_core.specs.declared.entry.Entry.{Entry}
use Rattle.batch_core.specs.Book.{empty}
use Rattle.batch_core.specs.Histories.{after_all}
use Rattle.day_text.specs.Without.{no_ballots}
use Rattle.day_text.specs.Values.{FrozenSheet, DayTextList}
use Rattle.day_text.specs.Form.{HasDayForm}
use Rattle.day_text.specs.End.{batch_ends}

-- batch 2 is corrected and batch 3 withdrawn; two changes are refused, and candidate 2 is struck between two freezes
abbrev pub calls : List Entry
calls =
    record { caller = 1; call = Change (Enter 3 no_ballots); reply = reply.Entered }
    ∷ record { caller = 16; call = Change (Enter 2 no_ballots); reply = reply.Entered }
    ∷ record { caller = 16; call = Change (Correct 2 1 no_ballots); reply = reply.Corrected 2 }
    ∷ record { caller = 1; call = Change (Withdraw 2 1); reply = reply.Stale 2 }
    ∷ record { caller = 1; call = Change (Withdraw 3 1); reply = reply.Withdrawn 2 }
    ∷ record { caller = 1; call = Change (Correct 3 2 no_ballots); reply = reply.Gone 2 }
    ∷ record { caller = 1; call = Freeze; reply = reply.Frozen }
    ∷ record { caller = 1; call = Strike 2; reply = reply.Struck }
    ∷ record { caller = 0; call = Freeze; reply = reply.Frozen }
    ∷ []

-- the sheets of both freezes, without an iteration: there are as many seats as candidates
abbrev pub before : FrozenSheet
before = record {
  freeze = 7;
  values = record {
    title = codes "T";
    seats = 2;
    ballots = 5;
    names = codes "A" ∷ codes "B" ∷ [];
    rows = [];
    last = Elected ∷ Elected ∷ [];
  };
}

abbrev pub behind : FrozenSheet
behind = record {
  freeze = 9;
  values = record {
    title = codes "T";
    seats = 2;
    ballots = 5;
    names = codes "A" ∷ codes "B" ∷ [];
    rows = [];
    last = Elected ∷ Withdrawn ∷ [];
  };
}

abbrev pub values : DayTextList
values = record { history = calls; sheets = before ∷ behind ∷ [] }

abbrev pub text : List ℕ
text =
    codes "1 team 1 enter 3 entered\n2 team 16 enter 2 entered\n3 team 16 correct 2 1 corrected 2\n4 team 1 withdraw 2 1 stale 2\n5 team 1 withdraw 3 1 withdrawn 2\n6 team 1 correct 3 2 gone 2\n7 team 1 freeze frozen\n8 team 1 strike 2 struck\n9 clerk freeze frozen\nsheet 7\ntitle T\nseats 2\ncandidates 2\nballots 5\nresult\n1 elected A\n2 elected B\nend\nsheet 9\ntitle T\nseats 2\ncandidates 2\nballots 5\nresult\n1 elected A\n2 withdrawn B\nend\n"

-- The text is that of these values.
abbrev pub WorkedText : Type 0
WorkedText = HasDayForm 9 text values

-- Of the first three batches the first was never entered, the second is at revision 2, and the third is gone at
-- revision 2.
abbrev pub WorkedEnd : Type 0
WorkedEnd =
    batch_ends (after_all empty calls) 3
    ≡ record { number = 2; revision = 2; stands = true } ∷ record { number = 3; revision = 2; stands = false } ∷ []
