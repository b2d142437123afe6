use Rattle.std.proofs.Common.{ℕ, refl, sym, ◌∙◌, subst}
use Rattle.std.specs.Option.{option_map}
use Rattle.plain_ballots.specs.declared.limits.TheConstants.{MOST_BALLOTS}
use Rattle.ballot_table.specs.Imported.{stop_at}
use Rattle.ballot_table.specs.Left.{stop_left}
use Rattle.ballot_table.specs.Asked.{asked_of}
use Rattle.ballot_table.specs.Refusals.{whole_fault}
use Rattle.ballot_table.specs.Sheets.{row_at}
use Rattle.ballot_table.proofs.LeftLemmas.{IsGoing, going_begun, going_ballots, going_end, going_more, going_stop, going_stops}
use Rattle.ballot_table.proofs.LeftLemmas.{going_tally, same_stop}
use Rattle.ballot_table.proofs.reader.take_each.Goals as goal

pub rows-init : goal.rows-init
rows-init c =
    let all = c.args.sheet.now.records.rest in
    let taken = c.args.taken.now in
    let cols = c.args.columns.now in
    record {
      going =
          subst (λ (n : ℕ). IsGoing c.args.asked.now cols all n all taken.ballots taken.tally) (sym c.requires.room)
          (going_begun c.args.asked.now cols all taken.ballots taken.tally c.requires.ballots c.requires.tally);
      candidates = refl;
    }

pub take-requires-clause-room : goal.take-requires-clause-room
take-requires-clause-room c = c.rows.invariant.going.room_is

pub take-requires-clause-names : goal.take-requires-clause-names
take-requires-clause-names c = c.requires.names

pub take-requires-clause-few : goal.take-requires-clause-few
take-requires-clause-few c = c.requires.few

pub take-requires-clause-candidates : goal.take-requires-clause-candidates
take-requires-clause-candidates c = c.requires.candidates ∙ sym c.rows.invariant.candidates

pub rows-preserved : goal.rows-preserved
rows-preserved c =
    let a = c.args.asked.now in
    let all = c.args.sheet.now.records.rest in
    let l = c.rows in
    let new = c.next.new.self in
    let turned = rw c.in-Ok-Some.field-0-is at c.in-Ok-Some.ensures in
    let taken = c.in-Ok.ensures in
    record {
      going = going_more a c.args.columns.now all l.taken.room l.sheet.records.rest l.taken.ballots l.taken.tally l.invariant.going
          (row_at new c.in-Ok-Some.place) new.records.rest new.texts c.take.new.self.room c.take.new.self.ballots
          c.take.new.self.tally
          turned.rest turned.texts taken.sound taken.room taken.added taken.tallied;
      candidates = taken.candidates ∙ l.invariant.candidates;
    }

pub returns-in-Err-take : goal.returns-in-Err-take
returns-in-Err-take c =
    let a = c.args.asked.now in
    let all = c.args.sheet.now.records.rest in
    let l = c.rows in
    let new = c.next.new.self in
    let turned = rw c.in-Ok-Some.field-0-is at c.in-Ok-Some.ensures in
    let cols = c.args.columns.now in
    let row = row_at new c.in-Ok-Some.place in
    let found = c.in-Err-take.stop in
    same_stop (option_map (stop_at row) (whole_fault (asked_of a) a.treatment a.empty l.taken.room cols new.texts))
    (stop_left a cols MOST_BALLOTS all) found
    (going_stop a cols all l.taken.room l.sheet.records.rest l.taken.ballots l.taken.tally l.invariant.going row new.records.rest
    new.texts found
    turned.rest turned.texts)
    c.in-Err-take.ensures

pub returns-in-Ok-None : goal.returns-in-Ok-None
returns-in-Ok-None c =
    let a = c.args.asked.now in
    let all = c.args.sheet.now.records.rest in
    let l = c.rows in
    let left = l.sheet.records.rest in
    let cols = c.args.columns.now in
    let end = rw c.in-Ok-None.field-0-is at c.in-Ok-None.ensures in
    let going = l.invariant.going in
    record {
      sound = going_end a cols all l.taken.room left l.taken.ballots l.taken.tally going end;
      candidates = l.invariant.candidates;
      ballots_are = going_ballots a cols all l.taken.room left l.taken.ballots l.taken.tally going end;
      tally_is = going_tally a cols all l.taken.room left l.taken.ballots l.taken.tally going end;
    }

pub returns-in-Err : goal.returns-in-Err
returns-in-Err c =
    let a = c.args.asked.now in
    let all = c.args.sheet.now.records.rest in
    let l = c.rows in
    let found = c.in-Err.stop in
    going_stops a c.args.columns.now all l.taken.room l.taken.ballots l.taken.tally l.sheet c.next.new.self l.invariant.going
    found c.in-Err.ensures
