use Rattle.std.proofs.Common.{◌≡◌, ap, sym, ◌∙◌, subst, Some, Ok}
use Rattle.preflib_text.specs.Parts.{parts}
use Rattle.preflib_text.specs.Standing.{starting, read, IsOrderStop}
use Rattle.preflib_text.proofs.ReadItems.{IsOrder, order_read}
use Rattle.preflib_text.proofs.order.Order.judge.Goals.{In-Ok}
use Rattle.preflib_text.specs.Items.{count_of, items}
use Rattle.preflib_text.proofs.WithinLemmas.{marks_in, places_in}
use Rattle.preflib_text.proofs.StandLemmas.{read_sound, read_misplaced}
use Rattle.preflib_text.proofs.order.Order.judge.Goals as goal

-- the order is read from the bytes of the line
read_line : (c : In-Ok)
    → read c.args.room (starting c.args.self.now.candidates) (parts c.args.line.now.bytes) ≡ Ok c.read.new.self
read_line c =
    ap (λ bytes. read c.args.room (starting c.args.self.now.candidates) (parts bytes)) (sym c.bytes.ensures)
    ∙ c.in-Ok.ensures.ok

whole : (c : In-Ok) → IsOrder c.args.room c.read.new.self (count_of c.args.line.now) (items c.args.line.now)
whole c = order_read c.args.room c.args.line.now c.args.self.now.candidates c.read.new.self (read_line c)

pub returns-in-Ok-clause-sound : goal.returns-in-Ok-clause-sound
returns-in-Ok-clause-sound c =
    read_sound c.args.line.now c.args.room c.args.self.now.candidates c.read.new.self
    (read_line ((goal.at.returns-in-Ok-clause-sound c).In-Ok))

pub returns-in-Ok-clause-count : goal.returns-in-Ok-clause-count
returns-in-Ok-clause-count c = (whole ((goal.at.returns-in-Ok-clause-count c).In-Ok)).count_is

pub returns-in-Ok-clause-marks : goal.returns-in-Ok-clause-marks
returns-in-Ok-clause-marks c = (whole ((goal.at.returns-in-Ok-clause-marks c).In-Ok)).marks_are

pub returns-in-Ok-clause-places : goal.returns-in-Ok-clause-places
returns-in-Ok-clause-places c = (whole ((goal.at.returns-in-Ok-clause-places c).In-Ok)).places_are

pub returns-in-Err-Misplaced-clause-stop : goal.returns-in-Err-Misplaced-clause-stop
returns-in-Err-Misplaced-clause-stop c =
    let told = read c.args.room (starting c.args.self.now.candidates) (parts c.bytes.result.now) in
    read_misplaced c.args.line.now c.args.room c.args.self.now.candidates c.in-Err-Misplaced.part
    (ap (λ bytes. read c.args.room (starting c.args.self.now.candidates) (parts bytes)) (sym c.bytes.ensures)
    ∙ subst (IsOrderStop told) c.in-Err-Misplaced.field-0-is c.in-Err-Misplaced.ensures.stop)
    ∙ ap Some (sym c.fault.ensures)

pub returns-in-Ok-clause-candidates : goal.returns-in-Ok-clause-candidates
returns-in-Ok-clause-candidates c =
    marks_in c.args.room c.args.self.now.candidates c.args.line.now.bytes c.read.new.self
    (read_line ((goal.at.returns-in-Ok-clause-candidates c).In-Ok))

pub returns-in-Ok-clause-inside : goal.returns-in-Ok-clause-inside
returns-in-Ok-clause-inside c =
    places_in c.args.room c.args.self.now.candidates c.args.line.now.bytes c.read.new.self
    (read_line ((goal.at.returns-in-Ok-clause-inside c).In-Ok))

pub returns-in-Ok-clause-bounded : goal.returns-in-Ok-clause-bounded
returns-in-Ok-clause-bounded c = (whole ((goal.at.returns-in-Ok-clause-bounded c).In-Ok)).bounded
