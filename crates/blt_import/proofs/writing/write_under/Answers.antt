use Rattle.std.proofs.Common.{refl, subst, inr}
use Rattle.plain_ballots.specs.Ballots.{plain}
use Rattle.candidate_roll.specs.Roll.{RollList}
use Rattle.blt_writer.specs.Text.{IsBltText}
use Rattle.tool_edge.specs.declared.end.End.TheVariants.{Done}
use Rattle.tool_edge.proofs.Ending.{closed}
use Rattle.blt_import.proofs.Owing.{text_moved, wrote_text}
use Rattle.blt_import.proofs.Readable.{ballots_of}
use Rattle.blt_import.proofs.writing.write_under.Goals as goal

pub returns-in-Ok : goal.returns-in-Ok
returns-in-Ok g c =
    let text = c.write_listing-wrote.ensures in
    let w = g.K.Sink.written in
    let f = g.K.Sink.faults in
    let listed = c.in-Ok.listing.ballots in
    let lines = c.args.ballots.lines in
    let roll = c.args.roll.now in
    let is : IsBltText listed roll text.text =
    subst (λ (r : RollList). IsBltText listed r text.text) c.in-Ok.ensures.roll text.is in
    let says = text_moved c.every_bag_has_a_text.ensures c.one_bag_has_one_text.ensures listed (plain lines) roll text.text
    c.in-Ok.ensures.ballots is in
    let of = ballots_of roll c.args.ballots.candidates lines c.requires.candidates c.are_sound.ensures in
    let read = c.texts_are_read.ensures roll (plain lines) text.text c.requires.named of says in
    inr (
      Done,
      text.text,
      (refl, says, read),
      closed w f c.args.sink.now c.write_listing-wrote.new.sink c.close.new.sink text.text c.write_listing-wrote.result
          c.close.result
          (wrote_text w f c.args.sink.now c.write_listing-wrote.new.sink text.text c.write_listing-wrote.result text.writes)
          c.close.ensures,
    )
