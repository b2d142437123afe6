use Rattle.std.proofs.Common.{◌≡◌, ◌∙◌, ℕ, ◌<◌, Bool, cond, List, [], length, take, get_or, ap, arith, refl, subst, sym}
use Rattle.std.specs.List.{count_by, list_any, range_with_len}
use Rattle.std.specs.Str.{bytes_eq}
use Rattle.std.proofs.lemmas.List.{length-map, take_all}
use Rattle.plain_ballots.specs.declared.ballot_line.BallotLine.{BallotLine}
use Rattle.plain_ballots.specs.Ballots.{IsSound}
use Rattle.ballot_findings.specs.Counts.{is_repeat, rankings, repeats}
use Rattle.ballot_findings.specs.Tally.{IsTally}
use Rattle.ballot_findings.proofs.Counting.{no_tally, nothing_tallied}
use Rattle.ballot_findings.proofs.Each.{count_more}
use Rattle.ballot_findings.proofs.LineItems.{counted_at, lines_more, ranking_at, room_at, said_at}
use Rattle.ballot_findings.proofs.Repeats.{said_more}
use Rattle.ballot_findings.proofs.looking.looked_at.Goals.{then-branch, else-branch}
use Rattle.ballot_findings.proofs.looking.looked_at.Goals as goal

-- the lines are sound ones of the roll's candidates
sound_of :
    (m n : ℕ) (lines given : List BallotLine) → lines ≡ given → m ≡ n → IsSound m given → IsSound n lines
sound_of m n lines given same of sound = subst (λ (k : ℕ). IsSound k lines) of (subst (IsSound m) (sym same) sound)

pub add-requires-clause-ranking : goal.add-requires-clause-ranking
add-requires-clause-ranking c =
    let lines = c.lines-lines.result.now in
    let n = length c.args.roll.now.names in
    let sound = sound_of _ n lines _ c.lines-lines.ensures.lines c.requires c.lines-lines.ensures.sound in
    ranking_at n lines c.loop-line.line-index c.line-item.result sound c.loop-line-test.true c.line-item.is

pub add-requires-clause-counted : goal.add-requires-clause-counted
add-requires-clause-counted c =
    let lines = c.lines-lines.result.now in
    let n = length c.args.roll.now.names in
    let sound = sound_of _ n lines _ c.lines-lines.ensures.lines c.requires c.lines-lines.ensures.sound in
    counted_at n lines c.loop-line.line-index c.line-item.result sound c.loop-line-test.true c.line-item.is

pub add-requires-clause-room : goal.add-requires-clause-room
add-requires-clause-room c =
    let lines = c.lines-lines.result.now in
    let n = length c.args.roll.now.names in
    let sound = sound_of _ n lines _ c.lines-lines.ensures.lines c.requires c.lines-lines.ensures.sound in
    let room = room_at n lines c.loop-line.line-index c.line-item.result sound c.loop-line-test.true c.line-item.is in
    omega (arith, room, c.loop-line.invariant.tally.ballots)

pub loop-line-init : goal.loop-line-init
loop-line-init c = record {
  tally =
      subst (IsTally (length c.args.roll.now.names) c.args.roll.now.withdrawn [])
      (ap (λ (n : ℕ). no_tally n) (sym c.candidates.ensures.value) ∙ sym c.in_ok-tally.ensures)
      (nothing_tallied (length c.args.roll.now.names) c.args.roll.now.withdrawn);
  repeats = refl;
  few = omega arith;
  said = c.new-said.ensures;
}

pub loop-line-preserved : goal.loop-line-preserved
loop-line-preserved c =
    let lines = c.lines-lines.result.now in
    let i = c.loop-line.line-index in
    let line = c.line-item.result in
    let inside = c.loop-line-test.true in
    let inv = c.loop-line.invariant in
    let said = rankings lines in
    let is : c.ranks.result.now ≡ get_or said i [] = c.ranks.ensures.value ∙ said_at lines i line inside c.line-item.is in
    let within : i < length said = omega (arith, inside, length-map lines (λ (l : BallotLine). l.ranking)) in
    let tally =
    subst (λ (ls : List BallotLine). IsTally (length c.args.roll.now.names) c.args.roll.now.withdrawn ls c.add.new.self)
    (lines_more lines i line inside c.line-item.is) (c.add.ensures (take i lines) inv.tally) in
    let more = count_more (is_repeat said) 0 i i (omega arith) in
    let again : c.in_ok-say.field-0 ≡ is_repeat said i =
    c.in_ok-say.ensures.again
    ∙ (inv.said c.ranks.result.now ∙ ap (λ (r : List ℕ). list_any (bytes_eq r) (take i said)) is) in
    let all = λ (q : List ℕ).
    c.in_ok-say.ensures.more q ∙ said_more said i c.ranks.result.now q _ within is (inv.said q) in
    let counted : Bool → ℕ = λ b. cond b 1 0 in
    elim c.if-branch.branch [
      | then-branch w ↦
          let one : counted (is_repeat said i) ≡ 1 = ap counted (sym again ∙ w.if-branch.true) in
          record { tally = tally; repeats = omega (arith, more, one); few = omega arith; said = all }
      | else-branch w ↦
          let none : counted (is_repeat said i) ≡ 0 = ap counted (sym again ∙ w.if-branch.false) in
          record { tally = tally; repeats = omega (arith, more, none); few = omega arith; said = all }
    ]

pub returns : goal.returns
returns c =
    let lines = c.lines-lines.result.now in
    let inv = c.loop-line.invariant in
    let done : c.loop-line.line-index ≡ length lines = omega (arith, c.loop-line-test.false, c.loop-line.auto.line-index-end) in
    let whole = take_all c.loop-line.line-index lines c.loop-line-test.false in
    let same = c.lines-lines.ensures.lines in
    record {
      lines_are = ap (λ (ls : List BallotLine). length ls) same;
      repeats_are =
          inv.repeats ∙ ap (λ (n : ℕ). count_by (is_repeat (rankings lines)) (range_with_len 0 n)) done ∙ ap repeats same;
      tally =
          subst (λ (ls : List BallotLine). IsTally (length c.args.roll.now.names) c.args.roll.now.withdrawn ls
          c.loop-line.tally)
          (whole ∙ same) inv.tally;
    }
