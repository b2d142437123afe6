use Rattle.std.proofs.Common.{◌≡◌, ℕ, ◌+◌, ◌==◌, List, length, take, slice_set, Bool, true, false, sym, ◌∙◌}
use Rattle.std.proofs.Common.{ap, subst, arith, length-set}
use Rattle.std.specs.List.{list_any}
use Rattle.std.proofs.lemmas.Result.{err_from_is_err_and}
use Rattle.input_text.specs.Judged.{reads}
use Rattle.blt_reader.specs.BallotTable.{at_rank}
use Rattle.blt_reader.specs.Reads.{Marks}
use Rattle.input_text.proofs.Reading.{behind_trans, fewer_left}
use Rattle.blt_reader.proofs.LineSteps.{rank_stops, line_ends, above, again, one_more}
use Rattle.blt_reader.proofs.RankSteps.{room_for_one, one_put_in, one_put_in_ranked, one_put_in_marked}
use Rattle.blt_reader.proofs.lines.read_ranks.Goals as goal

pub returns-in_err-n-clause-reads : goal.returns-in_err-n-clause-reads
returns-in_err-n-clause-reads c =
    let p = err_from_is_err_and c.from_residual.result c.from_residual.ensures.1 in
    rw (p.1, p.2) (c.loop-n.invariant.same
    ∙ rank_stops c.args.candidates (take c.loop-n.len c.loop-n.ranks) _ _ _ c.in_err-n.ensures.fault)

pub returns-then-n-eq0-clause-reads : goal.returns-then-n-eq0-clause-reads
returns-then-n-eq0-clause-reads c =
    c.loop-n.invariant.same ∙ line_ends c.args.candidates
    (take c.loop-n.len c.loop-n.ranks) _ _ c.in_ok-n.n c.in_ok-n.at c.in_ok-n.ensures.number c.if-n-eq0.true

pub returns-then-n-candidates-clause-reads : goal.returns-then-n-candidates-clause-reads
returns-then-n-candidates-clause-reads c =
    rw c.refused.ensures
    (c.loop-n.invariant.same ∙ above c.args.candidates
    (take c.loop-n.len c.loop-n.ranks) _ _ c.in_ok-n.n c.in_ok-n.at c.in_ok-n.ensures.number c.if-n-eq0.false
    c.if-n-candidates.true)

pub returns-then-mark-clause-reads : goal.returns-then-mark-clause-reads
returns-then-mark-clause-reads c = rw c.refused-then-mark.ensures (c.loop-n.invariant.same
    ∙ again c.args.candidates (take c.loop-n.len c.loop-n.ranks) _ _ c.in_ok-n.n c.in_ok-n.at
    c.in_ok-n.ensures.number c.if-n-eq0.false c.if-n-candidates.false
    (sym (c.loop-n.invariant.marks c.in_ok-n.n c.if-n-candidates.false) ∙ sym c.mark.ensures.was ∙ c.if-mark.true))

pub bounds-ranks-len : goal.bounds-ranks-len
bounds-ranks-len c =
    let before = c.loop-n.invariant in
    let once : list_any (λ r. r == c.in_ok-n.n) (take c.loop-n.len c.loop-n.ranks) ≡ false =
    sym (before.marks c.in_ok-n.n c.if-n-candidates.false) ∙ sym c.mark.ensures.was ∙ c.if-mark.false in
    room_for_one c.args.candidates c.loop-n.len c.in_ok-n.n c.loop-n.ranks before.room before.within before.ranking
    (omega (arith, c.if-n-eq0.false)) c.if-n-candidates.false once

pub loop-n-preserved : goal.loop-n-preserved
loop-n-preserved c =
    let n = c.in_ok-n.n in
    let candidates = c.args.candidates in
    let before = c.loop-n.invariant in
    let len = c.loop-n.len in
    let all = c.loop-n.ranks in
    let given = c.in_ok-n.ensures.number in
    let once : list_any (λ r. r == n) (take len all) ≡ false =
    sym (before.marks n c.if-n-candidates.false) ∙ sym c.mark.ensures.was ∙ c.if-mark.false in
    record {
      same =
          before.same
          ∙ one_more candidates (take len all) _ _ n c.in_ok-n.at given c.if-n-eq0.false
          c.if-n-candidates.false once
          ∙ ap (λ (l : List ℕ). reads (at_rank candidates) l c.next_number.new.self.rest)
          (sym (one_put_in candidates len n all before.room before.within before.ranking
          (omega (arith, c.if-n-eq0.false)) c.if-n-candidates.false once));
      ranking =
          one_put_in_ranked candidates len n all before.room before.within before.ranking
          (omega (arith, c.if-n-eq0.false)) c.if-n-candidates.false once;
      within =
          omega (
            arith,
            before.room,
            room_for_one candidates len n all before.room before.within before.ranking
                (omega (arith, c.if-n-eq0.false)) c.if-n-candidates.false once,
          );
      room = length-set all len n ∙ before.room;
      numbers = ap length c.mark.ensures.after ∙ length-set c.loop-n.named n true ∙ before.numbers;
      marks =
          subst (λ (named : List Bool). Marks candidates named (take (len + 1) (slice_set all len n)))
          (sym c.mark.ensures.after)
          (one_put_in_marked candidates len n all before.room before.within before.ranking
          (omega (arith, c.if-n-eq0.false)) c.if-n-candidates.false once c.loop-n.named before.numbers before.marks);
      not_more = omega (arith, before.not_more, fewer_left c.loop-n.tokens.rest c.next_number.new.self.rest _ given);
      behind = behind_trans before.behind c.in_ok-n.ensures.behind;
    }

pub returns-in_err-n-clause-behind : goal.returns-in_err-n-clause-behind
returns-in_err-n-clause-behind c = behind_trans c.loop-n.invariant.behind c.in_err-n.ensures.behind

pub returns-then-n-eq0-clause-behind : goal.returns-then-n-eq0-clause-behind
returns-then-n-eq0-clause-behind c = behind_trans c.loop-n.invariant.behind c.in_ok-n.ensures.behind

pub returns-then-n-candidates-clause-behind : goal.returns-then-n-candidates-clause-behind
returns-then-n-candidates-clause-behind c = behind_trans c.loop-n.invariant.behind c.in_ok-n.ensures.behind

pub returns-then-mark-clause-behind : goal.returns-then-mark-clause-behind
returns-then-mark-clause-behind c = behind_trans c.loop-n.invariant.behind c.in_ok-n.ensures.behind

pub returns-then-n-eq0-clause-fewer : goal.returns-then-n-eq0-clause-fewer
returns-then-n-eq0-clause-fewer c =
    omega (
      arith,
      c.loop-n.invariant.not_more,
      fewer_left c.loop-n.tokens.rest c.next_number.new.self.rest
          _ c.in_ok-n.ensures.number,
    )

pub loop-n-smaller : goal.loop-n-smaller
loop-n-smaller c = omega (arith, fewer_left c.loop-n.tokens.rest c.next_number.new.self.rest _ c.in_ok-n.ensures.number)

pub overflow_add-len : goal.overflow_add-len
overflow_add-len c = omega (arith, c.loop-n.invariant.within, c.ranges.candidates)
