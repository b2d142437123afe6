use Rattle.std.proofs.Common.{◌≡◌, ℕ, ◌+◌, ◌≤◌, ◌==◌, List, length, take, slice_set, Bool, true, false, refl}
use Rattle.std.proofs.Common.{sym, ◌∙◌, ap, subst, arith, length-set}
use Rattle.std.specs.List.{list_any}
use Rattle.input_text.specs.Judged.{reads}
use Rattle.blt_reader.specs.BallotTable.{at_rank}
use Rattle.input_text.specs.Reader.{Reader}
use Rattle.blt_reader.specs.Reads.{Marks}
use Rattle.input_text.proofs.Reading.{behind_trans, fewer_left}
use Rattle.blt_reader.proofs.LineSteps.{line_ends, one_more}
use Rattle.blt_reader.proofs.RankSteps.{room_for_one, one_put_in, one_put_in_ranked, one_put_in_marked}
use Rattle.blt_reader.proofs.lines.short_ranks.Goals as goal

pub returns-in-Some-ending-clause-ended : goal.returns-in-Some-ending-clause-ended
returns-in-Some-ending-clause-ended c ended =
    c.loop-n.invariant.same ∙ line_ends c.args.candidates
    (take c.loop-n.len c.loop-n.ranks) _ _ 0
    _ (ap (λ (r : Reader). r.rest) (sym c.in_default.ensures.none) ∙ c.in-Some-ending.ensures.number) refl

pub bounds-ranks-len : goal.bounds-ranks-len
bounds-ranks-len c =
    let before = c.loop-n.invariant in
    let found = c.in-Some.ensures.candidate in
    let once : list_any (λ r. r == c.in-Some.n) (take c.loop-n.len c.loop-n.ranks) ≡ false =
    sym (before.marks c.in-Some.n found.1) ∙ c.in-Some.ensures.unnamed in
    room_for_one c.args.candidates c.loop-n.len c.in-Some.n c.loop-n.ranks before.room before.within
    before.ranking found.0 found.1 once

pub loop-n-preserved : goal.loop-n-preserved
loop-n-preserved c =
    let n = c.in-Some.n in
    let candidates = c.args.candidates in
    let before = c.loop-n.invariant in
    let len = c.loop-n.len in
    let all = c.loop-n.ranks in
    let given = c.in-Some.ensures.number in
    let some : 1 ≤ n = c.in-Some.ensures.candidate.0 in
    let inside : n ≤ candidates = c.in-Some.ensures.candidate.1 in
    let once : list_any (λ r. r == n) (take len all) ≡ false = sym (before.marks n inside) ∙ c.in-Some.ensures.unnamed in
    record {
      same =
          before.same
          ∙ one_more candidates (take len all) _ _ n c.in-Some.field-0-1 given (omega (arith, some)) inside
          once
          ∙ ap (λ (l : List ℕ). reads (at_rank candidates) l c.next_unnamed.new.tokens.rest)
          (sym (one_put_in candidates len n all before.room before.within before.ranking some inside once));
      ranking = one_put_in_ranked candidates len n all before.room before.within before.ranking some inside once;
      within =
          omega (
            arith,
            before.room,
            room_for_one candidates len n all before.room before.within before.ranking some inside once,
          );
      room = length-set all len n ∙ before.room;
      numbers = ap length c.mark.ensures.after ∙ length-set c.loop-n.named n true ∙ before.numbers;
      marks =
          subst (λ (named : List Bool). Marks candidates named (take (len + 1) (slice_set all len n)))
          (sym c.mark.ensures.after)
          (one_put_in_marked candidates len n all before.room before.within before.ranking some inside once
          c.loop-n.named before.numbers before.marks);
      not_more = omega (arith, before.not_more, fewer_left c.loop-n.ahead.rest c.next_unnamed.new.tokens.rest _ given);
      behind = behind_trans before.behind c.in-Some.ensures.behind;
    }

pub returns-in-Some-ending-clause-behind : goal.returns-in-Some-ending-clause-behind
returns-in-Some-ending-clause-behind c =
    behind_trans c.loop-n.invariant.behind
    (behind_trans c.in_default.ensures.behind c.in-Some-ending.ensures.behind)

pub returns-in-None-clause-behind : goal.returns-in-None-clause-behind
returns-in-None-clause-behind c =
    behind_trans c.loop-n.invariant.behind (behind_trans c.in_default.ensures.behind c.in-None.ensures.behind)

pub loop-n-smaller : goal.loop-n-smaller
loop-n-smaller c = omega (arith, fewer_left c.loop-n.ahead.rest c.next_unnamed.new.tokens.rest _ c.in-Some.ensures.number)

pub overflow_add-len : goal.overflow_add-len
overflow_add-len c = omega (arith, c.loop-n.invariant.within, c.ranges.candidates)
