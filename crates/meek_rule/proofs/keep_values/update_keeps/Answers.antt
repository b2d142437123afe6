use Rattle.std.proofs.Common.{◌≡◌, ℕ, false, cond, not, ◌&&◌, ◌==◌, nat_lt, slice_index, arith, ap, ◌∙◌, length}
use Rattle.std.proofs.lemmas.List.FromFn.{fill_by_all}
use Rattle.fixed_place.specs.Rounding.{scale}
use Rattle.meek_rule.specs.KeepValues.{next_keep, is_capped, new_keep, uncapped}
use Rattle.std.proofs.lemmas.List.{length-set, get_or-set_other}
use Rattle.candidate_roll.specs.State.{state_at}
use Rattle.meek_rule.specs.Situation.{is_elected}
use Rattle.meek_rule.proofs.PlaceLemmas.{done_more}
use Rattle.meek_rule.proofs.keep_values.update_keeps.Goals as goal

pub returns-clause-keeps : goal.returns-clause-keeps
returns-clause-keeps g c =
    fill_by_all (next_keep (scale g.row.P) c.args.states.now c.args.keeps.now c.args.votes.now c.args.quota)
    c.loop-p.keeps (length c.args.states.now) 0 (c.loop-p.invariant.same_length ∙ c.requires.keeps_of_all)
    (λ q below. c.loop-p.invariant.done q (omega arith))

pub returns-clause-capped : goal.returns-clause-capped
returns-clause-capped g c =
    fill_by_all (is_capped (scale g.row.P) c.args.states.now c.args.keeps.now c.args.votes.now c.args.quota)
    c.loop-p.marks (length c.args.states.now) false
    (c.loop-p.invariant.same_marks ∙ c.requires.marks_of_all)
    (λ q below. c.loop-p.invariant.capped q (omega arith))

pub loop-p-preserved : goal.loop-p-preserved
loop-p-preserved g c =
    let s = scale g.row.P in
    let p = c.loop-p.p in
    let states = c.args.states.now in
    let votes = c.args.votes.now in
    let same : slice_index c.loop-p.keeps p ≡ slice_index c.args.keeps.now p = c.loop-p.invariant.ahead p (omega arith) in
    let keep :
    next_keep s states c.loop-p.keeps votes c.args.quota p
    ≡ next_keep s states c.args.keeps.now votes c.args.quota p =
    ap (λ (k : ℕ). cond (is_elected (state_at states p)) (new_keep s c.args.quota k (slice_index votes p)) k) same in
    let over :
    is_capped s states c.loop-p.keeps votes c.args.quota p
    ≡ is_capped s states c.args.keeps.now votes c.args.quota p =
    ap (λ (k : ℕ). is_elected (state_at states p) && not (slice_index votes p == 0)
    && nat_lt s (uncapped s c.args.quota k (slice_index votes p))) same in
    record {
      same_length = ap length c.set.ensures ∙ (length-set _ _ _ ∙ c.loop-p.invariant.same_length);
      same_marks = ap length c.set-in-loop-p.ensures ∙ (length-set _ _ _ ∙ c.loop-p.invariant.same_marks);
      done =
          rw c.set.ensures (done_more (next_keep s states c.args.keeps.now votes c.args.quota) c.loop-p.keeps
          p _ 0 (omega arith) (c.next_keep-next.ensures.keep ∙ keep) c.loop-p.invariant.done);
      ahead =
          λ q below. rw c.set.ensures (get_or-set_other c.loop-p.keeps p q _ 0 (omega arith)
          ∙ c.loop-p.invariant.ahead q (omega arith));
      capped =
          rw c.set-in-loop-p.ensures (done_more (is_capped s states c.args.keeps.now votes c.args.quota)
          c.loop-p.marks p _ false (omega arith) (c.next_keep-next.ensures.capped ∙ over)
          c.loop-p.invariant.capped);
    }
