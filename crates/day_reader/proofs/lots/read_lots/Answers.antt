use Rattle.std.proofs.Common.{◌≡◌, ◌≢◌, ℕ, ◌-◌, ◌≤◌, ◌==◌, Ok, List, length, Bool, false, true, sym, ◌∙◌, ap}
use Rattle.std.proofs.Common.{subst, arith, length-set}
use Rattle.std.specs.List.{list_any}
use Rattle.std.proofs.lemmas.Result.{err_from_is_err_and}
use Rattle.lot_order.specs.Flags.{mark_at}
use Rattle.input_text.specs.Range.{IsIn}
use Rattle.input_text.specs.Judged.{reads}
use Rattle.input_text.proofs.Reading.{behind_trans}
use Rattle.day_reader.specs.Day.{AreDifferent, AreAllLots}
use Rattle.day_reader.specs.DayTable.{at_lot}
use Rattle.day_reader.proofs.DifferentNumbers.{one_number_more, at_most}
use Rattle.day_reader.proofs.LotSteps.{lot_stops, lots_end, lots_missing, above, again, one_more}
use Rattle.day_reader.proofs.LotSteps.{one_marked_more, lots_read}
use Rattle.day_reader.proofs.lots.read_lots.Goals as goal

pub returns-in_err-n-clause-reads : goal.returns-in_err-n-clause-reads
returns-in_err-n-clause-reads c =
    let p = err_from_is_err_and c.from_residual.result c.from_residual.ensures.1 in
    rw (p.1, p.2) (c.loop-order.invariant.same
    ∙ lot_stops c.args.candidates c.loop-order.order.items _ _ _ c.in_err-n.ensures.fault)

pub returns-then-len-candidates-clause-reads : goal.returns-then-len-candidates-clause-reads
returns-then-len-candidates-clause-reads c =
    let few : length c.loop-order.order.items ≢ c.args.candidates =
    λ same. omega (arith, same, c.len.ensures, c.if-len-candidates.true) in
    rw c.refused.ensures
    (c.loop-order.invariant.same ∙ lots_missing c.args.candidates c.loop-order.order.items _ _ c.in_ok-n.n c.in_ok-n.at
    c.in_ok-n.ensures.number c.if-n-eq0.true few)

pub new_lots-requires-clause-lots : goal.new_lots-requires-clause-lots
new_lots-requires-clause-lots c =
    let lots = c.loop-order.order.items in
    let all : length lots ≡ c.args.candidates =
    omega (arith, at_most c.args.candidates lots c.loop-order.invariant.numbers, c.len.ensures, c.if-len-candidates.false) in
    subst (AreAllLots c.args.candidates) (sym c.as_slice.ensures.value)
    (record { numbers = c.loop-order.invariant.numbers; all = all })

pub returns-then-n-eq0-clause-reads : goal.returns-then-n-eq0-clause-reads
returns-then-n-eq0-clause-reads c =
    let lots = c.loop-order.order.items in
    let all : length lots ≡ c.args.candidates =
    omega (arith, at_most c.args.candidates lots c.loop-order.invariant.numbers, c.len.ensures, c.if-len-candidates.false) in
    let read =
    c.loop-order.invariant.same
    ∙ lots_end c.args.candidates lots _ _ c.in_ok-n.n c.in_ok-n.at c.in_ok-n.ensures.number
    c.if-n-eq0.true all
    ∙ ap (λ (l : List ℕ). Ok (l, c.next_number.new.self.rest)) (sym c.as_slice.ensures.value) in
    lots_read c.args.candidates _ _ c.as_slice.result.now c.new_lots.result read c.new_lots.ensures.lots
    c.new_lots.ensures.only_memory

pub returns-then-n-candidates-clause-reads : goal.returns-then-n-candidates-clause-reads
returns-then-n-candidates-clause-reads c =
    rw c.refused-then-n-candidates.ensures
    (c.loop-order.invariant.same ∙ above c.args.candidates c.loop-order.order.items _ _ c.in_ok-n.n c.in_ok-n.at
    c.in_ok-n.ensures.number c.if-n-eq0.false c.if-n-candidates.true)

pub returns-then-get-clause-reads : goal.returns-then-get-clause-reads
returns-then-get-clause-reads c =
    let some : 1 ≤ c.in_ok-n.n = omega (arith, c.if-n-eq0.false) in
    rw c.refused-then-get.ensures
    (c.loop-order.invariant.same ∙ again c.args.candidates c.loop-order.order.items _ _ c.in_ok-n.n c.in_ok-n.at
    c.in_ok-n.ensures.number c.if-n-eq0.false c.if-n-candidates.false
    (sym (c.loop-order.invariant.marks c.in_ok-n.n some c.if-n-candidates.false) ∙ sym c.get.ensures.mark ∙ c.if-get.true))

pub loop-order-preserved : goal.loop-order-preserved
loop-order-preserved c =
    let before = c.loop-order.invariant in
    let lots = c.loop-order.order.items in
    let n = c.in_ok-n.n in
    let is : IsIn c.args.candidates n = record { least = omega (arith, c.if-n-eq0.false); most = c.if-n-candidates.false } in
    let new : list_any (λ d. d == n) lots ≡ false =
    sym (before.marks n is.least is.most) ∙ sym c.get.ensures.mark ∙ c.if-get.false in
    record {
      same =
          before.same
          ∙ one_more c.args.candidates lots _ _ n c.in_ok-n.at c.in_ok-n.ensures.number c.if-n-eq0.false
          c.if-n-candidates.false new
          ∙ ap (λ (l : List ℕ). reads (at_lot c.args.candidates) l c.next_number.new.self.rest)
          (sym c.in_ok-push.ensures.items);
      numbers =
          subst (AreDifferent c.args.candidates) (sym c.in_ok-push.ensures.items)
          (one_number_more c.args.candidates lots n before.numbers is new);
      flags = ap length c.set.ensures ∙ length-set c.loop-order.stood _ true ∙ before.flags;
      marks = λ m some within. ap (λ (l : List Bool). mark_at l (m - 1)) c.set.ensures
          ∙ one_marked_more c.args.candidates c.loop-order.stood lots n is before.flags before.marks m some within
          ∙ ap (λ (l : List ℕ). list_any (λ d. d == m) l) (sym c.in_ok-push.ensures.items);
      behind = behind_trans before.behind c.in_ok-n.ensures.behind;
    }

pub returns-in_err-n-clause-behind : goal.returns-in_err-n-clause-behind
returns-in_err-n-clause-behind c = behind_trans c.loop-order.invariant.behind c.in_err-n.ensures.behind

pub returns-then-len-candidates-clause-behind : goal.returns-then-len-candidates-clause-behind
returns-then-len-candidates-clause-behind c = behind_trans c.loop-order.invariant.behind c.in_ok-n.ensures.behind

pub returns-then-n-eq0-clause-behind : goal.returns-then-n-eq0-clause-behind
returns-then-n-eq0-clause-behind c = behind_trans c.loop-order.invariant.behind c.in_ok-n.ensures.behind

pub returns-then-n-candidates-clause-behind : goal.returns-then-n-candidates-clause-behind
returns-then-n-candidates-clause-behind c = behind_trans c.loop-order.invariant.behind c.in_ok-n.ensures.behind

pub returns-then-get-clause-behind : goal.returns-then-get-clause-behind
returns-then-get-clause-behind c = behind_trans c.loop-order.invariant.behind c.in_ok-n.ensures.behind

pub returns-in_err-push-clause-behind : goal.returns-in_err-push-clause-behind
returns-in_err-push-clause-behind c = behind_trans c.loop-order.invariant.behind c.in_ok-n.ensures.behind
