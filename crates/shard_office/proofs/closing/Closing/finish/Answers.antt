use Rattle.std.proofs.Common.{◌≡◌, ◌++◌, [], List, sym, ap, ◌∙◌, subst, arith, append-nil}
use Rattle.std.specs.Prelude.{reverse}
use Rattle.batch_core.specs.declared.entry.Entry.{Entry}
use Rattle.batch_core.specs.Entries.{EntryList}
use Rattle.call_register.specs.Weaving.{list_of, weave}
use Rattle.shard_office.specs.Values.{SeenRegister}
use Rattle.shard_office.specs.Closing.{ClosingState, IsClosed, HoldsAll}
use Rattle.shard_office.proofs.ClosingLemmas.{no_length}
use Rattle.shard_office.proofs.closing.Closing.finish.Goals as goal

pub invariant_of-result : goal.invariant_of-result
invariant_of-result c =
    let rest : c.hand_over.new.rest.items ≡ c.loop-item.rest.items =
    c.in_default-hand_over.ensures.put_back ∙ sym c.in-Some.ensures.items in
    let lists : c.hand_over.new.lists ≡ c.loop-item.lists = c.in_default-hand_over.ensures.refused in
    let all :
    c.hand_over.new.lists ++ reverse c.hand_over.new.rest.items
    ≡ c.self.inside.lists ++ reverse c.self.inside.rest.items =
    (λ i. lists i ++ reverse (rest i)) ∙ c.loop-item.invariant in
    subst (λ (l : List EntryList). HoldsAll c.self.inside.clerk.value c.self.inside.kept.register.marks
    (list_of l)) (sym all) c.self.invariant

pub invariant_of-result-in-Err : goal.invariant_of-result-in-Err
invariant_of-result-in-Err c =
    let rest : c.pop.new.self.items ≡ c.loop-item.rest.items =
    sym (append-nil c.pop.new.self.items) ∙ sym c.in_default.ensures.items in
    let lists : c.in-Err.field-0.lists ≡ c.loop-item.lists = c.in-Err.ensures.handed_back in
    let all :
    c.in-Err.field-0.lists ++ reverse c.pop.new.self.items
    ≡ c.self.inside.lists ++ reverse c.self.inside.rest.items =
    (λ i. lists i ++ reverse (rest i)) ∙ c.loop-item.invariant in
    subst (λ (l : List EntryList). HoldsAll c.self.inside.clerk.value c.self.inside.kept.register.marks
    (list_of l)) (sym all) c.self.invariant

-- the history is woven of all that is left
pub returns-in-Ok-weave-clause-woven : goal.returns-in-Ok-weave-clause-woven
returns-in-Ok-weave-clause-woven c =
    let none : c.loop-item.rest.items ≡ [] =
    no_length c.loop-item.rest.items
    (omega (arith, c.in_default.ensures.cases.0, c.loop-item.rest.ok.0)) in
    let all : c.loop-item.lists ≡ c.self.inside.lists ++ reverse c.self.inside.rest.items =
    sym (append-nil c.loop-item.lists)
    ∙ (ap (λ (l : List EntryList). c.loop-item.lists ++ reverse l) (sym none) ∙ c.loop-item.invariant) in
    let marks : c.marks.result.now.items ≡ c.self.inside.kept.register.marks =
    c.marks.ensures.marks ∙ ap (λ (r : SeenRegister). r.register.marks) c.kept.view_is in
    let history :
    c.in-Ok-weave.history
    ≡ weave c.self.inside.kept.register.marks
    (list_of (c.self.inside.lists ++ reverse c.self.inside.rest.items)) =
    c.in-Ok-weave.ensures.woven ∙ (λ i. weave (marks i) (list_of (all i))) in
    history ∙ ap (λ (z : ClosingState). weave z.marks (list_of z.lists)) c.self.view_is

pub returns-in-Ok-weave-clause-closed : goal.returns-in-Ok-weave-clause-closed
returns-in-Ok-weave-clause-closed c =
    let none : c.loop-item.rest.items ≡ [] =
    no_length c.loop-item.rest.items
    (omega (arith, c.in_default.ensures.cases.0, c.loop-item.rest.ok.0)) in
    let all : c.loop-item.lists ≡ c.self.inside.lists ++ reverse c.self.inside.rest.items =
    sym (append-nil c.loop-item.lists)
    ∙ (ap (λ (l : List EntryList). c.loop-item.lists ++ reverse l) (sym none) ∙ c.loop-item.invariant) in
    let marks : c.marks.result.now.items ≡ c.self.inside.kept.register.marks =
    c.marks.ensures.marks ∙ ap (λ (r : SeenRegister). r.register.marks) c.kept.view_is in
    let history :
    c.in-Ok-weave.history
    ≡ weave c.self.inside.kept.register.marks
    (list_of (c.self.inside.lists ++ reverse c.self.inside.rest.items)) =
    c.in-Ok-weave.ensures.woven ∙ (λ i. weave (marks i) (list_of (all i))) in
    subst (λ (z : ClosingState). IsClosed z.clerk c.in-Ok-weave.history) c.self.view_is
    (subst (λ (h : List Entry). IsClosed c.self.inside.clerk.value h) (sym history) c.self.invariant.closed)
