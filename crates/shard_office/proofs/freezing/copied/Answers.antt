use Rattle.std.proofs.Common.{◌≡◌, ℕ, List, [], length, sym, ap, ◌∙◌, subst, arith}
use Rattle.std.specs.Prelude.{All, vec_len}
use Rattle.call_register.specs.declared.mark.Mark.{Mark}
use Rattle.call_register.specs.Marks.{MayMark, struck_by}
use Rattle.shard_office.specs.declared.register_value.RegisterName.{RegisterName}
use Rattle.shard_office.specs.Values.{SeenRegister}
use Rattle.shard_office.proofs.Places.{get_some}
use Rattle.shard_office.proofs.Lists.{read_at}
use Rattle.shard_office.proofs.FreezeLemmas.{held_few}
use Rattle.shard_office.proofs.StruckLemmas.{IsCandidate, struck_are}
use Rattle.std.proofs.lemmas.List.Elements.{All-nil}
use Rattle.shard_office.proofs.freezing.copied.Goals as goal

pub invariant_of-result : goal.invariant_of-result
invariant_of-result g c =
    let held = c.args.held.now.items in
    let n = vec_len c.args.held.now in
    let plans = c.in_ok-plans.plans in
    let len : length held ≡ n = omega (arith, c.args.held.now.ok.0) in
    let count : length plans ≡ n = c.in_ok-plans.ensures.len in
    let value = c.value_mut-register.ensures.value in
    let marks : c.reserve.new.self.register.marks ≡ c.args.kept.now.register.marks =
    c.reserve.ensures.marks ∙ ap (λ (r : SeenRegister). r.register.marks) value in
    let shards : c.reserve.new.self.register.shards ≡ n =
    ap (λ (k : RegisterName). k.shards) c.reserve.ensures.name
    ∙ (ap (λ (r : SeenRegister). r.register.shards) value ∙ c.requires.register.0) in
    let candidates : c.reserve.new.self.register.candidates ≡ c.args.candidates =
    ap (λ (k : RegisterName). k.candidates) c.reserve.ensures.name
    ∙ (ap (λ (r : SeenRegister). r.register.candidates) value ∙ c.requires.register.1) in
    let may : All (MayMark n c.args.candidates) c.args.kept.now.register.marks =
    subst (λ (z : ℕ × ℕ × List Mark). All (MayMark z.0 z.1) z.2) (λ i. (shards i, candidates i, marks i))
    c.vouch.ensures in (
      λ k d lt.
          let p = get_some plans k lt in
          let v = get_some held k (omega arith) in
          ap (λ z. z.candidates) (read_at plans k p.0 d p.1)
          ∙ ((c.in_ok-plans.ensures.plans k v.0 p.0 v.1 p.1).of ∙ (c.requires.named k v.0 v.1).of_candidates),
      held_few n c.args.candidates c.args.kept.now.register.marks held len c.requires.limits.0 may
          c.requires.named c.requires.agreed plans count c.in_ok-plans.ensures.plans c.requires.limits.1,
      subst (All (IsCandidate c.args.candidates)) (sym (c.in_ok-struck.ensures ∙ ap struck_by marks))
          (struck_are n c.args.candidates [] c.args.kept.now.register.marks (All-nil (IsCandidate c.args.candidates)) may),
    )
