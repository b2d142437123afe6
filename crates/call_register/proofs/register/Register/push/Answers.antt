use Rattle.std.proofs.Common.{◌≡◌, ℕ, List, ◌+◌, ◌-◌, ◌<◌, ◌^◌, ◌++◌, ◌∷◌, [], sym, ap, ◌∙◌, arith, subst}
use Rattle.std.proofs.Common.{length, refl, slice_set, length-set}
use Rattle.std.specs.Prelude.{All}
use Rattle.std.proofs.lemmas.List.Elements.{All-push}
use Rattle.std.proofs.lemmas.List.{get_or_default}
use Rattle.batch_core.specs.Book.{strike}
use Rattle.call_register.specs.Marks.{struck_by, marks_of, MayMark, AreBooked, RegisterState}
use Rattle.call_register.specs.declared.mark.Mark.{Mark}
use Rattle.call_register.specs.declared.mark.Mark.TheVariants.{Shard, Freeze, Strike}
use Rattle.call_register.proofs.Booked.{booked_else, booked_more, marks_of-le}
use Rattle.call_register.proofs.Steps.{struck-append}
use Rattle.call_register.proofs.register.Register.push.Goals as goal

pub overflow_add-index_mut : goal.overflow_add-index_mut
overflow_add-index_mut c =
    let shards : length c.self.inside.booked.items ≡ c.args.self.now.shards =
    ap (λ (r : RegisterState). r.shards) c.self.view_is in
    let may = subst (λ m. MayMark c.args.self.now.shards c.args.self.now.candidates m) c.in-Shard.is c.requires.mark in
    let lt : c.in-Shard.shard - 1 < length c.self.inside.booked.items = omega (arith, may.0, may.1) in
    let value : c.index_mut.result.now ≡ marks_of ((c.in-Shard.shard - 1) + 1) c.self.inside.marks.items =
    c.index_mut.ensures.value
    ∙ (get_or_default c.self.inside.booked.items (c.in-Shard.shard - 1) c.index_mut.result.now 0 lt
    ∙ c.self.invariant.0 (c.in-Shard.shard - 1) lt) in
    let few = marks_of-le ((c.in-Shard.shard - 1) + 1) c.self.inside.marks.items in
    let below : c.index_mut.result.now < 2 ^ 63 =
    omega (arith, c.len-all_marks.ensures.value, c.len-all_marks.ensures.bound) in
    omega arith

pub invariant_of-self : goal.invariant_of-self
invariant_of-self c =
    let shards : length c.self.inside.booked.items ≡ c.args.self.now.shards =
    ap (λ (r : RegisterState). r.shards) c.self.view_is in
    let may = subst (λ m. MayMark c.args.self.now.shards c.args.self.now.candidates m) c.in-Shard.is c.requires.mark in
    let lt : c.in-Shard.shard - 1 < length c.self.inside.booked.items = omega (arith, may.0, may.1) in
    let place : c.in-Shard.shard ≡ (c.in-Shard.shard - 1) + 1 = omega (arith, may.0) in
    let list : c.push_reserved.new.self.items ≡ c.self.inside.marks.items ++ Shard c.in-Shard.shard ∷ [] =
    c.push_reserved.ensures.items in
    let booked =
    booked_more c.self.inside.marks.items c.self.inside.booked.items c.in-Shard.shard
    (c.in-Shard.shard - 1) c.index_mut.result.now place lt c.index_mut.ensures.value
    c.self.invariant.0 in (
      subst (λ (l : List Mark). AreBooked l
          (slice_set c.self.inside.booked.items (c.in-Shard.shard - 1) (c.index_mut.result.now + 1)))
          (sym list) booked,
      c.self.invariant.1
          ∙ (sym (struck-append [] c.self.inside.marks.items (Shard c.in-Shard.shard ∷ []))
          ∙ ap struck_by (sym list)),
      subst (λ (n : ℕ). All (MayMark n c.self.inside.candidates) c.push_reserved.new.self.items)
          (sym (length-set c.self.inside.booked.items (c.in-Shard.shard - 1) (c.index_mut.result.now + 1)))
          (subst (λ (l : List Mark). All (MayMark (length c.self.inside.booked.items) c.self.inside.candidates) l) (sym list)
          (All-push (MayMark (length c.self.inside.booked.items) c.self.inside.candidates)
          c.self.inside.marks.items (Shard c.in-Shard.shard) c.self.invariant.2
          (may.0, omega (arith, may.1)))),
    )

pub invariant_of-self-in-Freeze : goal.invariant_of-self-in-Freeze
invariant_of-self-in-Freeze c =
    let list :
    c.push_reserved-in-Freeze.new.self.items
    ≡ c.self.inside.marks.items ++ Freeze c.in-Freeze.field-0 ∷ [] =
    c.push_reserved-in-Freeze.ensures.items
    ∙ ap (λ (m : Mark). c.self.inside.marks.items ++ m ∷ []) c.in-Freeze.is in (
      subst (λ (l : List Mark). AreBooked l c.self.inside.booked.items) (sym list)
          (booked_else c.self.inside.marks.items c.self.inside.booked.items (Freeze c.in-Freeze.field-0)
          (λ t. refl) c.self.invariant.0),
      c.self.invariant.1
          ∙ (sym (struck-append [] c.self.inside.marks.items (Freeze c.in-Freeze.field-0 ∷ []))
          ∙ ap struck_by (sym list)),
      subst (λ (l : List Mark). All (MayMark (length c.self.inside.booked.items) c.self.inside.candidates) l) (sym list)
          (All-push (MayMark (length c.self.inside.booked.items) c.self.inside.candidates)
          c.self.inside.marks.items (Freeze c.in-Freeze.field-0) c.self.invariant.2 tt),
    )

pub invariant_of-self-in-Strike : goal.invariant_of-self-in-Strike
invariant_of-self-in-Strike c =
    let list :
    c.push_reserved-in-Strike.new.self.items
    ≡ c.self.inside.marks.items ++ Strike c.in-Strike.caller c.in-Strike.candidate ∷ [] =
    c.push_reserved-in-Strike.ensures.items in (
      subst (λ (l : List Mark). AreBooked l c.self.inside.booked.items) (sym list)
          (booked_else c.self.inside.marks.items c.self.inside.booked.items
          (Strike c.in-Strike.caller c.in-Strike.candidate) (λ t. refl) c.self.invariant.0),
      c.strike.ensures.candidates ∙ (ap (λ (st : List ℕ). strike st c.in-Strike.candidate) c.self.invariant.1
          ∙ (sym (struck-append [] c.self.inside.marks.items
          (Strike c.in-Strike.caller c.in-Strike.candidate ∷ [])) ∙ ap struck_by (sym list))),
      (let candidates : c.self.inside.candidates ≡ c.args.self.now.candidates =
          ap (λ (r : RegisterState). r.candidates) c.self.view_is in
          let may =
          subst (λ m. MayMark c.args.self.now.shards c.args.self.now.candidates m) c.in-Strike.is
          c.requires.mark in
          subst (λ (l : List Mark). All (MayMark (length c.self.inside.booked.items) c.self.inside.candidates) l) (sym list)
          (All-push (MayMark (length c.self.inside.booked.items) c.self.inside.candidates)
          c.self.inside.marks.items (Strike c.in-Strike.caller c.in-Strike.candidate) c.self.invariant.2
          (may.0, omega (arith, may.1)))),
    )
