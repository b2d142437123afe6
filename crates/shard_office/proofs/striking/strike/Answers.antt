use Rattle.std.proofs.Common.{◌≡◌, ◌++◌, ◌∷◌, [], List, Some, sym, ap, ◌∙◌}
use Rattle.call_register.specs.declared.mark.Mark.{Mark}
use Rattle.call_register.specs.declared.mark.Mark.TheVariants.{Strike}
use Rattle.shard_office.specs.Names.{register_name}
use Rattle.shard_office.specs.Passes.{RegisterSeat}
use Rattle.shard_office.specs.Values.{SeenRegister}
use Rattle.shard_office.proofs.HeldLemmas.{turn_gave, turn_looked}
use Rattle.shard_office.proofs.striking.strike.Given.{Over}
use Rattle.shard_office.proofs.striking.strike.Goals as goal

pub give_back-requires-clause-name : goal.give_back-requires-clause-name
give_back-requires-clause-name g c =
    ap (λ (s : RegisterSeat). s.name) c.take-kept.ensures.seat
    ∙ (c.take-kept.ensures.name ∙ ap Some (sym (c.reserve.ensures.name ∙ ap register_name c.value_mut.ensures.value)))

pub give_back-requires-clause-entries : goal.give_back-requires-clause-entries
give_back-requires-clause-entries g c =
    c.reserve.ensures.marks
    ∙ (ap (λ (v : SeenRegister). v.register.marks) c.value_mut.ensures.value
    ∙ sym (ap (λ (s : RegisterSeat). s.seen) c.take-kept.ensures.seat))

pub give_with-requires-clause-name : goal.give_with-requires-clause-name
give_with-requires-clause-name g c =
    ap (λ (s : RegisterSeat). s.name) c.take-kept.ensures.seat
    ∙ (c.take-kept.ensures.name
    ∙ ap Some (sym (c.strike-reply.ensures.name
    ∙ (ap register_name c.value_mut-2.ensures.value
    ∙ (c.reserve.ensures.name ∙ ap register_name c.value_mut.ensures.value)))))

pub returns-then-is_err-clause-refused : goal.returns-then-is_err-clause-refused
returns-then-is_err-clause-refused g c =
    turn_looked c.args.marks.now c.take-kept.new.seat c.give_back.new.seat c.take-kept.result.register.marks
    c.take-kept.ensures.seat c.take-kept.ensures.begins c.give_back.ensures.seat

-- the marks with the strike, which is the last
marks_now :
    (g : Over) (c : goal.After-give_with g)
    → c.strike-reply.new.self.register.marks
    ≡ c.take-kept.result.register.marks ++ Strike c.args.caller c.args.candidate ∷ []
marks_now g c =
    c.strike-reply.ensures.marks
    ∙ ap (λ (m : List Mark). m ++ Strike c.args.caller c.args.candidate ∷ [])
    (ap (λ (r : SeenRegister). r.register.marks) c.value_mut-2.ensures.value
    ∙ (c.reserve.ensures.marks ∙ ap (λ (r : SeenRegister). r.register.marks) c.value_mut.ensures.value))

pub returns-clause-mark : goal.returns-clause-mark
returns-clause-mark g c =
    let mark : Mark = Strike c.args.caller c.args.candidate in
    let log : c.strike-reply.new.self.register.marks ≡ c.take-kept.new.seat.seen ++ mark ∷ [] =
    marks_now g c
    ∙ ap (λ (m : List Mark). m ++ mark ∷ []) (sym (ap (λ (s : RegisterSeat). s.seen) c.take-kept.ensures.seat)) in
    turn_gave c.args.marks.now c.take-kept.new.seat c.give_with.new.seat c.take-kept.result.register.marks
    c.strike-reply.new.self.register.marks mark c.take-kept.ensures.seat c.take-kept.ensures.begins
    c.give_with.ensures.seat (marks_now g c) (c.give_with.ensures.mine mark log)
