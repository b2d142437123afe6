use Rattle.std.proofs.Common.{◌≡◌, ◌≤◌, ◌-◌, false, ◌∙◌, ◌++◌, ◌∷◌, [], List, Some, sym, ap, subst}
use Rattle.std.specs.Prelude.{slice_get}
use Rattle.batch_core.specs.declared.entry.Entry.{Entry}
use Rattle.batch_core.specs.Book.{batch_of}
use Rattle.batch_core.specs.Lawful.{IsLawful}
use Rattle.batch_core.specs.Shards.{shard_of}
use Rattle.call_register.specs.declared.mark.Mark.TheVariants.{Shard}
use Rattle.shard_office.specs.declared.shard_value.ShardName.{ShardName}
use Rattle.shard_office.specs.declared.register_value.RegisterName.{RegisterName}
use Rattle.shard_office.specs.Names.{register_name, change_entry}
use Rattle.shard_office.specs.Office.{OfficeState, ties_at}
use Rattle.shard_office.specs.Passes.{RegisterSeat}
use Rattle.shard_office.specs.Values.{SeenRegister}
use Rattle.shard_office.proofs.HeldLemmas.{turn_gave, turn_looked, none_looked}
use Rattle.shard_office.proofs.changing.answer_in_turn.Given.{Over}
use Rattle.shard_office.proofs.changing.answer_in_turn.Goals as goal
use Rattle.shard_office.proofs.changing.answer_in_turn.Goals.{After-take-kept, After-reserve}

-- the register whose turn is taken has the office's name
kept_name :
    (g : Over) (c : After-take-kept g)
    → register_name c.take-kept.result
    ≡ record {
      shards = c.args.office.now.shards;
      candidates = c.args.office.now.candidates;
      ties = ties_at c.args.office.now.identity.windows;
    }
kept_name g c =
    let is :
    Some (register_name c.take-kept.result)
    ≡ Some (record {
      shards = c.args.office.now.shards;
      candidates = c.args.office.now.candidates;
      ties = ties_at c.args.office.now.identity.windows;
    }) =
    sym c.take-kept.ensures.name ∙ c.requires.register.name in
    cc is

pub enter-requires-clause-register_tie : goal.enter-requires-clause-register_tie
enter-requires-clause-register_tie g c =
    let before = goal.at.enter-requires-clause-register_tie g c in
    ap (λ (n : RegisterName). slice_get n.ties (c.args.asked.shard - 1))
    (c.reserve.ensures.name ∙ (ap register_name c.value_mut.ensures.value ∙ kept_name g before.After-take-kept))
    ∙ c.requires.tie

pub enter-requires-clause-lawful : goal.enter-requires-clause-lawful
enter-requires-clause-lawful g c =
    subst (λ (n : ShardName). IsLawful n.candidates c.args.asked.change) (sym (c.ready.ensures.name ∙ c.requires.name))
    c.requires.lawful

pub enter-requires-clause-shard : goal.enter-requires-clause-shard
enter-requires-clause-shard g c =
    ap (λ (n : ShardName). shard_of (batch_of c.args.asked.change) n.shards) (c.ready.ensures.name ∙ c.requires.name)
    ∙ c.requires.of_shard

pub enter-requires-clause-shard_tie : goal.enter-requires-clause-shard_tie
enter-requires-clause-shard_tie g c = ap (λ (n : ShardName). n.tie) (c.ready.ensures.name ∙ c.requires.name)

-- with room for a mark it is the same register
named : (g : Over) (c : After-reserve g) → c.take-kept.new.seat.name ≡ Some (register_name c.reserve.new.self)
named g c =
    ap (λ (s : RegisterSeat). s.name) c.take-kept.ensures.seat
    ∙ (c.take-kept.ensures.name ∙ ap Some (sym (c.reserve.ensures.name ∙ ap register_name c.value_mut.ensures.value)))

seen : (g : Over) (c : After-reserve g) → c.reserve.new.self.register.marks ≡ c.take-kept.new.seat.seen
seen g c =
    c.reserve.ensures.marks
    ∙ (ap (λ (v : SeenRegister). v.register.marks) c.value_mut.ensures.value
    ∙ sym (ap (λ (s : RegisterSeat). s.seen) c.take-kept.ensures.seat))

pub enter-requires-clause-name : goal.enter-requires-clause-name
enter-requires-clause-name g c = named g (goal.at.enter-requires-clause-name g c).After-reserve

pub enter-requires-clause-seen : goal.enter-requires-clause-seen
enter-requires-clause-seen g c = seen g (goal.at.enter-requires-clause-seen g c).After-reserve

pub enter-requires-clause-number : goal.enter-requires-clause-number
enter-requires-clause-number g c =
    let before = goal.at.enter-requires-clause-number g c in
    let shards =
    ap (λ (n : RegisterName). n.shards)
    (c.reserve.ensures.name ∙ (ap register_name c.value_mut.ensures.value ∙ kept_name g before.After-take-kept)) in (
      c.requires.number.0,
      subst (λ k. c.args.asked.shard ≤ k) (sym shards) c.requires.number.1,
      ap (λ (n : ShardName). n.shard) (c.ready.ensures.name ∙ c.requires.name),
    )

pub enter-requires-clause-turn : goal.enter-requires-clause-turn
enter-requires-clause-turn g c = (
  ap (λ (s : RegisterSeat). s.lock) c.take-kept.ensures.seat
      ∙ (c.requires.register.lock ∙ sym (ap (λ (o : OfficeState). o.identity.register) c.office.view_is)),
  ap (λ (s : RegisterSeat). s.holds) c.take-kept.ensures.seat,
)

pub give_back-requires-clause-own : goal.give_back-requires-clause-own
give_back-requires-clause-own g c = (
  ap (λ (s : RegisterSeat). s.lock) c.take-kept.ensures.seat
      ∙ (c.requires.register.lock ∙ sym (ap (λ (o : OfficeState). o.identity.register) c.office.view_is)),
  ap (λ (s : RegisterSeat). s.holds) c.take-kept.ensures.seat,
)

pub give_back-requires-clause-name : goal.give_back-requires-clause-name
give_back-requires-clause-name g c = named g (goal.at.give_back-requires-clause-name g c).After-reserve

pub give_back-requires-clause-entries : goal.give_back-requires-clause-entries
give_back-requires-clause-entries g c = seen g (goal.at.give_back-requires-clause-entries g c).After-reserve

pub returns-then-is_err-clause-refused : goal.returns-then-is_err-clause-refused
returns-then-is_err-clause-refused g c = none_looked c.args.marks.now c.requires.register.free

pub returns-then-is_err-2-clause-refused : goal.returns-then-is_err-2-clause-refused
returns-then-is_err-2-clause-refused g c =
    turn_looked c.args.marks.now c.take-kept.new.seat c.give_back.new.seat c.take-kept.result.register.marks
    c.take-kept.ensures.seat c.take-kept.ensures.begins c.give_back.ensures.seat

pub returns-clause-mark : goal.returns-clause-mark
returns-clause-mark g c =
    let m = c.take-kept.new.seat in
    let e = Shard c.args.asked.shard in
    let marked = c.enter.ensures.marked in
    turn_gave c.args.marks.now m c.enter.new.marks c.take-kept.result.register.marks
    (m.seen ++ e ∷ []) e c.take-kept.ensures.seat c.take-kept.ensures.begins
    (marked
    ∙ (λ k. record m {
      holds = false;
      seen = m.seen ++ e ∷ [];
      mine = sym (ap (λ (z : RegisterSeat). z.mine) marked) k;
    })) (ap (λ (z : RegisterSeat). z.seen ++ e ∷ []) c.take-kept.ensures.seat)
    (ap (λ (z : RegisterSeat). z.mine) marked)

pub returns-clause-name : goal.returns-clause-name
returns-clause-name g c = c.enter.ensures.shard_name ∙ c.ready.ensures.name

pub returns-clause-entry : goal.returns-clause-entry
returns-clause-entry g c =
    c.enter.ensures.entries
    ∙ ap (λ (l : List Entry). l ++ change_entry c.args.asked.caller c.args.asked.change c.enter.result ∷ [])
    c.ready.ensures.entries

pub returns-clause-own : goal.returns-clause-own
returns-clause-own g c = c.enter.ensures.own
