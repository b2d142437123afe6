use Rattle.std.proofs.Common.{◌≡◌, ◌+◌, ◌-◌, ◌++◌, ◌∷◌, [], List, Some, sym, ap, ◌∙◌, arith}
use Rattle.std.specs.Prelude.{slice_get}
use Rattle.batch_core.specs.declared.entry.Entry.{Entry}
use Rattle.shard_office.specs.declared.window.Window.{Window}
use Rattle.shard_office.specs.Names.{shard_name, change_entry}
use Rattle.shard_office.specs.Office.{OfficeState}
use Rattle.shard_office.specs.Passes.{ShardSeat}
use Rattle.shard_office.specs.Values.{SeenShard}
use Rattle.shard_office.proofs.HeldLemmas.{turn_gave, turn_looked}
use Rattle.shard_office.proofs.Places.{get_in, get_map}
use Rattle.shard_office.proofs.changing.answer.Given.{Over}
use Rattle.shard_office.proofs.changing.answer.Goals as goal
use Rattle.shard_office.proofs.changing.answer.Goals.{After-index-window}

-- the window is the shard's
window :
    (g : Over) (c : After-index-window g)
    → slice_get c.args.office.now.identity.windows (c.args.asked.shard - 1) ≡ Some c.index-window.result.now
window g c =
    let same = ap (λ (o : OfficeState). o.shards) c.office.view_is in
    ap (λ (o : OfficeState). slice_get o.identity.windows (c.args.asked.shard - 1)) (sym c.office.view_is)
    ∙ get_in c.office.inside.windows.items (c.args.asked.shard - 1) c.index-window.result.now
    (omega (arith, c.requires.number.0, c.requires.number.1, c.office.invariant.0)) c.index-window.ensures

pub answer_in_turn-requires-clause-name : goal.answer_in_turn-requires-clause-name
answer_in_turn-requires-clause-name g c =
    let before = goal.at.answer_in_turn-requires-clause-name g c in
    let at = c.requires.shard.window c.index-window.result.now (window g before.After-index-window) in
    let is :
    Some (shard_name c.take-held.result)
    ≡ Some (record {
      shard = c.args.asked.shard - 1 + 1;
      shards = c.args.office.now.shards;
      candidates = c.args.office.now.candidates;
      tie = c.index-window.result.now.tie;
    }) =
    sym c.take-held.ensures.name ∙ at.name in
    let named :
    shard_name c.take-held.result
    ≡ record {
      shard = c.args.asked.shard - 1 + 1;
      shards = c.args.office.now.shards;
      candidates = c.args.office.now.candidates;
      tie = c.index-window.result.now.tie;
    } =
    cc is in
    let number : c.args.asked.shard - 1 + 1 ≡ c.args.asked.shard = omega (arith, c.requires.number.0) in
    ap shard_name c.value_mut.ensures.value
    ∙ (named
    ∙ (λ k. record {
      shard = number k;
      shards = c.args.office.now.shards;
      candidates = c.args.office.now.candidates;
      tie = c.index-window.result.now.tie;
    }))

pub answer_in_turn-requires-clause-tie : goal.answer_in_turn-requires-clause-tie
answer_in_turn-requires-clause-tie g c =
    get_map (λ (w : Window). w.tie) c.args.office.now.identity.windows (c.args.asked.shard - 1)
    c.index-window.result.now
    (window g (goal.at.answer_in_turn-requires-clause-tie g c).After-index-window)

pub give_with-requires-clause-own : goal.give_with-requires-clause-own
give_with-requires-clause-own g c =
    let at =
    c.requires.shard.window c.index-window.result.now
    (window g (goal.at.give_with-requires-clause-own g c).After-index-window) in (
      ap (λ (s : ShardSeat). s.lock) c.take-held.ensures.seat ∙ at.lock,
      ap (λ (s : ShardSeat). s.holds) c.take-held.ensures.seat,
    )

pub give_back-requires-clause-own : goal.give_back-requires-clause-own
give_back-requires-clause-own g c =
    let at =
    c.requires.shard.window c.index-window.result.now
    (window g (goal.at.give_back-requires-clause-own g c).After-index-window) in (
      ap (λ (s : ShardSeat). s.lock) c.take-held.ensures.seat ∙ at.lock,
      ap (λ (s : ShardSeat). s.holds) c.take-held.ensures.seat,
    )

pub give_with-requires-clause-name : goal.give_with-requires-clause-name
give_with-requires-clause-name g c =
    ap (λ (s : ShardSeat). s.name) c.take-held.ensures.seat
    ∙ (c.take-held.ensures.name ∙ ap Some (sym (c.in-Ok.ensures.name ∙ ap shard_name c.value_mut.ensures.value)))

pub give_back-requires-clause-name : goal.give_back-requires-clause-name
give_back-requires-clause-name g c =
    ap (λ (s : ShardSeat). s.name) c.take-held.ensures.seat
    ∙ (c.take-held.ensures.name ∙ ap Some (sym (c.in-Err.ensures.name ∙ ap shard_name c.value_mut.ensures.value)))

pub give_back-requires-clause-entries : goal.give_back-requires-clause-entries
give_back-requires-clause-entries g c =
    c.in-Err.ensures.unchanged
    ∙ (ap (λ (v : SeenShard). v.book.entries) c.value_mut.ensures.value
    ∙ sym (ap (λ (s : ShardSeat). s.seen) c.take-held.ensures.seat))

pub returns-in-Err-clause-refused : goal.returns-in-Err-clause-refused
returns-in-Err-clause-refused g c = (
  turn_looked c.args.mine.now c.take-held.new.seat c.give_back.new.seat c.take-held.result.book.entries
      c.take-held.ensures.seat c.take-held.ensures.begins c.give_back.ensures.seat,
  c.in-Err.ensures.refused,
)

pub returns-in-Ok-clause-own : goal.returns-in-Ok-clause-own
returns-in-Ok-clause-own g c = (c.give_with.ensures.own, c.in-Ok.ensures.own)

pub returns-in-Ok-clause-mark : goal.returns-in-Ok-clause-mark
returns-in-Ok-clause-mark g c = c.in-Ok.ensures.mark

pub returns-in-Ok-clause-entry : goal.returns-in-Ok-clause-entry
returns-in-Ok-clause-entry g c =
    let e = change_entry c.args.asked.caller c.args.asked.change c.in-Ok.reply in
    let held = c.take-held.result.book.entries in
    let now : c.answer_in_turn.new.shard.book.entries ≡ held ++ e ∷ [] =
    c.in-Ok.ensures.entry ∙ ap (λ (v : SeenShard). v.book.entries ++ e ∷ []) c.value_mut.ensures.value in
    let log : c.answer_in_turn.new.shard.book.entries ≡ c.take-held.new.seat.seen ++ e ∷ [] =
    now ∙ ap (λ (l : List Entry). l ++ e ∷ []) (sym (ap (λ (s : ShardSeat). s.seen) c.take-held.ensures.seat)) in
    turn_gave c.args.mine.now c.take-held.new.seat c.give_with.new.seat held c.answer_in_turn.new.shard.book.entries e
    c.take-held.ensures.seat c.take-held.ensures.begins c.give_with.ensures.seat now (c.give_with.ensures.mine e log)
