use Rattle.std.proofs.Common.{◌≡◌, ◌++◌, ◌∷◌, [], Some, true, ℕ, List, length, vec_len}
use Rattle.std.proofs.Common.{refl, sym, ap, ◌∙◌, subst, arith}
use Rattle.call_register.specs.declared.mark.Mark.{Mark}
use Rattle.call_register.specs.declared.mark.Mark.TheVariants.{Freeze}
use Rattle.shard_office.specs.declared.register_value.RegisterName.{RegisterName}
use Rattle.shard_office.specs.Names.{register_name}
use Rattle.shard_office.specs.Office.{OfficeState, ties_at}
use Rattle.shard_office.specs.Values.{SeenShard, SeenRegister}
use Rattle.shard_office.specs.Sight.{by_shard}
use Rattle.shard_office.specs.Passes.{RegisterSeat, AreAt}
use Rattle.shard_office.specs.Desks.{seen}
use Rattle.shard_office.specs.Moves.{Looked, Gave, Looks}
use Rattle.shard_office.specs.Turned.{TookTurns, AreTied, AreNamed, AreAgreed, entries_held}
use Rattle.shard_office.specs.Versions.{IsFreeze}
use Rattle.shard_office.proofs.HeldLemmas.{AllHeld, all_held, seats_of, looks_by}
use Rattle.shard_office.proofs.HeldLemmas.{turn_gave, turn_looked, gave_still, looked_still}
use Rattle.shard_office.proofs.Marked.{none_looked}
use Rattle.shard_office.proofs.Called.{HaveLooked}
use Rattle.shard_office.proofs.AfterMarks.{HaveFrozen, have_looked, have_frozen}
use Rattle.shard_office.proofs.FreezeLemmas.{freeze_is}
use Rattle.shard_office.proofs.freezing.freeze.Given.{Over}
use Rattle.shard_office.proofs.freezing.freeze.Goals as goal
use Rattle.shard_office.proofs.freezing.freeze.Goals.{After-take_all, After-take-kept, After-agree_all}

pub returns-in_err-held-clause-stays : goal.returns-in_err-held-clause-stays
returns-in_err-held-clause-stays g c =
    let desk = c.args.desk.now in
    let free = c.requires.seated.registered.free in
    record {
      office = refl;
      caller = refl;
      looks = none_looked desk.office.value desk.caller desk.shards.items desk.register c.requires.seated;
      register = λ k. record desk.register { holds = free k };
    }

pub take_all-requires-clause-own : goal.take_all-requires-clause-own
take_all-requires-clause-own g c =
    let desk = c.args.desk.now in
    seats_of _ desk.caller desk.shards.items desk.register
    (subst (λ (o : OfficeState). AreAt o desk.caller desk.shards.items desk.register)
    (c.requires.office ∙ sym c.office.view_is) c.requires.seated)

-- all turns were taken
taken :
    (g : Over) (c : After-take_all g)
    → TookTurns c.args.office.now.shards c.args.desk.now.shards.items c.take_all.new.seats.items
taken g c =
    let n : vec_len c.office.inside.windows ≡ c.args.office.now.shards =
    omega (
      arith,
      c.office.inside.windows.ok.0,
      c.office.invariant.0,
      ap (λ (o : OfficeState). o.shards) c.office.view_is,
    ) in
    subst (λ k. TookTurns k c.args.desk.now.shards.items c.take_all.new.seats.items) n
    c.take_all.ensures.taken

held :
    (g : Over) (c : After-take_all g)
    → AllHeld c.args.office.now c.take_all.new.seats.items c.take_all.new.held.items
held g c =
    let desk = c.args.desk.now in
    let same = ap (λ (o : OfficeState). o.shards) c.office.view_is in
    let windows : length c.args.office.now.identity.windows ≡ c.args.office.now.shards =
    subst (λ (o : OfficeState). length o.identity.windows ≡ o.shards) c.office.view_is c.office.invariant.0 in
    let len : length c.take_all.new.held.items ≡ c.args.office.now.shards =
    omega (
      arith,
      c.take_all.ensures.len.0,
      c.take_all.new.held.ok.0,
      c.office.inside.windows.ok.0,
      c.office.invariant.0,
    ) in
    let are =
    subst (λ (o : OfficeState). AreAt o desk.caller desk.shards.items desk.register) c.requires.office
    c.requires.seated in
    all_held c.args.office.now desk.caller desk.shards.items c.take_all.new.seats.items desk.register
    c.take_all.new.held.items are windows (taken g c) len c.take_all.ensures.held

-- the register whose turn is taken has the office's name
kept_name :
    (g : Over) (c : After-take-kept g)
    → register_name c.take-kept.result
    ≡ record {
      shards = c.office.inside.shards;
      candidates = c.office.inside.candidates;
      ties = ties_at c.office.inside.windows.items;
    }
kept_name g c =
    let name : OfficeState → RegisterName =
    λ o. record { shards = o.shards; candidates = o.candidates; ties = ties_at o.identity.windows } in
    let is : Some (register_name c.take-kept.result) ≡ Some (name (record {
      shards = c.office.inside.shards;
      candidates = c.office.inside.candidates;
      identity = record { windows = c.office.inside.windows.items; register = c.office.inside.register };
    })) =
    sym c.take-kept.ensures.name
    ∙ (c.requires.seated.registered.name
    ∙ ap (λ (o : OfficeState). Some (name o)) (c.requires.office ∙ sym c.office.view_is)) in
    cc is

pub agree_all-requires-clause-register_ties : goal.agree_all-requires-clause-register_ties
agree_all-requires-clause-register_ties g c =
    ap (λ (n : RegisterName). n.ties)
    (kept_name g (goal.at.agree_all-requires-clause-register_ties g c).After-take-kept)

pub agree_all-requires-clause-ties : goal.agree_all-requires-clause-ties
agree_all-requires-clause-ties g c =
    subst (λ (o : OfficeState). AreTied o.identity.windows c.take_all.new.held.items) (sym c.office.view_is)
    (held g (goal.at.agree_all-requires-clause-ties g c).After-take_all).ties

-- there is a value for each shard
count : (g : Over) (c : After-agree_all g) → vec_len c.agree_all.new.held ≡ c.args.office.now.shards
count g c =
    omega (
      arith,
      c.take_all.ensures.len.0,
      c.agree_all.ensures.held.0,
      c.office.inside.windows.ok.0,
      c.office.invariant.0,
      ap (λ (o : OfficeState). o.shards) c.office.view_is,
    )

-- each value is its shard's, and has as many entries as marks
named :
    (g : Over) (c : After-agree_all g)
    → AllHeld c.args.office.now c.take_all.new.seats.items c.take_all.new.held.items
    → AreNamed (vec_len c.agree_all.new.held) c.office.inside.candidates c.agree_all.new.held.items
named g c all =
    let candidates = ap (λ (o : OfficeState). o.candidates) c.office.view_is in
    subst (λ (z : ℕ × ℕ × List SeenShard). AreNamed z.0 z.1 z.2)
    (λ i. (sym (count g c) i, sym candidates i, sym c.agree_all.ensures.held.1 i)) all.named

marks :
    (g : Over) (c : After-agree_all g)
    → c.take-kept.result.register.marks ≡ c.agree_all.new.kept.register.marks
marks g c = sym (ap (λ (r : SeenRegister). r.register.marks) c.agree_all.ensures.kept)

agreed :
    (g : Over) (c : After-agree_all g)
    → AreAgreed (vec_len c.agree_all.new.held) c.agree_all.new.kept.register.marks c.agree_all.new.held.items
agreed g c =
    subst (λ (z : ℕ × List Mark × List SeenShard). AreAgreed z.0 z.1 z.2)
    (λ i. (sym c.agree_all.ensures.held.0 i, marks g c i, sym c.agree_all.ensures.held.1 i))
    c.agree_all.ensures.agreed

pub copied-requires-clause-named : goal.copied-requires-clause-named
copied-requires-clause-named g c =
    let before = goal.at.copied-requires-clause-named g c in
    let are = named g before.After-agree_all (held g before.After-take_all) in
    λ κs given. are

pub copied-requires-clause-agreed : goal.copied-requires-clause-agreed
copied-requires-clause-agreed g c =
    let are = agreed g (goal.at.copied-requires-clause-agreed g c).After-agree_all in
    λ κs given. are

pub copied-requires-clause-register : goal.copied-requires-clause-register
copied-requires-clause-register g c =
    let before = goal.at.copied-requires-clause-register g c in
    let name = ap register_name c.agree_all.ensures.kept ∙ kept_name g before.After-take-kept in
    let shards = ap (λ (o : OfficeState). o.shards) c.office.view_is in
    let are :
    (c.agree_all.new.kept.register.shards ≡ vec_len c.agree_all.new.held)
    × (c.agree_all.new.kept.register.candidates ≡ c.office.inside.candidates) = (
      ap (λ (n : RegisterName). n.shards) name ∙ (shards ∙ sym (count g before.After-agree_all)),
      ap (λ (n : RegisterName). n.candidates) name,
    ) in
    λ κs given. are

-- the turn of the register is this desk's
turn :
    (g : Over) (c : After-take-kept g)
    → (c.take-kept.new.seat.lock ≡ c.office.inside.register) × (c.take-kept.new.seat.holds ≡ true)
turn g c = (
  ap (λ (s : RegisterSeat). s.lock) c.take-kept.ensures.seat
      ∙ (c.requires.seated.registered.lock
      ∙ ap (λ (o : OfficeState). o.identity.register) (c.requires.office ∙ sym c.office.view_is)),
  ap (λ (s : RegisterSeat). s.holds) c.take-kept.ensures.seat,
)

pub give_with-requires-clause-own : goal.give_with-requires-clause-own
give_with-requires-clause-own g c = turn g (goal.at.give_with-requires-clause-own g c).After-take-kept

pub give_back-requires-clause-own : goal.give_back-requires-clause-own
give_back-requires-clause-own g c = turn g (goal.at.give_back-requires-clause-own g c).After-take-kept

pub give_with-requires-clause-name : goal.give_with-requires-clause-name
give_with-requires-clause-name g c =
    ap (λ (s : RegisterSeat). s.name) c.take-kept.ensures.seat
    ∙ (c.take-kept.ensures.name
    ∙ ap Some (sym (c.freeze.ensures.name
    ∙ (ap register_name c.value_mut.ensures.value
    ∙ (c.in-Ok.ensures.name ∙ ap register_name c.agree_all.ensures.kept)))))

pub give_back-requires-clause-name : goal.give_back-requires-clause-name
give_back-requires-clause-name g c =
    ap (λ (s : RegisterSeat). s.name) c.take-kept.ensures.seat
    ∙ (c.take-kept.ensures.name
    ∙ ap Some (sym (c.in-Err.ensures.name ∙ ap register_name c.agree_all.ensures.kept)))

pub give_back-requires-clause-entries : goal.give_back-requires-clause-entries
give_back-requires-clause-entries g c =
    c.in-Err.ensures.marks
    ∙ (ap (λ (r : SeenRegister). r.register.marks) c.agree_all.ensures.kept
    ∙ sym (ap (λ (s : RegisterSeat). s.seen) c.take-kept.ensures.seat))

-- after the freeze
looks : (g : Over) (c : goal.After-give_all g) → Looks c.args.desk.now.shards.items c.give_all.new.seats.items
looks g c =
    let count = c.requires.seated.count in
    let same = ap (λ (o : OfficeState). o.shards) c.requires.office in
    looks_by c.args.office.now.shards c.args.desk.now.shards.items c.take_all.new.seats.items
    c.give_all.new.seats.items (omega arith)
    (taken g (goal.at.returns-in-Ok-clause-seated g c).After-take_all) c.give_all.ensures.given

marks_now :
    (g : Over) (c : goal.After-give_all g)
    → c.freeze.new.self.register.marks
    ≡ c.take-kept.result.register.marks ++ Freeze c.args.desk.now.caller ∷ []
marks_now g c =
    c.freeze.ensures.marks
    ∙ ap (λ (m : List Mark). m ++ Freeze c.args.desk.now.caller ∷ [])
    (ap (λ (r : SeenRegister). r.register.marks) c.value_mut.ensures.value
    ∙ (c.in-Ok.ensures.marks ∙ ap (λ (r : SeenRegister). r.register.marks) c.agree_all.ensures.kept))

gave :
    (g : Over) (c : goal.After-give_all g)
    → Gave c.args.desk.now.register c.give_with.new.seat (Freeze c.args.desk.now.caller)
gave g c =
    let mark : Mark = Freeze c.args.desk.now.caller in
    let log : c.freeze.new.self.register.marks ≡ c.take-kept.new.seat.seen ++ mark ∷ [] =
    marks_now g c
    ∙ ap (λ (m : List Mark). m ++ mark ∷ []) (sym (ap (λ z. z.seen) c.take-kept.ensures.seat)) in
    turn_gave c.args.desk.now.register c.take-kept.new.seat c.give_with.new.seat
    c.take-kept.result.register.marks c.freeze.new.self.register.marks mark c.take-kept.ensures.seat
    c.take-kept.ensures.begins c.give_with.ensures.seat (marks_now g c) (c.give_with.ensures.mine mark log)

frozen :
    (g : Over) (c : goal.After-give_all g)
    → HaveFrozen c.args.desk.now.office.value c.args.desk.now.caller c.args.desk.now.shards.items
    c.give_all.new.seats.items c.args.desk.now.register c.give_with.new.seat
frozen g c =
    let desk = c.args.desk.now in
    have_frozen desk.office.value desk.caller desk.shards.items c.give_all.new.seats.items desk.register
    c.give_with.new.seat c.requires.seated (looks g c) c.give_with.ensures.own (gave g c)

pub returns-in-Ok-clause-seated : goal.returns-in-Ok-clause-seated
returns-in-Ok-clause-seated g c = (frozen g c).at

pub returns-in-Ok-clause-stays : goal.returns-in-Ok-clause-stays
returns-in-Ok-clause-stays g c =
    record {
      office = refl;
      caller = refl;
      looks = looks g c;
      register = gave_still c.args.desk.now.register c.give_with.new.seat (Freeze c.args.desk.now.caller) (gave g c);
    }

pub returns-in-Ok-clause-goes_on : goal.returns-in-Ok-clause-goes_on
returns-in-Ok-clause-goes_on g c = (frozen g c).goes_on

pub returns-in-Ok-clause-own : goal.returns-in-Ok-clause-own
returns-in-Ok-clause-own g c = (frozen g c).own

pub returns-in-Ok-clause-mine : goal.returns-in-Ok-clause-mine
returns-in-Ok-clause-mine g c = (frozen g c).mine

pub returns-in-Ok-clause-frozen : goal.returns-in-Ok-clause-frozen
returns-in-Ok-clause-frozen g c =
    let desk = c.args.desk.now in
    let now = seen (record desk { shards = c.give_all.new.seats; register = c.give_with.new.seat }) in
    let then = goal.at.returns-in-Ok-clause-frozen g c in
    let all = held g then.After-take_all in
    let n = count g then.After-agree_all in
    let before = c.take-kept.ensures.begins in
    let it =
    freeze_is (vec_len c.agree_all.new.held) c.office.inside.candidates c.agree_all.new.kept.register.marks
    c.agree_all.new.held.items (omega (arith, c.agree_all.new.held.ok.0))
    (omega (arith, n, c.office.invariant.1, ap (λ (o : OfficeState). o.shards) c.office.view_is))
    c.in-Ok.ensures.may (named g then.After-agree_all all) (agreed g then.After-agree_all)
    c.in-Ok.version.plans c.in-Ok.ensures.count c.in-Ok.ensures.plans desk.caller
    (seen desk) now before.0
    (ap (λ (z : RegisterSeat). z.seen) c.give_with.ensures.seat
    ∙ (marks_now g c ∙ ap (λ (m : List Mark). m ++ Freeze desk.caller ∷ []) before.1))
    (sym before.1 ∙ marks g then.After-agree_all)
    (all.seen c.give_all.new.seats.items c.give_all.ensures.given
    ∙ ap (λ (l : List SeenShard). by_shard (entries_held l)) (sym c.agree_all.ensures.held.1))
    c.in-Ok.version c.in-Ok.ensures.at refl c.in-Ok.ensures.struck in
    subst (λ k. IsFreeze k desk.caller c.in-Ok.version (seen desk) now) n it

-- after want of memory
looks_err :
    (g : Over) (c : goal.After-give_all-in-Err g)
    → Looks c.args.desk.now.shards.items c.give_all-in-Err.new.seats.items
looks_err g c =
    let count = c.requires.seated.count in
    let same = ap (λ (o : OfficeState). o.shards) c.requires.office in
    looks_by c.args.office.now.shards c.args.desk.now.shards.items c.take_all.new.seats.items
    c.give_all-in-Err.new.seats.items (omega arith)
    (taken g (goal.at.returns-in-Err-clause-seated g c).After-take_all) c.give_all-in-Err.ensures.given

looked_err :
    (g : Over) (c : goal.After-give_all-in-Err g)
    → Looked c.args.desk.now.register c.give_back.new.seat
looked_err g c =
    turn_looked c.args.desk.now.register c.take-kept.new.seat c.give_back.new.seat
    c.take-kept.result.register.marks c.take-kept.ensures.seat c.take-kept.ensures.begins
    c.give_back.ensures.seat

looked :
    (g : Over) (c : goal.After-give_all-in-Err g)
    → HaveLooked c.args.desk.now.office.value c.args.desk.now.caller c.args.desk.now.shards.items
    c.give_all-in-Err.new.seats.items c.args.desk.now.register c.give_back.new.seat
looked g c =
    let desk = c.args.desk.now in
    have_looked desk.office.value desk.caller desk.shards.items c.give_all-in-Err.new.seats.items
    desk.register c.give_back.new.seat c.requires.seated (looks_err g c) c.give_back.ensures.own (looked_err g c)

pub returns-in-Err-clause-seated : goal.returns-in-Err-clause-seated
returns-in-Err-clause-seated g c = (looked g c).at

pub returns-in-Err-clause-stays : goal.returns-in-Err-clause-stays
returns-in-Err-clause-stays g c =
    record {
      office = refl;
      caller = refl;
      looks = looks_err g c;
      register = looked_still c.args.desk.now.register c.give_back.new.seat (looked_err g c);
    }

pub returns-in-Err-clause-goes_on : goal.returns-in-Err-clause-goes_on
returns-in-Err-clause-goes_on g c = (looked g c).goes_on

pub returns-in-Err-clause-refused : goal.returns-in-Err-clause-refused
returns-in-Err-clause-refused g c = (looked g c).own

pub returns-in-Err-clause-nothing_made : goal.returns-in-Err-clause-nothing_made
returns-in-Err-clause-nothing_made g c = (looked g c).mine
