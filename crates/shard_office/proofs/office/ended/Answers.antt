use Rattle.std.proofs.Common.{◌≡◌, ◌≤◌, ◌++◌, ℕ, List, length, map, sym, ap, ◌∙◌, subst, arith, Some}
use Rattle.std.specs.Prelude.{slice_get, vec_len, reverse, All}
use Rattle.batch_core.specs.Entries.{EntryList}
use Rattle.call_register.specs.declared.mark.Mark.{Mark}
use Rattle.call_register.specs.Marks.{MayMark}
use Rattle.call_register.specs.Weaving.{list_of}
use Rattle.shard_office.specs.declared.register_value.RegisterName.{RegisterName}
use Rattle.shard_office.specs.Office.{OfficeState, ties_at}
use Rattle.shard_office.specs.Values.{SeenRegister}
use Rattle.shard_office.specs.Names.{register_name}
use Rattle.shard_office.specs.Passes.{PassState, IsOfWindow, sight_of, mine_of}
use Rattle.shard_office.specs.Clerk.{ClerkState, AreFirst}
use Rattle.shard_office.specs.Closing.{AreEnded, HoldsAll}
use Rattle.shard_office.proofs.ClosingLemmas.{all_held, no_length}
use Rattle.shard_office.proofs.office.ended.Goals as goal

pub end_all-requires-clause-may : goal.end_all-requires-clause-may
end_all-requires-clause-may c i s es =
    let same : c.clerk.inside.desk.office.value ≡ c.args.office =
    ap (λ (z : ClerkState). z.desk.office) c.clerk.view_is ∙ c.requires.office in
    let teams : c.clerk.inside.teams ≡ 0 = ap (λ (z : ClerkState). z.open_teams) c.clerk.view_is ∙ c.requires.alone in
    let to : c.clerk.inside.desk.office.value ≡ _ = same ∙ sym c.office.view_is in
    let first = c.clerk.invariant.0.shards i s es in
    let mine = c.clerk.invariant.0.at.shards i s es in
    let out = first.out in
    record {
      window = λ w ew. subst (λ (k : OfficeState). IsOfWindow k.shards k.candidates i w s) to
          (mine.window w (ap (λ (k : OfficeState). slice_get k.identity.windows i) to ∙ ew));
      first = first.first;
      free = mine.free;
      alone = no_length s.out (omega arith);
    }

pub invariant_of-result : goal.invariant_of-result
invariant_of-result c =
    let same : c.clerk.inside.desk.office.value ≡ c.args.office =
    ap (λ (z : ClerkState). z.desk.office) c.clerk.view_is ∙ c.requires.office in
    let teams : c.clerk.inside.teams ≡ 0 = ap (λ (z : ClerkState). z.open_teams) c.clerk.view_is ∙ c.requires.alone in
    let taken : List PassState = map (λ t. t.value) c.clerk.inside.taken.items in
    let seats = c.clerk.inside.desk.shards.items in
    let register = c.clerk.inside.desk.register in
    let lists = c.end_all.new.lists.items in
    let marks = c.close-kept.result.register.marks in
    let are : AreFirst c.args.office c.clerk.inside.last 0 taken seats register =
    subst (λ (z : OfficeState × ℕ). AreFirst z.0 c.clerk.inside.last z.1 taken seats register)
    (λ i. (same i, teams i)) c.clerk.invariant.0 in
    let shards = ap (λ (o : OfficeState). o.shards) c.office.view_is in
    let candidates = ap (λ (o : OfficeState). o.candidates) c.office.view_is in
    let n : vec_len c.office.inside.windows ≡ c.args.office.shards =
    omega (arith, c.office.inside.windows.ok.0, c.office.invariant.0) in
    let len : length lists ≡ c.args.office.shards = omega (arith, c.end_all.ensures.len, c.end_all.new.lists.ok.0) in
    let some : 1 ≤ c.args.office.shards = omega (arith, c.office.invariant.1) in
    let ended : AreEnded c.args.office.shards c.args.office.candidates c.args.office.shards marks seats lists =
    subst (λ (z : ℕ × ℕ × ℕ). AreEnded z.0 z.1 z.2 marks seats lists) (λ i. (shards i, candidates i, n i))
    c.end_all.ensures.ended in
    let name :
    Some (register_name c.close-kept.result)
    ≡ Some (record {
      shards = c.args.office.shards;
      candidates = c.args.office.candidates;
      ties = ties_at c.args.office.identity.windows;
    }) =
    sym c.close-kept.ensures.name ∙ are.at.registered.name in
    let named :
    register_name c.close-kept.result
    ≡ record {
      shards = c.args.office.shards;
      candidates = c.args.office.candidates;
      ties = ties_at c.args.office.identity.windows;
    } =
    cc name in
    let may : All (MayMark c.args.office.shards c.args.office.candidates) marks =
    subst (λ (k : RegisterName). All (MayMark k.shards k.candidates) marks) named c.vouch.ensures in
    let clerk :
    record {
      desk =
          record {
            office = c.args.office;
            caller = 0;
            sight = sight_of seats register;
            mine = mine_of seats register;
          };
      taken = taken;
      last_caller = c.clerk.inside.last;
      open_teams = 0;
    } ≡ c.of-about.result.value =
    (λ i. record {
      desk =
          record {
            office = sym same i;
            caller = sym c.clerk.invariant.1 i;
            sight = sight_of seats register;
            mine = mine_of seats register;
          };
      taken = taken;
      last_caller = c.clerk.inside.last;
      open_teams = sym teams i;
    }) ∙ (c.clerk.view_is ∙ sym c.of-about.ensures) in
    let all =
    all_held c.args.office c.clerk.inside.last taken seats register are marks lists len some ended may
    c.close-kept.ensures.begins c.close-kept.ensures.given in
    let now : marks ≡ c.end_all.new.kept.register.marks =
    sym (ap (λ (r : SeenRegister). r.register.marks) c.end_all.ensures.kept) in
    let list : reverse lists ≡ c.new.result ++ reverse lists =
    ap (λ (l : List EntryList). l ++ reverse lists) (sym c.new.ensures) in
    subst (λ (z : List Mark × List EntryList × ClerkState). HoldsAll z.2 z.0 (list_of z.1))
    (λ i. (now i, list i, clerk i)) all
