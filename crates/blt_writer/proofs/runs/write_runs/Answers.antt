use Rattle.std.proofs.Common.{◌≡◌, ◌+◌, ℕ, List, take, drop, length, get_or, ◌∷◌, ◌++◌, arith, ap, sym, subst, ◌∙◌, All}
use Rattle.std.specs.List.{sum_by}
use Rattle.std.proofs.lemmas.List.{nil_from_length, length-drop, length-take}
use Rattle.std.proofs.lemmas.List.Elements.{All-drop}
use Rattle.plain_ballots.specs.Ballots.{ballot_count}
use Rattle.blt_writer.specs.declared.entry.Entry.{Entry}
use Rattle.blt_writer.specs.Packed.{ranking_at, line_of, entry_lines, IsEntry}
use Rattle.blt_writer.specs.Text.{ballot_text}
use Rattle.blt_writer.proofs.ListingLemmas.{IsListing, listing_begun, listing_handed, listing_more}
use Rattle.blt_writer.proofs.ListingLemmas.{listing_stopped, listing_done, few_of_run}
use Rattle.blt_writer.proofs.RunLines.{parted, count_of_run, counted_lines}
use Rattle.blt_writer.proofs.MergingLemmas.{line}
use Rattle.blt_writer.proofs.runs.write_runs.Goals as goal

pub loop-rest-init : goal.loop-rest-init
loop-rest-init g c = record {
  sound = c.requires.sound;
  so_far =
      listing_begun _ _ _ _ (entry_lines c.args.ranks.now c.args.entries.now) c.requires.empty c.requires.few
      (counted_lines c.args.ranks.now c.args.entries.now c.requires.sound) c.requires.listed;
}

pub count-requires : goal.count-requires
count-requires g c =
    let ranks = c.args.ranks.now in
    let rest = c.loop-rest.rest.now in
    let first = c.entry_at-first.result in
    let n = c.run_of.result in
    let parts = parted ranks rest n first c.loop-rest-test.true c.entry_at-first.ensures c.run_of.ensures in
    let few =
    few_of_run (ranking_at ranks first.start) (line_of ranks first)
    (entry_lines ranks (drop 1 (take n rest))) (entry_lines ranks (drop n rest))
    c.loop-rest.invariant.so_far parts in
    let same = count_of_run ranks rest n first c.loop-rest-test.true c.entry_at-first.ensures c.run_of.ensures in
    let front = ap (λ (es : List Entry). sum_by (λ (e : Entry). e.count) es) c.split_at.ensures.front in
    omega (arith, few, same, front)

pub returns-in_err-make_room-clause-written : goal.returns-in_err-make_room-clause-written
returns-in_err-make_room-clause-written g c =
    listing_stopped _ _ c.from_residual.ensures.0 c.loop-rest.invariant.so_far c.in_err-make_room.ensures.handed

pub loop-rest-preserved : goal.loop-rest-preserved
loop-rest-preserved g c =
    let ranks = c.args.ranks.now in
    let rest = c.loop-rest.rest.now in
    let first = c.entry_at-first.result in
    let n = c.run_of.result in
    let r = ranking_at ranks first.start in
    let same = entry_lines ranks (drop 1 (take n rest)) in
    let w = g.K.Sink.written in
    let f = g.K.Sink.faults in
    let handed = listing_handed _ c.loop-rest.invariant.so_far c.in_ok-make_room.ensures.handed in
    let parts = parted ranks rest n first c.loop-rest-test.true c.entry_at-first.ensures c.run_of.ensures in
    let counted : c.count.result ≡ ballot_count (line_of ranks first ∷ same) =
    c.count.ensures ∙ (ap (λ (es : List Entry). sum_by (λ (e : Entry). e.count) es) c.split_at.ensures.front
    ∙ count_of_run ranks rest n first c.loop-rest-test.true c.entry_at-first.ensures c.run_of.ensures) in
    let text =
    c.add.ensures
    ∙ ap (λ (l : List ℕ). c.make_room.new.self ++ l) (ap
    (λ (k : ℕ). ballot_text (line k c.ranking_at.result.now)) counted
    ∙ ap (λ (q : List ℕ). ballot_text (line (ballot_count (line_of ranks first ∷ same)) q))
    c.ranking_at.ensures) in
    let more = listing_more r (line_of ranks first) same (entry_lines ranks (drop n rest)) handed parts in
    record {
      sound =
          subst (All (IsEntry ranks)) (sym c.split_at.ensures.back)
          (All-drop (IsEntry ranks) n rest c.loop-rest.invariant.sound);
      so_far =
          subst (λ (es : List Entry). IsListing w f c.args.sink.now c.make_room.new.sink c.add.new.self
          (entry_lines ranks c.args.entries.now) (entry_lines ranks es))
          (sym c.split_at.ensures.back)
          (subst (λ (p : List ℕ). IsListing w f c.args.sink.now c.make_room.new.sink p
          (entry_lines ranks c.args.entries.now) (entry_lines ranks (drop n rest))) (sym text) more);
    }

pub returns-clause-written : goal.returns-clause-written
returns-clause-written g c =
    let empty = nil_from_length c.loop-rest.rest.now (omega (arith, c.loop-rest-test.false)) in
    listing_done _ c.loop-rest.invariant.so_far (ap (entry_lines c.args.ranks.now) empty) c.flush.ensures.written

pub split_at-requires : goal.split_at-requires
split_at-requires g c = c.run_of.ensures.within

pub add-requires-clause-short : goal.add-requires-clause-short
add-requires-clause-short g c =
    let ranks = c.args.ranks.now in
    let start = c.entry_at-first.result.start in
    let behind = drop (start + 1) ranks in
    omega (
      arith,
      ap (λ (r : List ℕ). length r) c.ranking_at.ensures,
      length-take (get_or ranks start 0) behind,
      c.type_inv.ranks start,
    )

pub add-requires-clause-room : goal.add-requires-clause-room
add-requires-clause-room g c = c.in_ok-make_room.ensures.room

pub loop-rest-smaller : goal.loop-rest-smaller
loop-rest-smaller g c =
    let rest = c.loop-rest.rest.now in
    omega (
      arith,
      ap (λ (es : List Entry). length es) c.split_at.ensures.back,
      length-drop c.run_of.result rest,
      c.run_of.ensures.some,
      c.loop-rest-test.true,
    )
