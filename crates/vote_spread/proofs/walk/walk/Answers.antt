use Rattle.std.proofs.Common.{◌≡◌, ◌+◌, ◌<◌, length, drop, sum, arith, ap, ◌∙◌}
use Rattle.vote_spread.specs.declared.row.Row.{Row}
use Rattle.vote_spread.specs.Gain.{past, gains}
use Rattle.vote_spread.specs.Rows.{seen}
use Rattle.vote_spread.proofs.GainLemmas.{length-past}
use Rattle.vote_spread.proofs.VisitLemmas.{row_at, row_sound, rows_more}
use Rattle.vote_spread.proofs.walk.walk.Goals as goal

-- what stands past the end of rows
abbrev none : Row
none = record { ballots = 0; candidate = 0; depth = 0 }

pub visit-requires-clause-depth : goal.visit-requires-clause-depth
visit-requires-clause-depth c =
    let is =
    row_sound (length c.args.tally.now) c.args.rows.now c.loop-row.row-index none c.loop-row-test.true
    c.requires.rows in
    (is.below_root, omega (arith, is.shallow, c.loop-row.invariant.depths))

pub visit-requires-clause-candidate : goal.visit-requires-clause-candidate
visit-requires-clause-candidate c =
    let is =
    row_sound (length c.args.tally.now) c.args.rows.now c.loop-row.row-index none c.loop-row-test.true
    c.requires.rows in
    (is.candidate, omega (arith, is.known, c.loop-row.invariant.same_length))

pub visit-requires-clause-room : goal.visit-requires-clause-room
visit-requires-clause-room c =
    let s = c.args.leaving.now.one in
    let inv = c.loop-row.invariant in
    λ p lt.
    let below : p < length c.args.tally.now = omega (arith, inv.same_length) in
    omega (
      arith,
      rows_more s c.args.leaving.now.keeps (p + 1) c.loop-row.weights c.args.rows.now
          c.loop-row.row-index none
          c.loop-row-test.true,
      inv.missing p below,
      c.requires.room p below,
    )

pub loop-row-preserved : goal.loop-row-preserved
loop-row-preserved c =
    let s = c.args.leaving.now.one in
    let keeps = c.args.leaving.now.keeps in
    let rows = c.args.rows.now in
    let i = c.loop-row.row-index in
    let ws = c.loop-row.weights in
    let inv = c.loop-row.invariant in
    let row = row_at rows i none in
    let behind : c.visit.new.weights ≡ past s keeps ws row = c.visit.ensures.weights in
    record {
      same_length = c.visit.ensures.same_length ∙ inv.same_length;
      depths = ap length behind ∙ (length-past s keeps ws row ∙ inv.depths);
      light = c.visit.ensures.still_light;
      missing =
          λ p lt.
          let gave = c.visit.ensures.gives p (omega (arith, inv.same_length)) in
          let rest = ap (λ l. sum (gains s keeps (p + 1) l (drop (i + 1) (seen rows)))) behind in
          omega (arith, rows_more s keeps (p + 1) ws rows i none c.loop-row-test.true, inv.missing p lt);
    }
