-- Counts that come out the same with any lots, by computing.
use Rattle.std.proofs.Common.{◌≡◌, ℕ, ◌-◌, ◌≤◌, ◌==◌, ◌&&◌, List, Bool, true, arith, refl, sym, ◌∙◌, length}
use Rattle.std.specs.Prelude.{nat_le}
use Rattle.std.proofs.lemmas.Bool.{eqb-true, leb-true}
use Rattle.fixed_place.specs.Rounding.{scale}
use Rattle.lot_order.specs.Flags.{mark_at}
use Rattle.lot_order.specs.Lots.{IsOrder, first_marked}
use Rattle.lot_order.proofs.LotsLemmas.{first_marked-order}
use Rattle.meek_rule.specs.Places.{marked_count}
use Rattle.meek_rule.specs.Rule.{Rule, Meek, Warren}
use Rattle.meek_rule.specs.Situation.{Situation, opening, final_states}
use Rattle.meek_rule.specs.Weights.{votes_under}
use Rattle.meek_rule.proofs.TestLemmas.{and_first, and_second}
use Rattle.meek_rule.proofs.TieLemmas.{first_marked-marked}
use Rattle.meek_count.specs.Rows.{IsCountUnder}
use Rattle.meek_count.proofs.WorkedRows.{Votes, all_due, all_written, end_of, counted}
use Rattle.rule_laws.specs.Paradoxes.{WorkedCount, AlwaysCounts}
use Rattle.rule_laws.proofs.TieBreaks.{only_mark}

-- whoever alone is marked is the first of the marked in each order of lots
lone_first :
    (lots : List ℕ) (marks : List Bool) (c : ℕ) → IsOrder lots → length lots ≡ length marks → 1 ≤ c
    → marked_count marks ≤ 1 → mark_at marks (c - 1) ≡ true → c ≡ first_marked lots marks
lone_first lots marks c order same from few marked =
    let some : 1 ≤ first_marked lots marks = first_marked-order lots marks (c - 1) order (sym same) marked in
    let one : c - 1 ≡ first_marked lots marks - 1 =
    only_mark marks (c - 1) (first_marked lots marks - 1) few marked (first_marked-marked lots marks some) in
    omega arith

-- whether c alone is marked, of so many candidates
abbrev pub is_lone : (candidates : ℕ) → (c : ℕ) → (marks : List Bool) → Bool
is_lone candidates c marks =
    nat_le 1 c && (nat_le (marked_count marks) 1 && (mark_at marks (c - 1) && (candidates == length marks)))

lone_taken :
    (candidates : ℕ) (lots : List ℕ) → IsOrder lots → length lots ≡ candidates
    → (c : ℕ) (marks : List Bool) → is_lone candidates c marks ≡ true → c ≡ first_marked lots marks
lone_taken candidates lots order all c marks lone =
    let few = and_second _ _ lone in
    let marked = and_second _ _ few in
    lone_first lots marks c order (all ∙ eqb-true _ _ (and_second _ _ marked)) (leb-true _ _ (and_first _ _ lone))
    (leb-true _ _ (and_first _ _ few)) (and_first _ _ marked)

abbrev start : WorkedCount → Situation
start w = opening (scale 9) 1000 w.roll.seats w.roll.withdrawn

abbrev votes_by : Rule → WorkedCount → Votes
votes_by rule w = λ keeps n. votes_under rule (scale 9) keeps w.ballots n

-- a count of which no row asks for lots
pub always_counted :
    (w : WorkedCount) → ((lots : List ℕ) → all_due (is_lone (length w.roll.names)) (scale 9) lots (start w) w.rows ≡ true)
    → w.rows ≡ all_written (votes_by Meek w) (scale 9) (start w) w.rows
    → w.rows ≡ all_written (votes_by Warren w) (scale 9) (start w) w.rows
    → w.last ≡ final_states (end_of (scale 9) (start w) w.rows) → AlwaysCounts w
always_counted w due meek warren end = by_rule
  where
    by :
        (rule : Rule) → w.rows ≡ all_written (votes_by rule w) (scale 9) (start w) w.rows
        → (lots : List ℕ) → IsOrder lots → length lots ≡ length w.roll.names
        → IsCountUnder rule 9 1000 w.ballots w.roll lots w.rows w.last
    by rule are lots order all =
        counted rule (votes_by rule w) (is_lone (length w.roll.names)) (scale 9) w.ballots lots (λ keeps n. refl)
        (lone_taken (length w.roll.names) lots order all) (start w) w.rows w.last (due lots) are end

    by_rule : AlwaysCounts w
    by_rule Meek = by Meek meek
    by_rule Warren = by Warren warren
