-- Winners and surplus without those who do not run, under other numbers.
use Rattle.std.proofs.Common.{◌≡◌, ℕ, ◌+◌, ◌-◌, ◌*◌, ◌<◌, ◌==◌, ◌&&◌, ◌||◌, nat_lt, nat_le, Bool, true, false}
use Rattle.std.proofs.Common.{cond, List, length, get_or, sum, min, arith, ap, sym, ◌∙◌, inl, inr}
use Rattle.std.proofs.lemmas.Bool.{cases_Bool, false≢true}
use Rattle.candidate_roll.specs.declared.state.State.{State}
use Rattle.candidate_roll.specs.declared.state.State.TheVariants.{Withdrawn}
use Rattle.lot_order.specs.Flags.{mark_at}
use Rattle.lot_order.specs.Lots.{place_in}
use Rattle.lot_order.proofs.LotsLemmas.{marked-below}
use Rattle.meek_rule.specs.Places.{each_place, count_places}
use Rattle.meek_rule.specs.Situation.{is_hopeful, is_elected}
use Rattle.meek_rule.specs.Quota.{has_reached}
use Rattle.meek_rule.specs.Winners.{AreWinners, comes_before}
use Rattle.meek_rule.specs.Surplus.{surplus, holds_seat}
use Rattle.meek_rule.proofs.WinnersByCount.{reached_place}
use Rattle.rule_laws.proofs.Totals.{sum-total, total-same}
use Rattle.rule_laws.proofs.Moved.{AreOut, count-moved, marked-moved, moved, moved-at, moved-length}
use Rattle.rule_laws.proofs.Moved.{Numbering, place_by, place_inside, total-moved}
use Rattle.rule_laws.proofs.Renamed.{AreNumbers, lots_moved, order-renamed}

module _ (by : Numbering) where
  reached-renamed : (states : List State) (votes : List ℕ) (q p : ℕ) → p < by.new
      → has_reached (moved by Withdrawn states) (moved by 0 votes) q p
      ≡ has_reached states votes q (place_by by.from p)
  reached-renamed states votes q p below =
      λ i. is_hopeful (moved-at by Withdrawn states p below i) && nat_le q (moved-at by 0 votes p below i)

  reached_out : (states : List State) (votes : List ℕ) (q p : ℕ) → AreOut by Withdrawn states
      → p < by.old → by.runs (p + 1) ≡ false → has_reached states votes q p ≡ false
  reached_out states votes q p out below apart =
      ap (λ (x : State). is_hopeful x && nat_le q (get_or votes p 0)) (out p below apart)

  before-renamed :
      (votes lots : List ℕ) (a b : ℕ) → AreNumbers by.old lots → a < by.new → b < by.new
      → comes_before (moved by 0 votes) (lots_moved by lots) a b
      ≡ comes_before votes lots (place_by by.from a) (place_by by.from b)
  before-renamed votes lots a b numbers a_below b_below =
      let va = moved-at by 0 votes a a_below in
      let vb = moved-at by 0 votes b b_below in
      let later :
      nat_lt (place_in (lots_moved by lots) (b + 1)) (place_in (lots_moved by lots) (a + 1))
      ≡ nat_lt (place_in lots (place_by by.from b + 1)) (place_in lots (place_by by.from a + 1)) =
      order-renamed by lots (b + 1) (a + 1) numbers (omega arith) (omega arith) (omega arith) (omega arith)
      ∙ sym (λ i. nat_lt (place_in lots ((place_inside by b b_below).1 i))
      (place_in lots ((place_inside by a a_below).1 i)))
      in
      λ i. nat_lt (vb i) (va i) || ((va i == vb i) && later i)

  pub marks_out :
      (states : List State) (free : ℕ) (votes lots : List ℕ) (q : ℕ) (marks : List Bool)
      → AreOut by Withdrawn states → AreWinners states free votes lots q marks → AreOut by false marks
  marks_out states free votes lots q marks out winners p below apart =
      elim (cases_Bool (mark_at marks p)) [
        | inl marked ↦
            let fails = reached_out states votes q p out below apart in
            absurd (false≢true (sym fails ∙ winners.reached p marked))
        | inr unmarked ↦ unmarked
      ]

  pub winners-renamed :
      (states : List State) (free : ℕ) (votes lots : List ℕ) (q : ℕ) (marks : List Bool)
      → AreNumbers by.old lots → length states ≡ by.old → AreOut by Withdrawn states
      → AreWinners states free votes lots q marks
      → AreWinners (moved by Withdrawn states) free (moved by 0 votes) (lots_moved by lots) q
      (moved by false marks)
  winners-renamed states free votes lots q marks numbers long out winners =
      let new_long : length (moved by Withdrawn states) ≡ by.new = moved-length by Withdrawn states in
      let marks_long : length marks ≡ by.old = winners.same_length ∙ long in
      let inside : (p : ℕ) → mark_at (moved by false marks) p ≡ true → p < by.new =
      λ p marked. (let below = marked-below (moved by false marks) p marked in
      let as_long = moved-length by false marks in omega arith) in
      let reached_inside :
      (p : ℕ) → has_reached (moved by Withdrawn states) (moved by 0 votes) q p ≡ true → p < by.new =
      λ p is_so. (let below = reached_place (moved by Withdrawn states) (moved by 0 votes) q p is_so in
      omega arith) in
      record {
        same_length = moved-length by false marks ∙ sym new_long;
        reached = λ p marked.
            let below = inside p marked in
            reached-renamed states votes q p below
            ∙ winners.reached (place_by by.from p) (sym (moved-at by false marks p below) ∙ marked);
        as_many =
            marked-moved by marks (marks_out states free votes lots q marks out winners) marks_long
            ∙ (winners.as_many
            ∙ ap (min free) (ap (λ (k : ℕ). count_places k (has_reached states votes q)) long
            ∙ (sym (count-moved by (has_reached states votes q)
            (has_reached (moved by Withdrawn states) (moved by 0 votes) q)
            (λ p below apart. reached_out states votes q p out below apart)
            (λ p below. reached-renamed states votes q p below))
            ∙ ap (λ (k : ℕ). count_places k (has_reached (moved by Withdrawn states) (moved by 0 votes) q))
            (sym new_long))));
        first = λ a b marked is_so unmarked.
            let a_below = inside a marked in
            let b_below = reached_inside b is_so in
            before-renamed votes lots a b numbers a_below b_below
            ∙ winners.first (place_by by.from a) (place_by by.from b)
            (sym (moved-at by false marks a a_below) ∙ marked)
            (sym (reached-renamed states votes q b b_below) ∙ is_so)
            (sym (moved-at by false marks b b_below) ∙ unmarked);
      }

  pub surplus-renamed :
      (states : List State) (marks : List Bool) (votes : List ℕ) (q : ℕ) → length states ≡ by.old
      → AreOut by Withdrawn states → AreOut by false marks
      → surplus (moved by Withdrawn states) (moved by false marks) (moved by 0 votes) q
      ≡ surplus states marks votes q
  surplus-renamed states marks votes q long out unmarked =
      let holds : ℕ → Bool = holds_seat states marks in
      let holds_new : ℕ → Bool = holds_seat (moved by Withdrawn states) (moved by false marks) in
      let share : ℕ → ℕ = λ p. cond (holds p) (get_or votes p 0) 0 in
      let share_new : ℕ → ℕ = λ p. cond (holds_new p) (get_or (moved by 0 votes) p 0) 0 in
      let new_long : length (moved by Withdrawn states) ≡ by.new = moved-length by Withdrawn states in
      let at : (p : ℕ) → p < by.new → holds_new p ≡ holds (place_by by.from p) =
      λ p below. λ i. is_elected (moved-at by Withdrawn states p below i)
      || moved-at by false marks p below i in
      let none : (p : ℕ) → p < by.old → by.runs (p + 1) ≡ false → holds p ≡ false =
      λ p below apart. λ i. is_elected (out p below apart i) || unmarked p below apart i in
      let sums : sum (each_place by.new share_new) ≡ sum (each_place by.old share) =
      sum-total by.new share_new
      ∙ (total-same by.new share_new (λ p. share (place_by by.from p))
      (λ p below. λ i. cond (at p below i) (moved-at by 0 votes p below i) 0)
      ∙ (total-moved by share
      (λ p below apart. ap (λ (b : Bool). cond b (get_or votes p 0) 0) (none p below apart))
      ∙ sym (sum-total by.old share))) in
      let counts : count_places by.new holds_new ≡ count_places by.old holds =
      count-moved by holds holds_new none at in
      let both :
      sum (each_place by.new share_new) - count_places by.new holds_new * q
      ≡ sum (each_place by.old share) - count_places by.old holds * q =
      λ i. sums i - counts i * q in
      ap (λ (k : ℕ). sum (each_place k share_new) - count_places k holds_new * q) new_long
      ∙ (both ∙ ap (λ (k : ℕ). sum (each_place k share) - count_places k holds * q) (sym long))
