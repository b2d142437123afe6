-- Winners by a test that computes.
use Rattle.std.proofs.Common.{◌≡◌, ℕ, Bool, true, List, ◌&&◌, length, arith, ap, ◌∙◌, ◌==◌, ◌||◌, not, min}
use Rattle.std.specs.List.{range_with_len, list_all}
use Rattle.std.proofs.lemmas.Bool.{eqb-true}
use Rattle.meek_rule.specs.Places.{marked_count, count_places}
use Rattle.candidate_roll.specs.declared.state.State.{State}
use Rattle.lot_order.specs.Flags.{mark_at}
use Rattle.meek_rule.specs.Winners.{AreWinners, comes_before}
use Rattle.meek_rule.specs.Quota.{has_reached}
use Rattle.meek_rule.proofs.PlaceLemmas.{all_places}
use Rattle.meek_rule.proofs.TestLemmas.{and_first, and_second, implied}
use Rattle.meek_rule.proofs.WinnersByCount.{marked_place, reached_place}

-- the test of winners
abbrev pub pass_as_winners : List State → (free : ℕ) → (votes lots : List ℕ) → (q : ℕ) → List Bool → Bool
pass_as_winners states free votes lots q marks =
    (length marks == length states)
    && (list_all (λ p. not (mark_at marks p) || has_reached states votes q p) (range_with_len 0 (length states))
    && ((marked_count marks == min free (count_places (length states) (has_reached states votes q)))
    && list_all
    (λ a. list_all (λ b. not (mark_at marks a && (has_reached states votes q b && not (mark_at marks b)))
    || comes_before votes lots a b)
    (range_with_len 0 (length states)))
    (range_with_len 0 (length states))))

-- who passes the test are the winners
pub winners_by_test :
    (states : List State) (free : ℕ) (votes lots : List ℕ) (q : ℕ) (marks : List Bool)
    → pass_as_winners states free votes lots q marks ≡ true → AreWinners states free votes lots q marks
winners_by_test states free votes lots q marks pass =
    let n = length states in
    let same : length marks ≡ n = eqb-true _ _ (and_first _ _ pass) in
    let pass1 = and_second _ _ pass in
    let pass2 = and_second _ _ pass1 in
    record {
      same_length = same;
      reached = λ p marked.
          implied (mark_at marks p) (has_reached states votes q p)
          (all_places (λ p. not (mark_at marks p) || has_reached states votes q p) n p (and_first _ _ pass1)
          (let below = marked_place marks p marked in omega arith)) marked;
      as_many = eqb-true _ _ (and_first _ _ pass2);
      first = λ a b marked reached unmarked.
          let row :
          list_all (λ b. not
          (mark_at marks a && (has_reached states votes q b && not (mark_at marks b)))
          || comes_before votes lots a b) (range_with_len 0 n) ≡ true =
          all_places (λ a. list_all (λ b. not
          (mark_at marks a && (has_reached states votes q b && not (mark_at marks b)))
          || comes_before votes lots a b) (range_with_len 0 n)) n a (and_second _ _ pass2)
          (let below = marked_place marks a marked in omega arith) in
          implied _ (comes_before votes lots a b)
          (all_places (λ b. not (mark_at marks a && (has_reached states votes q b && not (mark_at marks b)))
          || comes_before votes lots a b) n b row (reached_place states votes q b reached))
          (ap (λ t. t && (has_reached states votes q b && not (mark_at marks b))) marked
          ∙ (ap (λ t. t && not (mark_at marks b)) reached ∙ ap not unmarked));
    }
