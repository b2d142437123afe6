-- Those before whom few come are the winners.
use Rattle.std.proofs.Common.{◌≡◌, ℕ, ◌<◌, ◌≤◌, Bool, true, false, List, ◌&&◌, length, arith, ap, sym, ◌∙◌}
use Rattle.std.proofs.Common.{inl, inr, nat_lt, subst}
use Rattle.std.proofs.lemmas.List.FromFn.{get_or-map-range_with_len, length-map-range_with_len}
use Rattle.std.proofs.lemmas.Bool.{cases_lt, and_parts}
use Rattle.std.proofs.lemmas.List.{get_or_past}
use Rattle.meek_rule.specs.Places.{each_place, count_places}
use Rattle.std.proofs.Math.Nat.{le_antisymm}
use Rattle.candidate_roll.specs.declared.state.State.{State}
use Rattle.lot_order.specs.Lots.{IsOrder}
use Rattle.lot_order.specs.Flags.{mark_at}
use Rattle.meek_rule.specs.Precedence.{has_won}
use Rattle.meek_rule.specs.Winners.{AreWinners, comes_before}
use Rattle.meek_rule.specs.Quota.{has_reached}
use Rattle.candidate_roll.specs.State.{state_at}
use Rattle.candidate_roll.specs.declared.state.State.TheVariants.{Withdrawn}
use Rattle.meek_rule.specs.Situation.{is_hopeful}
use Rattle.meek_rule.proofs.TestLemmas.{and_first}
use Rattle.meek_rule.proofs.Counting.{count, count_places-count, count-le}
use Rattle.meek_rule.proofs.StrictOrder.{IsStrictOrder, leads, leads-le, leads-ge, leads_first}
use Rattle.meek_rule.proofs.WinnersOrder.{winners_order}

-- who is marked has a place
pub marked_place : (marks : List Bool) (p : ℕ) → mark_at marks p ≡ true → p < length marks
marked_place marks p marked =
    elim (cases_lt p (length marks)) [
      | inl below ↦ below
      | inr past ↦ absurd (let none = get_or_past marks p false past in cc)
    ]

-- who has reached the quota has a place
pub reached_place :
    (states : List State) (votes : List ℕ) (q p : ℕ) → has_reached states votes q p ≡ true → p < length states
reached_place states votes q p reached =
    elim (cases_lt p (length states)) [
      | inl below ↦ below
      | inr past ↦
          let hopeful : is_hopeful (state_at states p) ≡ true = and_first _ _ reached in
          let withdrawn : state_at states p ≡ Withdrawn = get_or_past states p Withdrawn past in
          absurd (let not_so = ap is_hopeful withdrawn in cc)
    ]

-- those before whom fewer come than there are seats left are the winners
pub winners_by_rank :
    (states : List State) (free : ℕ) (votes lots : List ℕ) (q : ℕ) → IsOrder lots
    → length lots ≡ length states
    → AreWinners states free votes lots q (each_place (length states) (has_won states free votes lots q))
winners_by_rank states free votes lots q order same =
    let n : ℕ = length states in
    let reached : ℕ → Bool = has_reached states votes q in
    let before : ℕ → ℕ → Bool = comes_before votes lots in
    let won : ℕ → Bool = has_won states free votes lots q in
    let lead : ℕ → Bool = leads n free reached before in
    let strict : IsStrictOrder n before = subst (λ (m : ℕ). IsStrictOrder m before) same (winners_order votes lots order) in
    let won-lead : (p : ℕ) → won p ≡ lead p =
    λ p. ap (λ (k : ℕ). reached p && nat_lt k free)
    (count_places-count n (λ b. reached b && before b p)) in
    let at : (p : ℕ) → p < n → mark_at (each_place n won) p ≡ won p =
    λ p below. get_or-map-range_with_len won 0 n p p false below (omega arith) in
    let whole : length (each_place n won) ≡ n = length-map-range_with_len won 0 n in
    let inside : (p : ℕ) → mark_at (each_place n won) p ≡ true → p < n =
    λ p marked. (let below = marked_place (each_place n won) p marked in omega arith) in
    let won_count : count_places n won ≡ count n lead =
    count_places-count n won
    ∙ le_antisymm (count-le n won lead (λ c below is. sym (won-lead c) ∙ is))
    (count-le n lead won (λ c below is. won-lead c ∙ is)) in
    record {
      same_length = whole;
      reached = λ p marked. (and_parts (reached p) _ (sym (at p (inside p marked)) ∙ marked)).0;
      as_many =
          let all : count_places n reached ≡ count n reached = count_places-count n reached in
          let few : count n lead ≤ free = leads-le n free reached before strict in
          let part : count n lead ≤ count n reached =
          count-le n lead reached (λ c below is. (and_parts (reached c) _ is).0) in
          elim (leads-ge n free reached before strict) [ inl full ↦ omega arith | inr everybody ↦ omega arith ];
      first = λ a b marked is unmarked.
          let a_below : a < n = inside a marked in
          let b_below : b < n = reached_place states votes q b is in
          leads_first n free reached before strict a b a_below b_below
          (sym (won-lead a) ∙ (sym (at a a_below) ∙ marked)) is
          (sym (won-lead b) ∙ (sym (at b b_below) ∙ unmarked));
    }

-- where there is room for all that have reached the quota they are the winners
pub winners_all :
    (states : List State) (free : ℕ) (votes lots : List ℕ) (q : ℕ)
    → count_places (length states) (has_reached states votes q) ≤ free
    → AreWinners states free votes lots q (each_place (length states) (has_reached states votes q))
winners_all states free votes lots q room =
    let n : ℕ = length states in
    let reached : ℕ → Bool = has_reached states votes q in
    let at : (p : ℕ) → p < n → mark_at (each_place n reached) p ≡ reached p =
    λ p below. get_or-map-range_with_len reached 0 n p p false below (omega arith) in
    record {
      same_length = length-map-range_with_len reached 0 n;
      reached = λ p marked.
          let below : p < length (each_place n reached) = marked_place (each_place n reached) p marked in
          let whole : length (each_place n reached) ≡ n = length-map-range_with_len reached 0 n in
          sym (at p (omega arith)) ∙ marked;
      as_many = let all : count_places n reached ≤ free = room in omega arith;
      first =
          λ a b marked is unmarked. absurd
          (let off = sym is ∙ (sym (at b (reached_place states votes q b is)) ∙ unmarked) in cc);
    }
