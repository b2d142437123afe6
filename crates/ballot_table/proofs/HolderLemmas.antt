-- Who has a rank in a ranking.
use Rattle.std.proofs.Common.{◌≡◌, ◌≢◌, ℕ, zero, suc, ◌+◌, ◌<◌, ◌≤◌, ◌==◌, Bool, true, false, cond, not}
use Rattle.std.proofs.Common.{nat_lt, List, [], ◌∷◌, ◌++◌, length}
use Rattle.std.proofs.Common.{Option, Some, None, AllPairs, get_or, filter, refl, ap, sym, ◌∙◌, arith, ◌⊎◌, inl, inr}
use Rattle.std.specs.List.{position_or_len, range_with_len}
use Rattle.std.specs.Option.{option_map, option_map_or}
use Rattle.std.proofs.Math.Seq.{get_or-append_seam}
use Rattle.std.proofs.lemmas.Bool.{eq-eqb, eqb-true, lt-ltb}
use Rattle.std.proofs.lemmas.Bool.Decides.{leb_tells}
use Rattle.std.proofs.lemmas.List.{get_or_append_left, length-append}
use Rattle.ballot_table.specs.Layouts.{rank_of}

-- two numbers are the same or not
alike : (a b : ℕ) (is : Bool) → (a == b) ≡ is → ((a == b) ≡ true) × (a ≡ b) ⊎ ((a == b) ≡ false) × (a ≢ b)
alike a b true is = inl (is, eqb-true a b is)
alike a b false is = inr (is, λ same. absurd (cc (sym (eq-eqb a b same) ∙ is)))

-- ---- the place of a candidate

-- after a front without it a candidate is at the front's length
first_at : (front back : List ℕ) (c : ℕ) → ((i : ℕ) → i < length front → get_or front i 0 ≢ c)
    → position_or_len (λ d. d == c) (front ++ c ∷ back) ≡ length front
first_at [] back c none =
    ap (λ (b : Bool). cond (not b) (1 + position_or_len (λ d. d == c) back) 0) (eq-eqb c c refl)
first_at (d ∷ front) back c none =
    let later = position_or_len (λ e. e == c) (front ++ c ∷ back) in
    elim (alike d c (d == c) refl) [
      | inl same ↦ absurd (none 0 (omega arith) same.1)
      | inr other ↦
          let next : cond (not (d == c)) (1 + later) 0 ≡ 1 + later =
          ap (λ (b : Bool). cond (not b) (1 + later) 0) other.0 in
          omega (arith, next, first_at front back c (λ i below. none (suc i) (omega (arith, below))))
    ]

-- another one doesn't
not_at : (front back : List ℕ) (c other : ℕ) → c ≢ other
    → position_or_len (λ d. d == other) (front ++ c ∷ back) ≢ length front
not_at [] back c other unlike at =
    let later = position_or_len (λ d. d == other) back in
    elim (alike c other (c == other) refl) [
      | inl same ↦ absurd (unlike same.1)
      | inr differs ↦
          let next : cond (not (c == other)) (1 + later) 0 ≡ 1 + later =
          ap (λ (b : Bool). cond (not b) (1 + later) 0) differs.0 in
          omega (arith, next, at)
    ]
not_at (d ∷ front) back c other unlike at =
    let later = position_or_len (λ e. e == other) (front ++ c ∷ back) in
    elim (alike d other (d == other) refl) [
      | inl same ↦
          let here : cond (not (d == other)) (1 + later) 0 ≡ 0 = ap (λ (b : Bool). cond (not b) (1 + later) 0) same.0 in
          omega (arith, here, at)
      | inr differs ↦
          let next : cond (not (d == other)) (1 + later) 0 ≡ 1 + later =
          ap (λ (b : Bool). cond (not b) (1 + later) 0) differs.0 in
          not_at front back c other unlike (omega (arith, next, at))
    ]

-- a rank is at most as many as there are
pub rank_within : (ranks : List ℕ) (c rank : ℕ) → rank_of ranks c ≡ Some rank → (1 ≤ rank) × (rank ≤ length ranks)
rank_within ranks c rank is =
    let at = position_or_len (λ d. d == c) ranks in
    elim (leb_tells (suc at) (length ranks)) [
      | inl inside ↦
          let found : Some (at + 1) ≡ Some rank =
          sym (ap (λ (b : Bool). option_map (λ (i : ℕ). i + 1) (cond b (Some at) None)) inside.0) ∙ is in
          let same : at + 1 ≡ rank = cc found in
          (omega (arith, same), omega (arith, same, inside.1))
      | inr outside ↦
          absurd (cc (sym (ap (λ (b : Bool). option_map (λ (i : ℕ). i + 1) (cond b (Some at) None)) outside.0) ∙ is))
    ]

-- ---- who holds a rank

-- a candidate has this rank
abbrev pub has_rank : (ranks : List ℕ) (rank c : ℕ) → Bool
has_rank ranks rank c = option_map_or (λ r. r == rank) (rank_of ranks c) false

-- the one at a place has its rank, and nobody else
pub only_holder : (front back : List ℕ) (c other : ℕ) → AllPairs (λ a b. a ≢ b) (front ++ c ∷ back)
    → has_rank (front ++ c ∷ back) (length front + 1) other ≡ (other == c)
only_holder front back c other different =
    let ranks = front ++ c ∷ back in
    let rank = length front + 1 in
    let at = position_or_len (λ d. d == other) ranks in
    let long : length ranks ≡ length front + suc (length back) = length-append front (c ∷ back) in
    let with_test =
    λ (b : Bool). option_map_or (λ (r : ℕ). r == rank)
    (option_map (λ (i : ℕ). i + 1) (cond b (Some at) None)) false in
    elim (alike other c (other == c) refl) [
      | inl same ↦
          let new = λ (i : ℕ) (below : i < length front) (stood : get_or front i 0 ≡ c).
          different i (length front) 0 below (omega (arith, long))
          (get_or_append_left front (c ∷ back) 0 i below ∙ stood ∙ sym (get_or-append_seam front c back 0)) in
          let here : at ≡ length front =
          ap (λ (e : ℕ). position_or_len (λ d. d == e) ranks) same.1 ∙ first_at front back c new in
          let inside : nat_lt at (length ranks) ≡ true = lt-ltb at (length ranks) (omega (arith, here, long)) in
          ap with_test inside ∙ eq-eqb (at + 1) rank (omega (arith, here)) ∙ sym same.0
      | inr unlike ↦
          let away : at ≢ length front = not_at front back c other (λ e. unlike.1 (sym e)) in
          by_test front at rank (nat_lt at (length ranks)) away ∙ sym unlike.0
    ]
  where
    by_test : (front : List ℕ) (at rank : ℕ) (b : Bool) → at ≢ length front
        → option_map_or (λ (r : ℕ). r == (length front + 1))
        (option_map (λ (i : ℕ). i + 1) (cond b (Some at) None)) false ≡ false
    by_test front at rank false away = refl
    by_test front at rank true away =
        elim (alike (at + 1) (length front + 1) (at + 1 == length front + 1) refl) [
          | inl same ↦ absurd (away (omega (arith, same.1)))
          | inr differs ↦ differs.0
        ]

-- nobody has a rank after the last
pub nobody : (ranks : List ℕ) (rank c : ℕ) → length ranks < rank → has_rank ranks rank c ≡ false
nobody ranks rank c behind = by_rank (rank_of ranks c) refl
  where
    by_rank : (o : Option ℕ) → rank_of ranks c ≡ o → option_map_or (λ (r : ℕ). r == rank) o false ≡ false
    by_rank None is = refl
    by_rank (Some r) is =
        elim (alike r rank (r == rank) refl) [
          | inl same ↦ absurd (omega (arith, same.1, behind, (rank_within ranks c r is).1))
          | inr differs ↦ differs.0
        ]

pub filter_none : (p : ℕ → Bool) → ((c : ℕ) → p c ≡ false) → (from m : ℕ) → filter p (range_with_len from m) ≡ []
filter_none p none from zero = refl
filter_none p none from (suc m) =
    ap (λ (b : Bool). cond b (from ∷ filter p (range_with_len (from + 1) m))
    (filter p (range_with_len (from + 1) m))) (none from)
    ∙ filter_none p none (from + 1) m

-- after somebody it is found no more
filter_past :
    (p : ℕ → Bool) (c : ℕ) → ((e : ℕ) → p e ≡ (e == c)) → (from m : ℕ) → c < from
    → filter p (range_with_len from m) ≡ []
filter_past p c only from zero past = refl
filter_past p c only from (suc m) past =
    let rest = filter p (range_with_len (from + 1) m) in
    elim (alike from c (from == c) refl) [
      | inl same ↦ absurd (omega (arith, same.1, past))
      | inr differs ↦
          ap (λ (b : Bool). cond b (from ∷ rest) rest) (only from ∙ differs.0)
          ∙ filter_past p c only (from + 1) m (omega (arith, past))
    ]

pub filter_one : (p : ℕ → Bool) (c : ℕ) → ((e : ℕ) → p e ≡ (e == c)) → (from m : ℕ) → from ≤ c → c < from + m
    → filter p (range_with_len from m) ≡ c ∷ []
filter_one p c only from zero least most = absurd (omega (arith, least, most))
filter_one p c only from (suc m) least most =
    let rest = filter p (range_with_len (from + 1) m) in
    elim (alike from c (from == c) refl) [
      | inl same ↦
          ap (λ (b : Bool). cond b (from ∷ rest) rest) (only from ∙ same.0)
          ∙ ap (λ (l : List ℕ). from ∷ l) (filter_past p c only (from + 1) m (omega (arith, same.1)))
          ∙ ap (λ (e : ℕ). e ∷ []) same.1
      | inr differs ↦
          ap (λ (b : Bool). cond b (from ∷ rest) rest) (only from ∙ differs.0)
          ∙ filter_one p c only (from + 1) m (below from c least differs.1) (omega (arith, most))
    ]
  where
    below : (from c : ℕ) → from ≤ c → from ≢ c → from + 1 ≤ c
    below from c least unlike =
        elim (leb_tells (suc from) c) [
          | inl above ↦ omega (arith, above.1)
          | inr same ↦ absurd (unlike (omega (arith, same.1, least)))
        ]
