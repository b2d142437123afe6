-- Lists of turns that are taken and given back one by one.
use Rattle.std.proofs.Common.{◌≡◌, ◌≢◌, ◌⊎◌, ℕ, zero, suc, ◌+◌, ◌<◌, ◌≤◌, true, List, [], ◌∷◌, ◌++◌, length}
use Rattle.std.proofs.Common.{set, refl, sym, ap, ◌∙◌, subst, inl, inr, ⊎_elim, arith}
use Rattle.std.specs.Prelude.{slice_get, Some}
use Rattle.std.proofs.lemmas.Bool.{cases_lt}
use Rattle.shard_office.specs.declared.window.Window.{Window}
use Rattle.turn_lock.specs.Entries.{Begins}
use Rattle.turn_lock.specs.Sights.{KnowsOwn}
use Rattle.batch_core.specs.declared.entry.Entry.{Entry}
use Rattle.call_register.specs.declared.mark.Mark.{Mark}
use Rattle.shard_office.specs.Owners.{owner_of_entry}
use Rattle.shard_office.specs.Values.{SeenShard}
use Rattle.shard_office.specs.Passes.{ShardSeat}
use Rattle.shard_office.specs.Turned.{AreOf, Took, GaveBack, IsHeld, AreHeld, TookTurns, GaveTurns, IsAgreed}
use Rattle.shard_office.specs.Turned.{AreAgreed}
use Rattle.shard_office.proofs.Places.{get_set, get_lt}

module _ {A : Type 0} where
  pub get_beside : (l : List A) (i j : ℕ) (y : A) → j ≢ i → slice_get (set l i y) j ≡ slice_get l j
  get_beside [] i j y ne = refl
  get_beside (z ∷ zs) zero zero y ne = absurd (ne refl)
  get_beside (z ∷ zs) zero (suc j) y ne = refl
  get_beside (z ∷ zs) (suc i) zero y ne = refl
  get_beside (z ∷ zs) (suc i) (suc j) y ne = get_beside zs i j y (λ e. ne (ap suc e))

  pub get_push :
      (l : List A) (x : A) (i : ℕ) (v : A) → slice_get (l ++ x ∷ []) i ≡ Some v
      → ((i ≡ length l) × (x ≡ v)) ⊎ ((i < length l) × (slice_get l i ≡ Some v))
  get_push [] x zero v e = inl (refl, cc)
  get_push [] x (suc i) v e = absurd (cc)
  get_push (z ∷ zs) x zero v e = inr (omega arith, e)
  get_push (z ∷ zs) x (suc i) v e =
      ⊎_elim (λ t. inl (ap suc t.0, t.1))
      (λ (t : (i < length zs) × (slice_get zs i ≡ Some v)). let lt = t.0 in inr (omega arith, t.1))
      (get_push zs x i v e)

  pub same_place : (l : List A) (i j : ℕ) (x y : A) → i ≡ j → slice_get l i ≡ Some x → slice_get l j ≡ Some y → x ≡ y
  same_place l i j x y is e f = let h : slice_get l i ≡ Some y = ap (slice_get l) is ∙ f in cc

  pub get_front : (l : List A) (x : A) (i : ℕ) (v : A) → slice_get l i ≡ Some v → slice_get (l ++ x ∷ []) i ≡ Some v
  get_front [] x i v e = absurd (cc)
  get_front (z ∷ zs) x zero v e = e
  get_front (z ∷ zs) x (suc i) v e = get_front zs x i v e

  pub get_last : (l : List A) (x : A) → slice_get (l ++ x ∷ []) (length l) ≡ Some x
  get_last [] x = refl
  get_last (z ∷ zs) x = get_last zs x

pub of_set :
    (windows : List Window) (seats : List ShardSeat) (i : ℕ) (x y : ShardSeat) → AreOf windows seats
    → slice_get seats i ≡ Some x → y.lock ≡ x.lock → AreOf windows (set seats i y)
of_set windows seats i x y own at same j w s ew es = ⊎_elim
    (λ (t : (j ≡ i) × (y ≡ s)).
    sym (ap (λ z. z.lock) t.1) ∙ (same ∙ own i w x (ap (slice_get windows) (sym t.0) ∙ ew) at))
    (λ (t : (j ≢ i) × (slice_get seats j ≡ Some s)). own j w s ew t.1)
    (get_set seats i j y s es)

pub took :
    (x y : ShardSeat) (list : List Entry) → y ≡ record x { holds = true; seen = list } → Begins x.seen list
    → KnowsOwn owner_of_entry y → Took x y
took x y list is begins knows = record {
  same = is ∙ (λ k. record x { holds = true; seen = sym (ap (λ z. z.seen) is) k });
  begins = (begins.0, ap (λ z. z.seen) is ∙ begins.1);
  knows = knows;
}

pub held_more :
    (held : List SeenShard) (seats : List ShardSeat) (n : ℕ) (x y : ShardSeat) (v : SeenShard)
    → AreHeld held seats → length held ≡ n → slice_get seats n ≡ Some x → IsHeld v y
    → AreHeld (held ++ v ∷ []) (set seats n y)
held_more held seats n x y v are len at is i w s ev es = ⊎_elim
    (λ (t : (i ≡ length held) × (v ≡ w)). ⊎_elim
    (λ (u : (i ≡ n) × (y ≡ s)). subst (λ (z : SeenShard). IsHeld z s) t.1 (subst (IsHeld v) u.1 is))
    (λ (u : (i ≢ n) × (slice_get seats i ≡ Some s)). absurd (u.0 (t.0 ∙ len)))
    (get_set seats n i y s es))
    (λ (t : (i < length held) × (slice_get held i ≡ Some w)). ⊎_elim
    (λ (u : (i ≡ n) × (y ≡ s)). absurd (let a = t.0 in let b = u.0 in omega arith))
    (λ (u : (i ≢ n) × (slice_get seats i ≡ Some s)). are i w s t.1 u.1)
    (get_set seats n i y s es))
    (get_push held v i w ev)

pub taken_more : (n : ℕ) (olds news after : List ShardSeat) → TookTurns n olds news → length after ≡ length news
    → ((x y : ShardSeat) → slice_get news n ≡ Some x → slice_get after n ≡ Some y → Took x y)
    → ((i : ℕ) → i ≢ n → slice_get after i ≡ slice_get news i) → TookTurns (n + 1) olds after
taken_more n olds news after have len here beside = record {
  len = len ∙ have.len;
  taken = λ i x y lt ex ey. ⊎_elim
      (λ (below : i < n). have.taken i x y below ex (sym (beside i (λ e. omega arith)) ∙ ey))
      (λ (le : n ≤ i).
      let is : i ≡ n = omega arith in
      here x y (have.others n (omega arith) ∙ (ap (slice_get olds) (sym is) ∙ ex)) (ap (slice_get after) (sym is) ∙ ey))
      (cases_lt i n);
  others = λ i le. beside i (λ e. omega arith) ∙ have.others i (omega arith);
}

pub given_more : (n : ℕ) (olds news after : List ShardSeat) → GaveTurns (n + 1) olds news → length after ≡ length news
    → ((x y : ShardSeat) → slice_get news n ≡ Some x → slice_get after n ≡ Some y → GaveBack x y)
    → ((i : ℕ) → i ≢ n → slice_get after i ≡ slice_get news i) → GaveTurns n olds after
given_more n olds news after have len here beside = record {
  len = len ∙ have.len;
  given = λ i x y le ex ey. ⊎_elim
      (λ (lt : n < i). have.given i x y (omega arith) ex (sym (beside i (λ e. omega arith)) ∙ ey))
      (λ (ge : i ≤ n).
      let is : i ≡ n = omega arith in
      here x y (have.others n (omega arith) ∙ (ap (slice_get olds) (sym is) ∙ ex)) (ap (slice_get after) (sym is) ∙ ey))
      (cases_lt n i);
  others = λ i lt. beside i (λ e. omega arith) ∙ have.others i (omega arith);
}

-- the values that are still held
pub held_fewer :
    (held : List SeenShard) (v : SeenShard) (news after : List ShardSeat) → AreHeld (held ++ v ∷ []) news
    → ((i : ℕ) → i ≢ length held → slice_get after i ≡ slice_get news i) → AreHeld held after
held_fewer held v news after are beside i w s ew es =
    let lt = get_lt held i w ew in
    are i w s (get_front held v i w ew) (sym (beside i (λ e. omega arith)) ∙ es)

pub held_last :
    (held : List SeenShard) (v : SeenShard) (seats : List ShardSeat) (n : ℕ) (s : ShardSeat)
    → AreHeld (held ++ v ∷ []) seats → n ≡ length held → slice_get seats n ≡ Some s → IsHeld v s
held_last held v seats n s are is e = are (length held) v s (get_last held v) (ap (slice_get seats) (sym is) ∙ e)

pub agreed_more :
    (n : ℕ) (marks : List Mark) (held : List SeenShard) → AreAgreed n marks held
    → ((v : SeenShard) → slice_get held n ≡ Some v → IsAgreed marks n v) → AreAgreed (n + 1) marks held
agreed_more n marks held are here i v lt e = ⊎_elim
    (λ (below : i < n). are i v below e)
    (λ (le : n ≤ i). let is : n ≡ i =
    omega arith in
    subst (λ k. IsAgreed marks k v) is (here v (ap (slice_get held) is ∙ e)))
    (cases_lt i n)
