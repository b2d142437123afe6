-- What the seats at the shards have seen, by the shards' numbers.
use Rattle.std.proofs.Common.{◌≡◌, ◌≢◌, ℕ, zero, suc, ◌+◌, true, false, cond, ◌==◌, List, [], ◌∷◌, ◌++◌}
use Rattle.std.proofs.Common.{length, set, map, get_or, refl, sym, ap, ◌∙◌, subst, ⊎_elim, arith, append-nil}
use Rattle.std.proofs.Common.{eq-eqb}
use Rattle.std.specs.Prelude.{slice_get, Some}
use Rattle.std.proofs.lemmas.Bool.Decides.{eqb_tells}
use Rattle.batch_core.specs.declared.entry.Entry.{Entry}
use Rattle.call_register.specs.Weaving.{Lists}
use Rattle.call_register.specs.Walk.{followed, with_one}
use Rattle.shard_office.specs.Sight.{by_shard}
use Rattle.shard_office.specs.Passes.{ShardSeat, lists_of}
use Rattle.shard_office.proofs.Places.{get_map}

module _ {A : Type 0} where
  pub read_at : (l : List A) (i : ℕ) (x d : A) → slice_get l i ≡ Some x → get_or l i d ≡ x
  read_at [] i x d e = absurd (cc)
  read_at (y ∷ ys) zero x d e = cc
  read_at (y ∷ ys) (suc i) x d e = read_at ys i x d e

  pub set_at : (l : List A) (i : ℕ) (x y d : A) → slice_get l i ≡ Some x → get_or (set l i y) i d ≡ y
  set_at [] i x y d e = absurd (cc)
  set_at (z ∷ zs) zero x y d e = refl
  set_at (z ∷ zs) (suc i) x y d e = set_at zs i x y d e

  pub set_beside : (l : List A) (i j : ℕ) (y d : A) → j ≢ i → get_or (set l i y) j d ≡ get_or l j d
  set_beside [] i j y d ne = refl
  set_beside (z ∷ zs) zero zero y d ne = absurd (ne refl)
  set_beside (z ∷ zs) zero (suc j) y d ne = refl
  set_beside (z ∷ zs) (suc i) zero y d ne = refl
  set_beside (z ∷ zs) (suc i) (suc j) y d ne = set_beside zs i j y d (λ e. ne (ap suc e))

  pub get_set_here : (l : List A) (i : ℕ) (x y : A) → slice_get l i ≡ Some x → slice_get (set l i y) i ≡ Some y
  get_set_here [] i x y e = absurd (cc)
  get_set_here (z ∷ zs) zero x y e = refl
  get_set_here (z ∷ zs) (suc i) x y e = get_set_here zs i x y e

  pub length_set : (l : List A) (i : ℕ) (y : A) → length (set l i y) ≡ length l
  length_set [] i y = refl
  length_set (z ∷ zs) zero y = refl
  length_set (z ∷ zs) (suc i) y = ap suc (length_set zs i y)

  pub map_set : {B : Type 0} (f : A → B) (l : List A) (i : ℕ) (y : A) → map f (set l i y) ≡ set (map f l) i (f y)
  map_set f [] i y = refl
  map_set f (z ∷ zs) zero y = refl
  map_set f (z ∷ zs) (suc i) y = ap (λ t. f z ∷ t) (map_set f zs i y)

-- the list that is read of the seat at index i
pub list_at :
    (f : ShardSeat → List Entry) (seats : List ShardSeat) (i : ℕ) (x : ShardSeat) → slice_get seats i ≡ Some x
    → by_shard (map f seats) (i + 1) ≡ f x
list_at f seats i x at =
    ap (by_shard (map f seats)) (let e : i + 1 ≡ suc i = omega arith in e)
    ∙ read_at (map f seats) i (f x) [] (get_map f seats i x at)

pub list_set :
    (f : ShardSeat → List Entry) (seats : List ShardSeat) (i : ℕ) (x y : ShardSeat)
    → slice_get seats i ≡ Some x → by_shard (map f (set seats i y)) (i + 1) ≡ f y
list_set f seats i x y at = list_at f (set seats i y) i y (get_set_here seats i x y at)

pub list_beside :
    (f : ShardSeat → List Entry) (seats : List ShardSeat) (i : ℕ) (y : ShardSeat) (t : ℕ) → t ≢ i + 1
    → by_shard (map f (set seats i y)) t ≡ by_shard (map f seats) t
list_beside f seats i y zero ne = refl
list_beside f seats i y (suc j) ne =
    ap (λ l. get_or l j []) (map_set f seats i y)
    ∙ set_beside (map f seats) i j (f y) [] (λ e. ne (omega arith))

-- the entries that it has seen
pub seen_at :
    (seats : List ShardSeat) (i : ℕ) (x : ShardSeat) → slice_get seats i ≡ Some x
    → by_shard (lists_of seats) (i + 1) ≡ x.seen
seen_at = list_at (λ s. s.seen)

pub seen_set :
    (seats : List ShardSeat) (i : ℕ) (x y : ShardSeat) → slice_get seats i ≡ Some x
    → by_shard (lists_of (set seats i y)) (i + 1) ≡ y.seen
seen_set = list_set (λ s. s.seen)

pub seen_beside :
    (seats : List ShardSeat) (i : ℕ) (y : ShardSeat) (t : ℕ) → t ≢ i + 1
    → by_shard (lists_of (set seats i y)) t ≡ by_shard (lists_of seats) t
seen_beside = list_beside (λ s. s.seen)

-- entries of shard s alone
abbrev pub only : ℕ → List Entry → Lists
only s es t = cond (t == s) es []

pub only_here : (s : ℕ) (es : List Entry) → only s es s ≡ es
only_here s es = ap (λ b. cond b es []) (eq-eqb s s refl)

-- the seat at index i has seen more, and nobody else
pub seen_more :
    (seats : List ShardSeat) (i : ℕ) (x y : ShardSeat) (between : List Entry) → slice_get seats i ≡ Some x
    → y.seen ≡ x.seen ++ between
    → by_shard (lists_of (set seats i y)) ≡ followed (by_shard (lists_of seats)) (only (i + 1) between)
seen_more seats i x y between at grew j t = (⊎_elim
    (λ (h : ((t == (i + 1)) ≡ true) × (t ≡ i + 1)).
    subst (λ u. by_shard (lists_of (set seats i y)) u ≡ by_shard (lists_of seats) u ++ only (i + 1) between u) (sym h.1)
    (seen_set seats i x y at ∙ (grew ∙ (λ k. sym (seen_at seats i x at) k ++ sym (only_here (i + 1) between) k))))
    (λ (h : ((t == (i + 1)) ≡ false) × (t ≢ i + 1)).
    seen_beside seats i y t h.1
    ∙ (sym (append-nil (by_shard (lists_of seats) t))
    ∙ ap (λ b. by_shard (lists_of seats) t ++ cond b between []) (sym h.0)))
    (eqb_tells t (i + 1))) j

-- and one entry after it
pub seen_one :
    (seats : List ShardSeat) (i : ℕ) (x y : ShardSeat) (between : List Entry) (e : Entry)
    → slice_get seats i ≡ Some x → y.seen ≡ (x.seen ++ between) ++ e ∷ []
    → by_shard (lists_of (set seats i y)) ≡ with_one (followed (by_shard (lists_of seats)) (only (i + 1) between)) (i + 1) e
seen_one seats i x y between e at grew j t = (⊎_elim
    (λ (h : ((t == (i + 1)) ≡ true) × (t ≡ i + 1)).
    subst (λ u. by_shard (lists_of (set seats i y)) u
    ≡ (by_shard (lists_of seats) u ++ only (i + 1) between u) ++ only (i + 1) (e ∷ []) u) (sym h.1)
    (seen_set seats i x y at
    ∙ (grew
    ∙ (λ k. (sym (seen_at seats i x at) k ++ sym (only_here (i + 1) between) k)
    ++ sym (only_here (i + 1) (e ∷ [])) k))))
    (λ (h : ((t == (i + 1)) ≡ false) × (t ≢ i + 1)).
    seen_beside seats i y t h.1
    ∙ (sym (append-nil (by_shard (lists_of seats) t)) ∙ (sym (append-nil (by_shard (lists_of seats) t ++ []))
    ∙ (λ k. (by_shard (lists_of seats) t ++ cond (sym h.0 k) between []) ++ cond (sym h.0 k) (e ∷ []) []))))
    (eqb_tells t (i + 1))) j
