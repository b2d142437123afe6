-- Which list begins with the least ranking.
use Rattle.std.proofs.Common.{◌≡◌, ℕ, ◌+◌, ◌-◌, ◌<◌, true, false, List, [], ◌∷◌, ◌++◌, length, map, get_or}
use Rattle.std.proofs.Common.{take, drop, All, arith, refl, ap, sym, subst, ◌∙◌, inl, inr}
use Rattle.std.specs.declared.cmp.Ordering.{Ordering}
use Rattle.std.specs.declared.cmp.Ordering.TheVariants.{Less, Equal, Greater}
use Rattle.std.specs.Ordering.{is_lt, ordering_then}
use Rattle.std.proofs.lemmas.Bool.{false≢true}
use Rattle.std.proofs.lemmas.Bool.Decides.{eqb_tells}
use Rattle.std.proofs.lemmas.List.{get_or_read, get_or-append_right, get_or-drop, length-map, length-take-le}
use Rattle.std.proofs.lemmas.List.Elements.{All-weaker}
use Rattle.plain_ballots.specs.declared.ballot_line.BallotLine.{BallotLine}
use Rattle.blt_writer.specs.Merge.{IsFrom, IsHead, IsLeast, is_ahead}
use Rattle.blt_writer.proofs.LineOrder.{order, before_trans}
use Rattle.blt_writer.proofs.WalkOrder.{cmp_same}

order-same : (r : List ℕ) → order r r ≡ Equal
order-same [] = refl
order-same (x ∷ r) = ap (λ (o : Ordering). ordering_then o (order r r)) (cmp_same x) ∙ order-same r

not_ahead_self : (ls : List BallotLine) → is_ahead ls ls ≡ false
not_ahead_self [] = refl
not_ahead_self (l ∷ ls) = ap is_lt (order-same l.ranking)

less_of : (o : Ordering) → is_lt o ≡ true → o ≡ Less
less_of Less is = refl
less_of Equal is = cc
less_of Greater is = cc

behind_by : (o : Ordering) (x y z : List ℕ) → order x y ≡ o → order y z ≡ Less → is_lt (order x z) ≡ false → is_lt o ≡ false
behind_by Less x y z is before none = absurd (false≢true (sym none ∙ ap is_lt (before_trans x y z is before)))
behind_by Equal x y z is before none = refl
behind_by Greater x y z is before none = refl

-- what is not ahead of a list is not ahead of one that is ahead of that list
not_ahead_of : (a b c : List BallotLine) → is_ahead b c ≡ true → is_ahead a c ≡ false → is_ahead a b ≡ false
not_ahead_of [] b c ahead none = refl
not_ahead_of (x ∷ xs) [] c ahead none = absurd (false≢true ahead)
not_ahead_of (x ∷ xs) (y ∷ ys) [] ahead none = absurd (false≢true (sym none))
not_ahead_of (x ∷ xs) (y ∷ ys) (z ∷ zs) ahead none =
    behind_by (order x.ranking y.ranking) x.ranking y.ranking z.ranking refl (less_of (order y.ranking z.ranking) ahead) none

-- ---- a loop that looks for it

-- none of the first n lists is ahead of the one at this place
abbrev pub NoneAhead : (lists : List (List BallotLine)) (n place : ℕ) → Type 0
NoneAhead lists n place = (d : List BallotLine) (k : ℕ) → k < n → is_ahead (get_or lists k d) (get_or lists place d) ≡ false

pub none_yet : (lists : List (List BallotLine)) → NoneAhead lists 1 0
none_yet lists d k below =
    let first : 0 ≡ k = omega arith in
    subst (λ (j : ℕ). is_ahead (get_or lists j d) (get_or lists 0 d) ≡ false) first (not_ahead_self (get_or lists 0 d))

-- one more list
split_last : (P : ℕ → Type 0) (n k : ℕ) → k < n + 1 → (k < n → P k) → P n → P k
split_last P n k below before last =
    elim (eqb_tells k n) [
      | inl is ↦ subst P (sym is.1) last
      | inr other ↦ before (omega (arith, other.1))
    ]

pub none_takes :
    (lists : List (List BallotLine)) (n place : ℕ) (x y : List BallotLine) → n < length lists → place < length lists
    → x ≡ get_or lists n x → y ≡ get_or lists place y → is_ahead x y ≡ true → NoneAhead lists n place
    → NoneAhead lists (n + 1) n
none_takes lists n place x y inside there is_x is_y ahead none d k below =
    let at_x = get_or_read lists n x inside is_x d in
    let at_y = get_or_read lists place y there is_y d in
    let ahead_here : is_ahead (get_or lists n d) (get_or lists place d) ≡ true =
    ap (λ (l : List BallotLine). is_ahead l (get_or lists place d)) (sym at_x) ∙ (ap (is_ahead x) (sym at_y) ∙ ahead) in
    split_last (λ (j : ℕ). is_ahead (get_or lists j d) (get_or lists n d) ≡ false) n k below
    (λ before. not_ahead_of (get_or lists k d) (get_or lists n d) (get_or lists place d) ahead_here (none d k before))
    (not_ahead_self (get_or lists n d))

pub none_keeps :
    (lists : List (List BallotLine)) (n place : ℕ) (x y : List BallotLine) → n < length lists → place < length lists
    → x ≡ get_or lists n x → y ≡ get_or lists place y → is_ahead x y ≡ false → NoneAhead lists n place
    → NoneAhead lists (n + 1) place
none_keeps lists n place x y inside there is_x is_y behind none d k below =
    let at_x = get_or_read lists n x inside is_x d in
    let at_y = get_or_read lists place y there is_y d in
    split_last (λ (j : ℕ). is_ahead (get_or lists j d) (get_or lists place d) ≡ false) n k below
    (λ before. none d k before)
    (ap (λ (l : List BallotLine). is_ahead l (get_or lists place d)) (sym at_x) ∙ (ap (is_ahead x) (sym at_y) ∙ behind))

-- ---- what was found

abbrev IsFirst : (lists : List (List BallotLine)) (place : ℕ) → Type 0
IsFirst lists place = (d : List BallotLine) → All (λ lines. is_ahead lines (get_or lists place d) ≡ false) lists

none_before : (ls x : List BallotLine) (r : List ℕ) → IsHead r x → is_ahead ls x ≡ false → IsFrom r ls
none_before [] x r head none = tt
none_before (l ∷ ls) [] r head none = absurd head
none_before (l ∷ ls) (y ∷ ys) r head none =
    λ before. false≢true (sym none ∙ ap is_lt (ap (order l.ranking) (sym head) ∙ before))

head_at :
    (lists : List (List BallotLine)) (place : ℕ) (x : List BallotLine) (r : List ℕ) → place < length lists
    → x ≡ get_or lists place x → IsHead r x → (d : List BallotLine) → IsHead r (get_or lists place d)
head_at lists place x r inside is head d = subst (IsHead r) (get_or_read lists place x inside is d) head

pub least_is :
    (lists : List (List BallotLine)) (place : ℕ) (x : List BallotLine) (r : List ℕ) → place < length lists
    → x ≡ get_or lists place x
    → IsHead r x → IsFirst lists place → IsLeast r lists
least_is lists place x r inside is head first = record {
  from =
      All-weaker (λ (ls : List BallotLine). is_ahead ls x ≡ false) (IsFrom r) (λ ls none. none_before ls x r head none) lists
      (subst (λ (y : List BallotLine). All (λ (ls : List BallotLine). is_ahead ls y ≡ false) lists) (sym is) (first x));
  place = place;
  inside = inside;
  first = head_at lists place x r inside is head;
}

empty_of : (ls : List BallotLine) → is_ahead ls [] ≡ false → ls ≡ []
empty_of [] none = refl
empty_of (l ∷ ls) none = absurd (false≢true (sym none))

pub none_is :
    (lists : List (List BallotLine)) (place : ℕ) (x : List BallotLine) → x ≡ get_or lists place x → x ≡ []
    → IsFirst lists place
    → All (λ ls. ls ≡ []) lists
none_is lists place x is empty first =
    All-weaker (λ (ls : List BallotLine). is_ahead ls [] ≡ false) (λ (ls : List BallotLine). ls ≡ []) empty_of lists
    (subst (λ (y : List BallotLine). All (λ (ls : List BallotLine). is_ahead ls y ≡ false) lists) (sym is ∙ empty) (first x))

-- ---- a loop that changes each list

pub item_is :
    (f : List BallotLine → List BallotLine) (xs ys : List (List BallotLine)) (i : ℕ) (x : List BallotLine) → i < length xs
    → ys ≡ map f (take i xs) ++ drop i xs → x ≡ get_or ys i x → x ≡ get_or xs i x
item_is f xs ys i x inside so_far is =
    let front = map f (take i xs) in
    let size : length front ≡ i = length-map (take i xs) f ∙ length-take-le i xs (omega arith) in
    let here : i + (i - i) ≡ i = omega arith in
    is ∙ (ap (λ (l : List (List BallotLine)). get_or l i x) so_far
    ∙ (get_or-append_right front (drop i xs) i i x size (omega arith)
    ∙ (get_or-drop i xs (i - i) x ∙ ap (λ (j : ℕ). get_or xs j x) here)))
