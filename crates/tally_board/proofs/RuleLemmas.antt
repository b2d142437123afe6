-- Each step keeps the rule of a board.
use Rattle.std.proofs.Common.{◌≡◌, ◌≢◌, ℕ, zero, suc, ◌<◌, List, [], ◌∷◌, ◌++◌, fold, set, refl, sym, ap, ◌∙◌}
use Rattle.std.proofs.Common.{subst, ⊎_elim, arith, Result, Ok, Err, IsOk, IfOk, MatchResult, T, replicate}
use Rattle.std.proofs.Common.{◌-◌, Option, Some, None}
use Rattle.std.proofs.lemmas.List.{append-nil, append_assoc}
use Rattle.std.proofs.lemmas.Option.{none-some}
use mathlib.Core.Option.{some, some-injective, some-ne-none}
use lib.ListN.{get_elem?}
use Rattle.left_right.specs.Register.{Admits, TurnsAt, Forks, Merges}
use Rattle.atomic_table.proofs.Lists.{at_set, at_snoc}
use Rattle.tally_board.specs.declared.ballot_move.Move.{Move}
use Rattle.tally_board.specs.declared.board.Board.{Board}
use Rattle.tally_board.specs.declared.board_view.BoardView.{BoardView}
use Rattle.tally_board.specs.Begins.{Begins}
use Rattle.tally_board.specs.Moves.{IsStory}
use Rattle.tally_board.specs.declared.entry.Entry.{Entry}
use Rattle.tally_board.specs.Desk.{AreNoted, steps}
use Rattle.tally_board.specs.Rule.{IsNoted, Keeps, Knows, KnowsOf, Looks, candidates_of, shown, looked, newcomer, named}
use Rattle.tally_board.specs.Sight.{or_zero}
use Rattle.tally_board.specs.Told.{BoardName, Told, front}
use Rattle.tally_board.proofs.Counts.{front_push}

-- the note of the last entry, or t where there is none
abbrev pub newest : Told → List Entry → Told
newest t [] = t
newest t (e ∷ es) = newest e.before es

pub begins_more : {A : Type 0} (a b c : List A) → Begins a b → Begins b c → Begins a c
begins_more a b c p q = (p.0 ++ q.0, q.1 ∙ (ap (λ z. z ++ q.0) p.1 ∙ append_assoc a p.0 q.0))

pub begins_itself : {A : Type 0} (a : List A) → Begins a a
begins_itself a = ([], sym (append-nil a))

-- what the log does to a board's number of candidates, moves and note
pub absorbed :
    (n : ℕ) (ms : List Move) (t : Told) (es : List Entry)
    → fold (λ (s : ℕ × (List Move × Told)) (e : Entry). (s.0, (s.1.0 ++ e.step ∷ [], e.before))) (n, (ms, t))
    es ≡ (n, (ms ++ steps es, newest t es))
absorbed n ms t [] = λ i. (n, (sym (append-nil ms) i, t))
absorbed n ms t (e ∷ es) =
    absorbed n (ms ++ e.step ∷ []) e.before es
    ∙ (λ i. (n, (append_assoc ms (e.step ∷ []) (steps es) i, newest e.before es)))

-- the note of the last entry is of this board, and of all moves but the last
pub newest_noted :
    (z : BoardName) (ms : List Move) (t : Told) (es : List Entry) → t.board ≡ z → t.moves ≡ front ms
    → AreNoted z ms es
    → ((newest t es).board ≡ z) × ((newest t es).moves ≡ front (ms ++ steps es))
newest_noted z ms t [] b h noted = (b, h ∙ ap front (sym (append-nil ms)))
newest_noted z ms t (e ∷ es) b h noted =
    let r =
    newest_noted z (ms ++ e.step ∷ []) e.before es (ap (λ u. u.board) noted.0)
    (ap (λ u. u.moves) noted.0 ∙ sym (front_push ms e.step)) noted.1 in
    (r.0, r.1 ∙ ap front (append_assoc ms (e.step ∷ []) (steps es)))

-- one entry more
pub noted_more :
    (z : BoardName) (ms : List Move) (es : List Entry) (e : Entry) → AreNoted z ms es
    → e.before ≡ record { board = z; moves = ms ++ steps es } → AreNoted z ms (es ++ e ∷ [])
noted_more z ms [] e h is = (is ∙ (λ i. record { board = z; moves = append-nil ms i }), tt)
noted_more z ms (x ∷ xs) e h is = (
  h.0,
  noted_more z (ms ++ x.step ∷ []) xs e h.1
      (is ∙ (λ i. record { board = z; moves = sym (append_assoc ms (x.step ∷ []) (steps xs)) i })),
)

pub steps_push : (es : List Entry) (e : Entry) → steps (es ++ e ∷ []) ≡ steps es ++ e.step ∷ []
steps_push [] e = refl
steps_push (x ∷ xs) e = ap (λ ms. x.step ∷ ms) (steps_push xs e)

knows_more :
    (z : BoardName) (n : ℕ) (ms more : List Move) (v : BoardView) → Begins ms more → Knows z n ms v
    → Knows z n more v
knows_more z n ms more v b h = record {
  home_is = h.home_is;
  candidates_is = h.candidates_is;
  seen = begins_more v.seen ms more h.seen b;
}

knows_newcomer : (z : BoardName) (n : ℕ) (ms : List Move) → Knows z n ms newcomer
knows_newcomer z n ms =
    record {
      home_is = λ t e. absurd (none-some t e);
      candidates_is = λ m e. absurd (none-some m e);
      seen = (ms, refl);
    }

abbrev or_this : Told → Option Told → Told
or_this t None = t
or_this t (Some u) = u

knows_looked : (b : Board) → KnowsOf b (looked b)
knows_looked b =
    record {
      home_is = λ t e. sym (ap (λ (o : Option Told). (or_this b.before o).board) e);
      candidates_is = λ m e. sym (ap or_zero e);
      seen = begins_itself (shown b);
    }

knows_named :
    (z : BoardName) (n : ℕ) (ms : List Move) (v w : BoardView) → Knows z n ms v → Knows z n ms w
    → Knows z n ms (named v w)
knows_named z n ms v w h k = record { home_is = k.home_is; candidates_is = k.candidates_is; seen = h.seen }

each_set :
    (b : Board) (views : List BoardView) (seat : ℕ) (w : BoardView)
    → ((j : ℕ) (u : BoardView) → get_elem? views j ≡ some u → KnowsOf b u) → KnowsOf b w
    → (j : ℕ) (u : BoardView) → get_elem? (set views seat w) j ≡ some u → KnowsOf b u
each_set b views seat w h k j u e =
    ⊎_elim (λ (t : (j ≡ seat) × (w ≡ u)). subst (λ (z : BoardView). KnowsOf b z) t.1 k)
    (λ (t : (j ≢ seat) × (get_elem? views j ≡ some u)). h j u t.1) (at_set views seat j w u e)

-- a look at a board that went on from x to y, or did not
pub looks :
    (seat : ℕ) (v : BoardView) (x y : Board) → x.before.board ≡ y.before.board → candidates_of x ≡ candidates_of y
    → Begins (shown x) (shown y) → ∥ IsStory (candidates_of y) (shown y) ∥₁ → IsNoted y
    → TurnsAt Keeps seat v x y Looks
looks seat v x y home same more story noted views h at =
    let each : (j : ℕ) (u : BoardView) → get_elem? views j ≡ some u → KnowsOf y u =
    λ j u e. knows_more y.before.board (candidates_of y) (shown x) (shown y) u more
    (subst (λ (t : BoardName × ℕ). Knows t.0 t.1 (shown x) u) (λ i. (home i, same i)) (h.2 j u e)) in
    (looked y, (story, noted, each_set y views seat (looked y) each (knows_looked y)), (refl, each seat v at, story, noted))

pub looks_on : (seat : ℕ) (v : BoardView) (x : Board) → TurnsAt Keeps seat v x x Looks
looks_on seat v x views h at = looks seat v x x refl refl (begins_itself (shown x)) h.0 h.1 views h at

pub comes : Admits Keeps newcomer
comes x views h = (
  h.0,
  h.1,
  λ j u e. ⊎_elim (λ (a : get_elem? views j ≡ some u). h.2 j u a) (λ (a : newcomer ≡ u).
      subst (λ (z : BoardView). KnowsOf x z) a (knows_newcomer x.before.board (candidates_of x) (shown x)))
      (at_snoc views newcomer u j e),
)

pub tells : (seat : ℕ) (v : BoardView) → Forks Keeps seat v v v
tells seat v x views h at = (
  h.0,
  h.1,
  λ j u e. let k = h.2 seat v at in
      ⊎_elim (each_set x views seat v h.2 k j u) (λ (a : v ≡ u). subst (λ (z : BoardView). KnowsOf x z) a k)
      (at_snoc (set views seat v) v u j e),
)

pub names : (seat : ℕ) (v : BoardView) (other : ℕ) (w : BoardView) → Merges Keeps seat v other w (named v w) newcomer
names seat v other w x views h at apart there = let n = candidates_of x in let ms = shown x in let z = x.before.board in
    let theirs : KnowsOf x w =
    ⊎_elim (λ (t : (other ≡ seat) × (named v w ≡ w)). absurd (apart t.0))
    (λ (t : (other ≢ seat) × (get_elem? views other ≡ some w)). h.2 other w t.1)
    (at_set views seat other (named v w) w there) in (
      h.0,
      h.1,
      each_set x (set views seat (named v w)) other newcomer
          (each_set x views seat (named v w) h.2 (knows_named z n ms v w (h.2 seat v at) theirs))
          (knows_newcomer z n ms),
    )

-- what is so of an Ok
pub of_ok : {A E : Type 0} (P : Type 0) (Q : E → Type 0) (r : Result A E) → IsOk r → MatchResult r (λ _. P) Q → P
of_ok P Q (Ok a) ok h = h
of_ok P Q (Err e) ok h = absurd (subst T (sym ok) tt)

pub opens : (b : Board) → shown b ≡ [] → b.before.moves ≡ [] → Keeps b (newcomer ∷ [])
opens b none bare = (
  subst (λ (ms : List Move). ∥ IsStory (candidates_of b) ms ∥₁) (sym none) ∣ tt ∣₁,
  bare ∙ ap front (sym none),
  λ j u e. each_only b j u e,
)
  where
    each_only : (b : Board) (j : ℕ) (u : BoardView) → get_elem? (newcomer ∷ []) j ≡ some u → KnowsOf b u
    each_only b zero u e =
        subst (λ (z : BoardView). KnowsOf b z) (some-injective newcomer u e)
        (knows_newcomer b.before.board (candidates_of b) (shown b))
    each_only b (suc j) u e = absurd (some-ne-none u (sym e))

pub if_ok_more : {A E : Type 0} (P Q : Type 0) (r : Result A E) → (P → Q) → IfOk r (λ _. P) → IfOk r (λ _. Q)
if_ok_more P Q (Ok a) f h = f h
if_ok_more P Q (Err e) f h = h

-- one more, and then the rest
pub one_then_rest :
    {A : Type 0} (xs : List A) (x : A) (n : ℕ) → 0 < n
    → (xs ++ x ∷ []) ++ replicate (n - 1) x ≡ xs ++ replicate n x
one_then_rest xs x zero h = absurd (omega arith)
one_then_rest xs x (suc n) h =
    let e : suc n - 1 ≡ n =
    omega arith in
    (λ i. (xs ++ x ∷ []) ++ replicate (e i) x) ∙ append_assoc xs (x ∷ []) (replicate n x)
