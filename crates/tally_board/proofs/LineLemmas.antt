-- What lines that are added do to a board's moves.
use Rattle.std.proofs.Common.{◌≡◌, ℕ, ◌==◌, Bool, true, false, List, [], ◌∷◌, ◌++◌, if◌then◌else◌, refl, ap}
use Rattle.std.proofs.Common.{sym, ◌∙◌, subst, arith, append_assoc}
use Rattle.std.proofs.lemmas.Bool.Decides.{nat_tests}
use Rattle.std.proofs.lemmas.List.{append-nil}
use mathlib.Core.List.{IsPrefix}
use Rattle.tally_board.specs.declared.ballot_move.Move.{Move}
use Rattle.tally_board.specs.declared.line.Line.{Line}
use Rattle.tally_board.specs.Begins.{Begins}
use Rattle.tally_board.specs.Lines.{moves_from, key_after, IsUnspent}

moves_step :
    (b : Bool) (m : Move) (p q u v : List Move) (k j : ℕ) (ys : List Line) → p ≡ u ++ moves_from k ys
    → q ≡ v ++ moves_from j ys
    → (if b then m ∷ p else q) ≡ (if b then m ∷ u else v) ++ moves_from (if b then k else j) ys
moves_step true m p q u v k j ys e f = ap (λ ms. m ∷ ms) e
moves_step false m p q u v k j ys e f = f

-- the moves of more lines are those of the first, and then those of the others
pub moves_append :
    (key : ℕ) (xs ys : List Line)
    → moves_from key (xs ++ ys) ≡ moves_from key xs ++ moves_from (key_after key xs) ys
moves_append key [] ys = refl
moves_append key (l ∷ ls) ys =
    moves_step (l.key == key) l.step _ _ _ _ _ _ ys (moves_append l.next ls ys) (moves_append key ls ys)

key_step :
    (b : Bool) (p q k j : ℕ) (ys : List Line) → p ≡ key_after k ys → q ≡ key_after j ys
    → (if b then p else q) ≡ key_after (if b then k else j) ys
key_step true p q k j ys e f = e
key_step false p q k j ys e f = f

pub key_append : (key : ℕ) (xs ys : List Line) → key_after key (xs ++ ys) ≡ key_after (key_after key xs) ys
key_append key [] ys = refl
key_append key (l ∷ ls) ys = key_step (l.key == key) _ _ _ _ ys (key_append l.next ls ys) (key_append key ls ys)

-- more lines, more moves
pub moves_begin : (key : ℕ) (xs ys : List Line) → IsPrefix xs ys → Begins (moves_from key xs) (moves_from key ys)
moves_begin key xs ys p = (moves_from (key_after key xs) p.0, ap (moves_from key) (sym p.1) ∙ moves_append key xs p.0)

rest_unspent : (key : ℕ) (xs ys : List Line) → IsUnspent key (xs ++ ys) → IsUnspent key ys
rest_unspent key [] ys h = h
rest_unspent key (l ∷ ls) ys h = rest_unspent key ls ys h.1

-- lines of other boards, and then one of this
only_last : (key : ℕ) (xs : List Line) (l : Line) → IsUnspent key xs → l.key ≡ key
    → (moves_from key (xs ++ l ∷ []) ≡ l.step ∷ []) × (key_after key (xs ++ l ∷ []) ≡ l.next)
only_last key [] l h same = let b : (l.key == key) ≡ true = grind (arith, nat_tests) in rw b (refl, refl)
only_last key (x ∷ xs) l h same =
    let b : (x.key == key) ≡ false = grind (arith, nat_tests) in rw b (only_last key xs l h.1 same)

-- a line that spends the key which no other spent is the next move
pub one_more :
    (key : ℕ) (seen log : List Line) (l : Line) → IsPrefix seen log → IsUnspent (key_after key seen) log
    → l.key ≡ key_after key seen
    → (moves_from key (log ++ l ∷ []) ≡ moves_from key seen ++ l.step ∷ []) × (key_after key (log ++ l ∷ []) ≡ l.next)
one_more key seen log l p h same =
    let next = key_after key seen in
    let all : log ++ l ∷ [] ≡ seen ++ (p.0 ++ l ∷ []) = ap (λ xs. xs ++ l ∷ []) (sym p.1) ∙ append_assoc seen p.0 (l ∷ []) in
    let rest = only_last next p.0 l (rest_unspent next seen p.0 (subst (IsUnspent next) (sym p.1) h)) same in (
      ap (moves_from key) all ∙ (moves_append key seen (p.0 ++ l ∷ []) ∙ ap (λ ms. moves_from key seen ++ ms) rest.0),
      ap (key_after key) all ∙ (key_append key seen (p.0 ++ l ∷ []) ∙ rest.1),
    )

-- the same, as a step tells it
pub pushed : (first key : ℕ) (seen after : List Line) (m : Move) (next : ℕ) → key ≡ key_after first seen
    → (log : List Line) × IsPrefix seen log × IsUnspent key log
    × (after ≡ log ++ record { key = key; step = m; next = next } ∷ [])
    → (moves_from first after ≡ moves_from first seen ++ m ∷ []) × (key_after first after ≡ next)
pushed first key seen after m next same t =
    let l : Line = record { key = key; step = m; next = next } in
    let more = one_more first seen t.0 l t.1 (subst (λ (k : ℕ). IsUnspent k t.0) same t.2) same in
    (ap (moves_from first) t.3 ∙ more.0, ap (key_after first) t.3 ∙ more.1)

pub prefix_more : (xs ys zs : List Line) → IsPrefix xs ys → IsPrefix ys zs → IsPrefix xs zs
prefix_more xs ys zs p q = (p.0 ++ q.0, sym (append_assoc xs p.0 q.0) ∙ (ap (λ ls. ls ++ q.0) p.1 ∙ q.1))

no_moves : (key : ℕ) (xs : List Line) → IsUnspent key xs → moves_from key xs ≡ []
no_moves key [] h = refl
no_moves key (x ∷ xs) h = let b : (x.key == key) ≡ false = grind (arith, nat_tests) in rw b (no_moves key xs h.1)

-- until the next key is spent there are no more moves
pub none_more :
    (key : ℕ) (seen log : List Line) → IsPrefix seen log → IsUnspent (key_after key seen) log
    → moves_from key log ≡ moves_from key seen
none_more key seen log p h =
    let next = key_after key seen in
    let none =
    no_moves next p.0 (rest_unspent next seen p.0 (subst (IsUnspent next) (sym p.1) h)) in
    ap (moves_from key) (sym p.1)
    ∙ (moves_append key seen p.0
    ∙ (ap (λ ms. moves_from key seen ++ ms) none ∙ append-nil (moves_from key seen)))
