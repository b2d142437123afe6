-- Fronts of one list of moves.
use Rattle.std.proofs.Common.{◌≡◌, ◌⊎◌, ℕ, ◌+◌, ◌-◌, ◌<◌, ◌≤◌, ◌^◌, List, [], ◌∷◌, ◌++◌, length, Option, Some}
use Rattle.std.proofs.Common.{None, inl, inr, refl, ap, sym, ◌∙◌, subst, arith, length-append, append_assoc}
use Rattle.std.proofs.lemmas.List.{append-nil}
use Rattle.tally_board.specs.declared.ballot_move.Move.{Move}
use Rattle.tally_board.specs.Begins.{Begins}
use Rattle.tally_board.specs.Told.{front, listed, IsLast, IsCounted}
use Rattle.tally_board.proofs.Counts.{front_push}

-- of two fronts of one list the shorter begins the longer
pub shorter : {A : Type 0} (xs ys zs : List A) → Begins xs zs → Begins ys zs → length xs ≤ length ys → Begins xs ys
shorter [] ys zs p q le = (ys, refl)
shorter (x ∷ xs) [] zs p q le = absurd (omega arith)
shorter (x ∷ xs) (y ∷ ys) [] p q le = absurd (cc (p.1))
shorter (x ∷ xs) (y ∷ ys) (z ∷ zs) p q le =
    let heads : x ≡ y = cc (p.1, q.1) in
    let rest = shorter xs ys zs (p.0, cc (p.1)) (q.0, cc (q.1)) (omega arith) in
    (rest.0, cc (heads, rest.1))

pub begins_pushed : (xs ys more : List Move) → Begins xs ys → Begins xs (ys ++ more)
begins_pushed xs ys more p = (p.0 ++ more, ap (λ zs. zs ++ more) p.1 ∙ append_assoc xs p.0 more)

-- who goes on by one move goes on by its last
one_longer :
    (xs ys rest : List Move) (m : Move) → xs ≡ ys ++ rest → length xs ≡ length ys + 1
    → xs ≡ front xs ++ m ∷ [] → xs ≡ ys ++ m ∷ []
one_longer xs ys [] m e long last = let none : List Move = [] in absurd (omega (arith, ap length e, length-append ys none))
one_longer xs ys (x ∷ []) m e long last = last ∙ ap (λ zs. zs ++ m ∷ []) (ap front e ∙ front_push ys x)
one_longer xs ys (x ∷ (y ∷ rest)) m e long last = absurd (omega (arith, ap length e, length-append ys (x ∷ (y ∷ rest))))

-- a note with no more moves than another begins it; one with a move more begins it with that move after
pub told_begins :
    (n k : ℕ) (last other : Option Move) (xs ys zs : List Move) → IsCounted n last xs → IsCounted k other ys
    → n < 2 ^ 64 - 1 → k < 2 ^ 64 - 1
    → Begins xs zs → Begins ys zs → (more : Option Move) → (n ≤ k) ⊎ ((n ≡ k + 1) × (last ≡ more))
    → Begins xs (ys ++ listed more)
told_begins n k last other xs ys zs h g small few p q more (inl le) =
    let a = (h small).0 in let b = (g few).0 in begins_pushed xs ys (listed more) (shorter xs ys zs p q (omega arith))
told_begins n k last other xs ys zs h g small few p q None (inr t) =
    let a =
    (h small).0 in
    let none : xs ≡ [] =
    subst (λ (l : Option Move). IsLast l xs) t.1 (h small).1 in
    absurd (omega (arith, ap length none, t.0))
told_begins n k last other xs ys zs h g small few p q (Some m) (inr t) =
    let a = (h small).0 in let b = (g few).0 in
    let is : xs ≡ front xs ++ m ∷ [] = subst (λ (l : Option Move). IsLast l xs) t.1 (h small).1 in
    let on = shorter ys xs zs q p (omega (arith, t.0)) in
    let same : xs ≡ ys ++ m ∷ [] = one_longer xs ys on.0 m on.1 (omega (arith, t.0)) is in
    ([], sym same ∙ sym (append-nil xs))

-- what a longer note says is more
pub counted_shorter :
    (n k : ℕ) (last other : Option Move) (xs ys zs : List Move) → IsCounted n last xs → IsCounted k other ys
    → n < 2 ^ 64 - 1 → k < 2 ^ 64 - 1
    → Begins xs zs → Begins ys zs → n ≤ k → Begins xs ys
counted_shorter n k last other xs ys zs h g small few p q le =
    let a = (h small).0 in let b = (g few).0 in shorter xs ys zs p q (omega arith)
