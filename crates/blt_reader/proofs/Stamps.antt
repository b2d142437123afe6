-- Marks by stamps: a number is marked where its stamp is that of the round.
use Rattle.std.proofs.Common.{◌≡◌, ℕ, ◌+◌, ◌≤◌, List, [], ◌∷◌, length, map, Bool, true, false, refl, ◌∙◌, ap, arith, ◌==◌}
use Rattle.std.specs.Prelude.{All, replicate, set}
use Rattle.std.proofs.lemmas.Bool.{ne_eqb, eq-eqb}
use Rattle.std.proofs.lemmas.List.{length-replicate, map-set}
use Rattle.std.proofs.lemmas.List.Elements.{All-head, All-tail, All-replicate}

-- a new round has no marks
pub none_marked :
    (stamps : List ℕ) (round : ℕ) → All (λ stamp. stamp ≤ round) stamps
    → map (λ stamp. stamp == round + 1) stamps ≡ replicate (length stamps) false
none_marked [] round old = refl
none_marked (stamp ∷ stamps) round old =
    let older = All-head (λ s. s ≤ round) stamp stamps old in
    let differs : (stamp == round + 1) ≡ false = ne_eqb stamp (round + 1) (λ same. absurd (omega (arith, same, older))) in
    rw differs (ap (λ (l : List Bool). false ∷ l) (none_marked stamps round (All-tail (λ s. s ≤ round) stamp stamps old)))

pub none_marked_first :
    (numbers round : ℕ) → map (λ stamp. stamp == round + 1) (replicate numbers 0) ≡ replicate numbers false
none_marked_first numbers round =
    none_marked (replicate numbers 0) round (All-replicate (λ s. s ≤ round) numbers 0 (omega arith))
    ∙ ap (λ (n : ℕ). replicate n false) (length-replicate numbers 0)

-- a stamp of the round is a mark
pub one_marked :
    (stamps : List ℕ) (round number : ℕ) → map (λ stamp. stamp == round) (set stamps number round)
    ≡ set (map (λ stamp. stamp == round) stamps) number true
one_marked stamps round number =
    map-set (λ (stamp : ℕ). stamp == round) stamps number round
    ∙ ap (λ (b : Bool). set (map (λ stamp. stamp == round) stamps) number b) (eq-eqb round round refl)
