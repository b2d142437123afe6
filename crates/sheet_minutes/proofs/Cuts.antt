-- Rounds cut into blocks.
use Rattle.std.proofs.Common.{◌≡◌, ◌∙◌, ap, sym, refl, arith, ℕ, zero, suc, ◌<◌, ◌≤◌, List, [], ◌∷◌, ◌++◌, drop, length, take}
use Rattle.std.proofs.lemmas.List.{length-drop, take-append-drop}
use Rattle.std.specs.List.{flat_map}
use Rattle.sheet_minutes.specs.Rounds.{cut, cut_from}

-- more fuel than rounds changes nothing
enough :
    (fuel more size : ℕ) (rounds : List ℕ) → 0 < size → length rounds ≤ fuel → length rounds ≤ more
    → cut_from fuel size rounds ≡ cut_from more size rounds
enough zero zero size rounds some low high = refl
enough zero (suc more) size [] some low high = refl
enough zero (suc more) size (round ∷ rounds) some low high = absurd (omega arith)
enough (suc fuel) zero size [] some low high = refl
enough (suc fuel) zero size (round ∷ rounds) some low high = absurd (omega arith)
enough (suc fuel) (suc more) size [] some low high = refl
enough (suc fuel) (suc more) size (round ∷ rounds) some low high =
    let all = round ∷ rounds in
    let less : length (drop size all) ≤ length rounds = omega (arith, length-drop size all) in
    ap (λ (l : List (List ℕ)). take size all ∷ l)
    (enough fuel more size (drop size all) some (omega (arith, less)) (omega (arith, less)))

-- a block, and those of the rounds after it
pub cut-step :
    (size : ℕ) (rounds : List ℕ) → 0 < size → 0 < length rounds
    → cut size rounds ≡ take size rounds ∷ cut size (drop size rounds)
cut-step size [] some any = absurd (omega arith)
cut-step size (round ∷ rounds) some any =
    let all = round ∷ rounds in
    let less : length (drop size all) ≤ length rounds = omega (arith, length-drop size all) in
    ap (λ (l : List (List ℕ)). take size all ∷ l)
    (enough (length rounds) (length (drop size all)) size (drop size all) some less (omega arith))

-- the blocks one after another
joined_from :
    (fuel size : ℕ) (rounds : List ℕ) → 0 < size → length rounds ≤ fuel
    → flat_map (λ (block : List ℕ). block) (cut_from fuel size rounds) ≡ rounds
joined_from zero size [] some low = refl
joined_from zero size (round ∷ rounds) some low = absurd (omega arith)
joined_from (suc fuel) size [] some low = refl
joined_from (suc fuel) size (round ∷ rounds) some low =
    let all = round ∷ rounds in
    ap (λ (l : List ℕ). take size all ++ l)
    (joined_from fuel size (drop size all) some (omega (arith, length-drop size all)))
    ∙ take-append-drop size all

pub joined : (size : ℕ) (rounds : List ℕ) → 0 < size → flat_map (λ (block : List ℕ). block) (cut size rounds) ≡ rounds
joined size rounds some = joined_from (length rounds) size rounds some (omega arith)

-- what is written of a block, and of those after it
pub text-step :
    (text : List ℕ → List ℕ) (size : ℕ) (all block others : List ℕ) → 0 < size → 0 < length all
    → block ≡ take size all → others ≡ drop size all
    → text block ++ flat_map text (cut size others) ≡ flat_map text (cut size all)
text-step text size all block others some any is_block is_rest =
    ap (λ (l : List ℕ). text l ++ flat_map text (cut size others)) is_block
    ∙ ap (λ (l : List ℕ). text (take size all) ++ flat_map text (cut size l)) is_rest
    ∙ ap (flat_map text) (sym (cut-step size all some any))
