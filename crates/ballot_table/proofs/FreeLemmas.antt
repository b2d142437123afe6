-- Ranks that nobody has.
use Rattle.std.proofs.Common.{◌≡◌, ℕ, suc, ◌+◌, ◌-◌, ◌<◌, List, [], ◌∷◌, ◌++◌, map, length, take, drop, replicate}
use Rattle.std.proofs.Common.{Option, None, get_or, refl, ap, sym, ◌∙◌, arith}
use Rattle.std.proofs.lemmas.List.{get_or-drop, length-drop, map-append, take-append-drop}
use Rattle.ballot_marks.specs.declared.says.Says.{Says}
use Rattle.ballot_table.specs.declared.held.Held.{Held}
use Rattle.ballot_table.specs.declared.held.Held.TheVariants.{Nobody}
use Rattle.ballot_table.specs.Held.{IsFreeFrom, says_held}

nobody_says : (held : List Held) → ((k : ℕ) → k < length held → get_or held k Nobody ≡ Nobody)
    → map says_held held ≡ replicate (length held) None
nobody_says [] free = refl
nobody_says (h ∷ held) free =
    let first : h ≡ Nobody = free 0 (omega arith) in
    ap (λ (other : Held). says_held other ∷ map says_held held) first
    ∙ ap (λ (l : List (Option Says)). None ∷ l) (nobody_says held (λ k below. free (suc k) (omega (arith, below))))

-- what the ranks say of which nobody has one after so many
pub free_says : (used : ℕ) (held : List Held) → IsFreeFrom used held
    → map says_held (take used held) ++ replicate (length held - used) None ≡ map says_held held
free_says used held free =
    let long = length-drop used held in
    let none = nobody_says (drop used held)
    (λ k below. get_or-drop used held k Nobody ∙ free (used + k) (omega arith) (omega (arith, below, long))) in
    ap (λ (l : List (Option Says)). map says_held (take used held) ++ l)
    (ap (λ (n : ℕ). replicate n None) (sym long) ∙ sym none)
    ∙ sym (map-append says_held (take used held) (drop used held))
    ∙ ap (map says_held) (take-append-drop used held)
