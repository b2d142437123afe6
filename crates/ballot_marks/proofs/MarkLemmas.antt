-- What marks say, one after another.
use Rattle.std.proofs.Common.{◌≡◌, ℕ, ◌==◌, Bool, true, false, ◌||◌, List, [], ◌∷◌, ◌++◌, refl, ap, sym, ◌∙◌}
use Rattle.std.proofs.lemmas.List.{append-nil}
use Rattle.std.proofs.lemmas.List.Concat.{flat_map-append}
use Rattle.std.proofs.lemmas.List.Folds.{list_any-append}
use Rattle.ballot_marks.specs.declared.mark.Mark.{Mark}
use Rattle.ballot_marks.specs.Marks.{said, said_by, is_among}

pub said-push : (before : List Mark) (m : Mark) → said (before ++ m ∷ []) ≡ said before ++ said_by m.says
said-push before m =
    flat_map-append (λ (k : Mark). said_by k.says) before (m ∷ [])
    ∙ ap (λ (l : List ℕ). said before ++ l) (append-nil (said_by m.says))

pub is_among-append : (a b : List ℕ) (c : ℕ) → is_among (a ++ b) c ≡ (is_among a c || is_among b c)
is_among-append a b c = list_any-append (λ d. d == c) a b

or_both : (a b : Bool) → (a || b) ≡ false → (a ≡ false) × (b ≡ false)
or_both true b is = absurd cc
or_both false b is = (refl, is)

-- who is not among the candidates of two lists is among neither
pub among_neither :
    (a b : List ℕ) (c : ℕ) → is_among (a ++ b) c ≡ false → (is_among a c ≡ false) × (is_among b c ≡ false)
among_neither a b c is = or_both (is_among a c) (is_among b c) (sym (is_among-append a b c) ∙ is)
