-- Rankings that were said before, one line more at a time.
use Rattle.std.proofs.Common.{◌≡◌, ◌∙◌, ℕ, ◌+◌, ◌<◌, Bool, true, false, cond, List, [], ap, refl, sym, length, take, get_or}
use Rattle.std.specs.Prelude.{◌||◌}
use Rattle.std.specs.List.{list_any}
use Rattle.std.specs.Str.{bytes_eq}
use Rattle.std.proofs.lemmas.Cmp.{nat_list_eq_equiv}
use Rattle.std.proofs.lemmas.List.Folds.{list_any_more}

or_turned : (a b : Bool) → (a || b) ≡ cond b true a
or_turned true true = refl
or_turned true false = refl
or_turned false true = refl
or_turned false false = refl

-- one ranking more was said
pub said_more :
    (said : List (List ℕ)) (i : ℕ) (ranking q : List ℕ) (before : Bool) → i < length said
    → ranking ≡ get_or said i []
    → before ≡ list_any (bytes_eq q) (take i said)
    → cond (bytes_eq ranking q) true before ≡ list_any (bytes_eq q) (take (i + 1) said)
said_more said i ranking q before below is was =
    let turned : bytes_eq ranking q ≡ bytes_eq q (get_or said i []) =
    nat_list_eq_equiv.symm ranking q ∙ ap (bytes_eq q) is in
    ap (λ (b : Bool). cond b true before) turned
    ∙ (ap (λ (b : Bool). cond (bytes_eq q (get_or said i [])) true b) was
    ∙ (sym (or_turned (list_any (bytes_eq q) (take i said)) (bytes_eq q (get_or said i [])))
    ∙ sym (list_any_more (bytes_eq q) said i [] below)))
