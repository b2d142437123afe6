-- What the texts of a head say together.
use Rattle.std.proofs.Common.{◌≡◌, ℕ, Bool, true, false, cond, not, ◌&&◌, ◌||◌, List, [], ◌∷◌, length, ◌+◌, ◌≤◌, arith, refl, ap}
use Rattle.std.specs.List.{list_all}
use Rattle.ballot_table.specs.declared.table_asked.TableAsked.{TableAsked}
use Rattle.ballot_table.specs.Asked.{asked_of}
use Rattle.ballot_table.specs.Head.{unlabelled}
use Rattle.ballot_table.specs.Texts.{is_in}

kept : (b : Bool) (p : List ℕ → Bool) (x : List ℕ) (xs : List (List ℕ)) (rest : Bool) → list_all p xs ≡ rest
    → list_all p (cond (not b) (x ∷ xs) xs) ≡ ((b || p x) && rest)
kept true p x xs rest is = is
kept false p x xs rest is = ap (λ (r : Bool). p x && r) is

-- each text without a label passes
pub all_unlabelled : (a : TableAsked) (p : List ℕ → Bool) (texts : List (List ℕ))
    → list_all p (unlabelled (asked_of a) texts) ≡ list_all (λ text. is_in a.labels text || p text) texts
all_unlabelled a p [] = refl
all_unlabelled a p (x ∷ xs) =
    kept (is_in a.labels x) p x (unlabelled (asked_of a) xs) _ (all_unlabelled a p xs)

less : (b : Bool) (x : List ℕ) (xs : List (List ℕ)) (n : ℕ) → length xs ≤ n → length (cond b (x ∷ xs) xs) ≤ n + 1
less true x xs n is = omega (arith, is)
less false x xs n is = omega (arith, is)

pub few_unlabelled : (a : TableAsked) (texts : List (List ℕ)) → length (unlabelled (asked_of a) texts) ≤ length texts
few_unlabelled a [] = omega arith
few_unlabelled a (x ∷ xs) =
    let more = less (not (is_in a.labels x)) x (unlabelled (asked_of a) xs) (length xs) (few_unlabelled a xs) in
    omega (arith, more)
