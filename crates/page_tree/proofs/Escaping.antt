-- Texts with escapes.
use Rattle.std.proofs.Common.{◌≡◌, refl, ℕ, List, [], ◌++◌}
use Rattle.std.proofs.lemmas.List.Concat.{flat_map-append}
use Rattle.page_tree.specs.Escaping.{escaped}

pub escaped-nil : (escape : ℕ → List ℕ) → escaped escape [] ≡ []
unfolding escaped
escaped-nil escape = refl

-- one text after another
pub escaped-append :
    (escape : ℕ → List ℕ) (xs ys : List ℕ) → escaped escape (xs ++ ys) ≡ escaped escape xs ++ escaped escape ys
unfolding escaped
escaped-append escape xs ys = flat_map-append escape xs ys
