-- Characters with those before them, one character more at a time.
use Rattle.std.proofs.Common.{◌≡◌, ◌∙◌, ℕ, ◌+◌, ◌<◌, Bool, true, false, List, ◌∷◌, length, drop, get_or}
use Rattle.std.proofs.Common.{ap, sym}
use Rattle.std.specs.Prelude.{◌||◌}
use Rattle.std.specs.List.{list_any}
use Rattle.std.proofs.lemmas.List.{at_drop_more}
use Rattle.ballot_findings.specs.Signs.{fours, is_stray, is_unusual, last_or, pairs}

-- a blank of the characters to come is unusual, after this one
abbrev pub spaced_ill : (before : ℕ) → (text : List ℕ) → Bool
spaced_ill before text = list_any (λ two. is_unusual two.0 two.1) (pairs (before ∷ text))

-- a sign of the characters to come is stray, after these three
abbrev pub strayed : (first second third : ℕ) → (text : List ℕ) → Bool
strayed first second third text =
    list_any (λ four. is_stray four.0.0 four.0.1 four.1.0 four.1.1) (fours (first ∷ second ∷ third ∷ text))

-- the character at a place of the text
abbrev pub IsAt : (text : List ℕ) (n c : ℕ) → Type 0
IsAt text n c = (n < length text) × (c ≡ get_or text n c)

module _ (text : List ℕ) (n c : ℕ) (at : IsAt text n c) where
  -- what is said of the characters to come, with this one first
  pub here : {Y : Type 0} (F : List ℕ → Y) → F (drop n text) ≡ F (c ∷ drop (n + 1) text)
  here F = at_drop_more F text n c at.0 ∙ ap (λ (d : ℕ). F (d ∷ drop (n + 1) text)) (sym at.1)

  pub spaced_one : (b : ℕ) → spaced_ill b (drop n text) ≡ (is_unusual b c || spaced_ill c (drop (n + 1) text))
  spaced_one b = here (spaced_ill b)

  pub last_one : (other : ℕ) → last_or other (drop n text) ≡ last_or c (drop (n + 1) text)
  last_one other = here (last_or other)

  pub strayed_one :
      (x y z : ℕ) → strayed x y z (drop n text) ≡ (is_stray x y z c || strayed y z c (drop (n + 1) text))
  strayed_one x y z = here (strayed x y z)

-- at the first that holds, and past one that doesn't
pub or_first : (test rest : Bool) → test ≡ true → (test || rest) ≡ true
or_first test rest is = ap (λ (b : Bool). b || rest) is

pub or_next : (test rest : Bool) → test ≡ false → (test || rest) ≡ rest
or_next test rest is = ap (λ (b : Bool). b || rest) is
