-- Names and titles that are free of an oddity, said of their characters.
use Rattle.std.specs.Prelude.{◌≡◌, ◌≤◌, ℕ, true, false, List, [], ◌∷◌, ◌++◌, count_by, All, Contains}
use Rattle.std.specs.Str.{IsUtf8, chars}
use Rattle.ballot_findings.specs.declared.oddity.Oddity.{Oddity}
use Rattle.ballot_findings.specs.declared.oddity.Oddity.TheVariants.{OtherBytes, DirectionalMark, HiddenCharacter, StraySign, UnusualBlanks, SeveralScripts, Number}
use Rattle.ballot_findings.specs.Signs.{has, is_between, is_blank, is_directional, is_hidden, is_stray, scripts}

-- With three blanks put before the text, no sign is stray after the three characters before it.
abbrev pub HasOwnSigns : (text : List ℕ) → Type 0
HasOwnSigns text =
    (before : List ℕ) (first second third sign : ℕ) (after : List ℕ)
    → 32 ∷ 32 ∷ 32 ∷ text ≡ before ++ first ∷ second ∷ third ∷ sign ∷ after
    → is_stray first second third sign ≡ false

-- With a space put before the text, each blank in it is a space after a character that is none; and the last is none.
pub record IsEvenlySpaced (text : List ℕ) : Type 0 where
  pub blanks : (before : List ℕ) (character blank : ℕ) (after : List ℕ)
      → 32 ∷ text ≡ before ++ character ∷ blank ∷ after → is_blank blank ≡ true
      → (blank ≡ 32) × (is_blank character ≡ false)
  pub last : (before : List ℕ) (last : ℕ) → text ≡ before ++ last ∷ [] → is_blank last ≡ false

-- At most one of the scripts has a letter in the text.
abbrev pub IsOfOneScript : (text : List ℕ) → Type 0
IsOfOneScript text = count_by (λ script. has script text) scripts ≤ 1

-- Where the text has a digit, it has a character that is in no number.
abbrev pub IsNoNumber : (text : List ℕ) → Type 0
IsNoNumber text =
    (digit : ℕ) → Contains text digit → is_between 48 57 digit ≡ true
    → (other : ℕ) × Contains text other × (is_between 32 63 other ≡ false)

-- The bytes are UTF-8; or, where they are, their characters are free of the oddity.
abbrev pub IsFree : Oddity → (bytes : List ℕ) → Type 0
IsFree OtherBytes bytes = IsUtf8 bytes
IsFree DirectionalMark bytes = IsUtf8 bytes → All (λ character. is_directional character ≡ false) (chars bytes)
IsFree HiddenCharacter bytes = IsUtf8 bytes → All (λ character. is_hidden character ≡ false) (chars bytes)
IsFree StraySign bytes = IsUtf8 bytes → HasOwnSigns (chars bytes)
IsFree UnusualBlanks bytes = IsUtf8 bytes → IsEvenlySpaced (chars bytes)
IsFree SeveralScripts bytes = IsUtf8 bytes → IsOfOneScript (chars bytes)
IsFree Number bytes = IsUtf8 bytes → IsNoNumber (chars bytes)
