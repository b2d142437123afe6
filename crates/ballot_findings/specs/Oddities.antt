-- What of a name or a title wants a look by itself, and how the line begins that says so.
use Rattle.std.specs.Prelude.{ℕ, Bool, true, false, if◌then◌else◌, List, [], ◌∷◌, ◌++◌, codes}
use Rattle.std.specs.Str.{chars, is_utf8}
use Rattle.ballot_findings.specs.declared.oddity.Oddity.{Oddity}
use Rattle.ballot_findings.specs.declared.oddity.Oddity.TheVariants.{OtherBytes, DirectionalMark, HiddenCharacter, StraySign, UnusualBlanks, SeveralScripts, Number}
use Rattle.ballot_findings.specs.declared.kind.Kind.TheVariants.{Directional, Hidden}
use Rattle.ballot_findings.specs.Signs.{has, has_several_scripts, has_stray_sign, has_unusual_blanks, is_number}

-- in the order in which they are told
abbrev pub oddities : List Oddity
oddities =
    OtherBytes ∷ DirectionalMark ∷ HiddenCharacter ∷ StraySign ∷ UnusualBlanks ∷ SeveralScripts ∷ Number ∷ []

abbrev pub oddity_words : Oddity → List ℕ
oddity_words OtherBytes = codes " is not UTF-8"
oddity_words DirectionalMark = codes " has a directional mark"
oddity_words HiddenCharacter = codes " has a hidden character"
oddity_words StraySign = codes " has a stray combining sign"
oddity_words UnusualBlanks = codes " has unusual blanks"
oddity_words SeveralScripts = codes " has letters of several scripts"
oddity_words Number = codes " is a number"

abbrev pub name_words : Oddity → List ℕ
name_words oddity = codes "look name" ++ oddity_words oddity

abbrev pub title_words : Oddity → List ℕ
title_words oddity = codes "look title" ++ oddity_words oddity

-- The characters of a text have this oddity.
abbrev pub has_oddity : Oddity → (text : List ℕ) → Bool
has_oddity OtherBytes text = false
has_oddity DirectionalMark text = has Directional text
has_oddity HiddenCharacter text = has Hidden text
has_oddity StraySign text = has_stray_sign text
has_oddity UnusualBlanks text = has_unusual_blanks text
has_oddity SeveralScripts text = has_several_scripts text
has_oddity Number text = is_number text

-- the one oddity of bytes that are no text in UTF-8
abbrev pub is_of_bytes : Oddity → Bool
is_of_bytes OtherBytes = true
is_of_bytes oddity = false

-- These bytes have the oddity.
abbrev pub is_odd : Oddity → (bytes : List ℕ) → Bool
is_odd oddity bytes = if is_utf8 bytes then has_oddity oddity (chars bytes) else is_of_bytes oddity
