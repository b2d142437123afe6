-- Characters of names and titles that want a look. A character is its number in Unicode.
use Rattle.std.specs.Prelude.{ℕ, ◌==◌, Bool, not, ◌&&◌, ◌||◌, nat_le, nat_lt, List, [], ◌∷◌, drop, count_by}
use Rattle.std.specs.List.{list_any, zip}
use Rattle.ballot_findings.specs.declared.kind.Kind.{Kind}
use Rattle.ballot_findings.specs.declared.kind.Kind.TheVariants.{Directional, Hidden, Digit, BeyondNumbers, Latin, Greek, Cyrillic, Armenian, Cherokee, Lisu, Coptic}

abbrev pub is_between : (least most n : ℕ) → Bool
is_between least most n = nat_le least n && nat_le n most

-- ---- characters that are not seen

-- A character that turns the direction of what comes after it or around it: U+061C, U+200E, U+200F, U+202A to U+202E
-- and U+2066 to U+2069.
abbrev pub is_directional : (character : ℕ) → Bool
is_directional character =
    character == 0x061C || is_between 0x200E 0x200F character || is_between 0x202A 0x202E character
    || is_between 0x2066 0x2069 character

-- a control character
abbrev pub is_control : (character : ℕ) → Bool
is_control character = nat_le character 31 || is_between 127 159 character

-- below U+2000: the soft hyphen, the joiner of graphemes, fillers of Hangul, vowels of Khmer that are not written, and
-- selectors of Mongolian
abbrev pub is_low_hidden : (character : ℕ) → Bool
is_low_hidden character =
    character == 0x00AD || character == 0x034F || is_between 0x115F 0x1160 character || is_between 0x17B4 0x17B5 character
    || is_between 0x180B 0x180F character

-- from U+2000 to U+FFFF: spaces without width and joiners, separators of lines and paragraphs, signs of format, the empty
-- Braille pattern, fillers of Hangul, selectors, the byte order mark, and what is reserved or sets annotations apart
abbrev pub is_middle_hidden : (character : ℕ) → Bool
is_middle_hidden character =
    is_between 0x200B 0x200D character || is_between 0x2028 0x2029 character || is_between 0x2060 0x2065 character
    || is_between 0x206A 0x206F character || character == 0x2800 || character == 0x3164 || is_between 0xFE00 0xFE0F character
    || character == 0xFEFF || character == 0xFFA0 || is_between 0xFFF0 0xFFFB character

-- from U+10000 on: signs of format of shorthand and of music, tags, and further selectors
abbrev pub is_high_hidden : (character : ℕ) → Bool
is_high_hidden character =
    is_between 0x1BCA0 0x1BCA3 character || is_between 0x1D173 0x1D17A character || is_between 0xE0000 0xE0FFF character

-- a character of which nothing is seen, and that is neither a blank nor one of direction
abbrev pub is_hidden : (character : ℕ) → Bool
is_hidden character =
    is_control character || is_low_hidden character || is_middle_hidden character || is_high_hidden character

-- ---- letters

abbrev pub is_latin : (character : ℕ) → Bool
is_latin character =
    is_between 0x41 0x5A character || is_between 0x61 0x7A character || is_between 0xC0 0xD6 character
    || is_between 0xD8 0xF6 character || is_between 0xF8 0x2AF character || is_between 0x1E00 0x1EFF character

abbrev pub is_greek : (character : ℕ) → Bool
is_greek character =
    is_between 0x370 0x3E1 character || is_between 0x3F0 0x3FF character || is_between 0x1F00 0x1FFF character

abbrev pub is_cyrillic : (character : ℕ) → Bool
is_cyrillic character =
    is_between 0x400 0x52F character || is_between 0x1C80 0x1C8F character || is_between 0xA640 0xA69F character

abbrev pub is_cherokee : (character : ℕ) → Bool
is_cherokee character = is_between 0x13A0 0x13FD character || is_between 0xAB70 0xABBF character

abbrev pub is_coptic : (character : ℕ) → Bool
is_coptic character = is_between 0x3E2 0x3EF character || is_between 0x2C80 0x2CFF character

-- ---- kinds of characters

-- Digits are those of ASCII, and what a number is written with are its digits, signs and space, from 32 to 63.
abbrev pub is_of : Kind → (character : ℕ) → Bool
is_of Directional character = is_directional character
is_of Hidden character = is_hidden character
is_of Digit character = is_between 48 57 character
is_of BeyondNumbers character = not (is_between 32 63 character)
is_of Latin character = is_latin character
is_of Greek character = is_greek character
is_of Cyrillic character = is_cyrillic character
is_of Armenian character = is_between 0x531 0x588 character
is_of Cherokee character = is_cherokee character
is_of Lisu character = is_between 0xA4D0 0xA4FF character
is_of Coptic character = is_coptic character

-- The text has a character of this kind.
abbrev pub has : Kind → (text : List ℕ) → Bool
has kind text = list_any (is_of kind) text

-- the scripts of which some letters look like those of another
abbrev pub scripts : List Kind
scripts = Latin ∷ Greek ∷ Cyrillic ∷ Armenian ∷ Cherokee ∷ Lisu ∷ Coptic ∷ []

abbrev pub has_several_scripts : (text : List ℕ) → Bool
has_several_scripts text = nat_lt 1 (count_by (λ script. has script text) scripts)

-- The text has a digit, and nothing but what a number is written with.
abbrev pub is_number : (text : List ℕ) → Bool
is_number text = has Digit text && not (has BeyondNumbers text)

-- ---- blanks

-- the spaces of Unicode
abbrev pub is_blank : (character : ℕ) → Bool
is_blank character =
    character == 0x20 || character == 0xA0 || character == 0x1680 || is_between 0x2000 0x200A character
    || character == 0x202F || character == 0x205F || character == 0x3000

-- A blank is no space (32), or comes right after a blank.
abbrev pub is_unusual : (before character : ℕ) → Bool
is_unusual before character = is_blank character && (not (character == 32) || is_blank before)

-- each two that are next to each other
abbrev pub pairs : List ℕ → List (ℕ × ℕ)
pairs text = zip text (drop 1 text)

-- the last character, or the one given here where there is none
abbrev pub last_or : (other : ℕ) → (text : List ℕ) → ℕ
last_or other [] = other
last_or other (c ∷ text) = last_or c text

-- A blank of the text, before which a space is put, is unusual, or the last character is a blank. 0 is none.
abbrev pub has_unusual_blanks : (text : List ℕ) → Bool
has_unusual_blanks text =
    list_any (λ two. is_unusual two.0 two.1) (pairs (32 ∷ text)) || is_blank (last_or 0 text)

-- ---- combining signs

-- a combining sign of no single script, as those of decomposed letters, or a sign that encloses a letter
abbrev pub is_combining : (character : ℕ) → Bool
is_combining character =
    is_between 0x300 0x36F character || is_between 0x483 0x489 character || is_between 0x1AB0 0x1AFF character
    || is_between 0x1DC0 0x1DFF character || is_between 0x20D0 0x20FF character || is_between 0xFE20 0xFE2F character

-- one of them that strikes a letter out, or encloses it
abbrev pub is_striking : (character : ℕ) → Bool
is_striking character =
    is_between 0x334 0x338 character || is_between 0x488 0x489 character || is_between 0x20D0 0x20FF character

-- A letter of ASCII, or a character from U+00C0 on, which are letters and their signs for the most part.
abbrev pub is_carrying : (character : ℕ) → Bool
is_carrying character = is_between 0x41 0x5A character || is_between 0x61 0x7A character || nat_le 0xC0 character

-- A sign after these three has no letter, or is the fourth sign in a row: a decomposed letter has three at most.
abbrev pub is_out_of_place : (first second third : ℕ) → Bool
is_out_of_place first second third =
    not (is_carrying third) || (is_combining first && is_combining second && is_combining third)

-- The last of four characters is a sign that strikes out, or one out of place.
abbrev pub is_stray : (first second third sign : ℕ) → Bool
is_stray first second third sign = is_striking sign || (is_combining sign && is_out_of_place first second third)

-- each four characters in a row
abbrev pub fours : List ℕ → List ((ℕ × ℕ) × (ℕ × ℕ))
fours text = zip (pairs text) (drop 2 (pairs text))

-- A sign is stray. Blanks are put before the text.
abbrev pub has_stray_sign : (text : List ℕ) → Bool
has_stray_sign text = list_any (λ four. is_stray four.0.0 four.0.1 four.1.0 four.1.1) (fours (32 ∷ 32 ∷ 32 ∷ text))
