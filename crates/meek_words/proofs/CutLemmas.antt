-- The words of parts are cut in one way only.
use Rattle.std.proofs.Common.{◌≡◌, ◌≢◌, ℕ, Bool, true, false, cond, not, List, [], ◌∷◌, ◌++◌, Option, Some}
use Rattle.std.proofs.Common.{None, codes, nat_eq, refl, sym, ap, ◌∙◌, arith, All}
use Rattle.std.specs.List.{flat_map}
use Rattle.std.specs.Str.{bytes_eq}
use Rattle.std.proofs.lemmas.Bool.Decides.{nat_tests}
use Rattle.std.proofs.lemmas.List.{append_assoc, append-nil}
use Rattle.std.proofs.lemmas.List.Elements.{All-head, All-tail}
use Rattle.std.proofs.lemmas.Option.{none-some, some_pair_parts}
use Rattle.meek_words.specs.Numerals.{Word}
use Rattle.meek_words.specs.Parts.{Part, OneWord, TwoWords, Plain, IsValue, words_of, HasValue}
use Rattle.meek_words.specs.declared.option_name.OptionName.{OptionName}
use Rattle.meek_words.specs.declared.option_name.OptionName.TheVariants.{Lots, Shards, Workers}

-- what is before a word's first equals sign, and what is after it
abbrev pub at_equals : Word → Word × Option Word
at_equals [] = ([], None)
at_equals (b ∷ rest) = cond (nat_eq b 61) ([], Some rest) (b ∷ (at_equals rest).0, (at_equals rest).1)

abbrev pub flagged : Word → Option OptionName
flagged word =
    cond (bytes_eq word (codes "--lots")) (Some Lots)
    (cond (bytes_eq word (codes "--shards")) (Some Shards) (cond (bytes_eq word (codes "--workers")) (Some Workers) None))

abbrev pub is_value : Word → Bool
is_value [] = false
is_value (b ∷ rest) = not (nat_eq b 45)

abbrev pub Cut : Type 0
Cut = Option (Part × List Word)

abbrev pub if_value : Word → Part × List Word → Cut
if_value value cut = cond (is_value value) (Some cut) None

abbrev pub cut_two : OptionName → List Word → Cut
cut_two name [] = None
cut_two name (value ∷ rest) = if_value value (TwoWords name value, rest)

abbrev pub cut_by : Option OptionName → Option Word → Word → List Word → Cut
cut_by None behind word rest = if_value word (Plain word, rest)
cut_by (Some name) (Some value) word rest = if_value value (OneWord name value, rest)
cut_by (Some name) None word rest = cut_two name rest

-- the first part of words, and the words after it
abbrev pub first_part : List Word → Cut
first_part [] = None
first_part (word ∷ rest) = cut_by (flagged (at_equals word).0) (at_equals word).1 word rest

pub no_hyphen : (b : ℕ) → b ≢ 45 → nat_eq b 45 ≡ false
no_hyphen b h = grind (arith, nat_tests)

pub is_value-true : (word : Word) → IsValue word → is_value word ≡ true
is_value-true [] h = absurd h
is_value-true (b ∷ rest) h = rw (no_hyphen b h)

-- a word without a hyphen at the front is no option
plain_flagged : (b : ℕ) (rest : Word) → nat_eq b 45 ≡ false → flagged (at_equals (b ∷ rest)).0 ≡ None
plain_flagged b rest h = go (nat_eq b 61)
  where
    go :
        (t : Bool)
        → flagged
        (cond {A = Word × Option Word} t ([], Some rest) (b ∷ (at_equals rest).0, (at_equals rest).1)).0
        ≡ None
    go true = refl
    go false = rw h

-- a part at the front is cut off
pub first_part-words :
    (part : Part) (rest : List Word) → HasValue part → first_part (words_of part ++ rest) ≡ Some (part, rest)
first_part-words (OneWord Lots value) rest h =
    ap (λ b. cond b (Some (OneWord Lots value, rest)) None) (is_value-true value h)
first_part-words (OneWord Shards value) rest h =
    ap (λ b. cond b (Some (OneWord Shards value, rest)) None) (is_value-true value h)
first_part-words (OneWord Workers value) rest h =
    ap (λ b. cond b (Some (OneWord Workers value, rest)) None) (is_value-true value h)
first_part-words (TwoWords Lots value) rest h =
    ap (λ b. cond b (Some (TwoWords Lots value, rest)) None) (is_value-true value h)
first_part-words (TwoWords Shards value) rest h =
    ap (λ b. cond b (Some (TwoWords Shards value, rest)) None) (is_value-true value h)
first_part-words (TwoWords Workers value) rest h =
    ap (λ b. cond b (Some (TwoWords Workers value, rest)) None) (is_value-true value h)
first_part-words (Plain []) rest h = absurd h
first_part-words (Plain (b ∷ word)) rest h =
    ap (λ option. cut_by option (at_equals (b ∷ word)).1 (b ∷ word) rest) (plain_flagged b word (no_hyphen b h))
    ∙ ap (λ t. cond t (Some (Plain (b ∷ word), rest)) None) (is_value-true (b ∷ word) h)

-- what is cut off the front of words that begin with a part
cut_front :
    (p : Part) (words more rest : List Word) → HasValue p → words ≡ (words_of p ++ more) ++ rest
    → first_part words ≡ Some (p, more ++ rest)
cut_front p words more rest h e =
    ap first_part (e ∙ append_assoc (words_of p) more rest) ∙ first_part-words p (more ++ rest) h

-- parts at the front of the same words are the first parts of any others
pub parts_are_front :
    (front whole : List Part) (rest : List Word) → All HasValue front → All HasValue whole
    → flat_map words_of front ++ rest ≡ flat_map words_of whole
    → (behind : List Part) × (whole ≡ front ++ behind) × (rest ≡ flat_map words_of behind)
parts_are_front [] whole rest hf hw e = (whole, refl, e)
parts_are_front (p ∷ front) [] rest hf hw e =
    absurd (none-some (p, flat_map words_of front ++ rest)
    (cut_front p [] (flat_map words_of front) rest (All-head HasValue p front hf) (sym e)))
parts_are_front (p ∷ front) (q ∷ whole) rest hf hw e =
    let at_p =
    cut_front p (flat_map words_of (q ∷ whole)) (flat_map words_of front) rest
    (All-head HasValue p front hf) (sym e) in
    let at_q = first_part-words q (flat_map words_of whole) (All-head HasValue q whole hw) in
    let same = some_pair_parts p q (flat_map words_of front ++ rest) (flat_map words_of whole) (sym at_p ∙ at_q) in
    let more = parts_are_front front whole rest (All-tail HasValue p front hf) (All-tail HasValue q whole hw) same.1 in
    (more.0, λ i. sym same.0 i ∷ more.1 i, more.2)

no_parts : (parts : List Part) → [] ≡ flat_map words_of parts → parts ≡ []
no_parts [] e = refl
no_parts (OneWord name value ∷ parts) e = cc
no_parts (TwoWords name value ∷ parts) e = cc
no_parts (Plain word ∷ parts) e = cc

-- words have one list of parts at most
pub same_parts :
    (parts others : List Part) → All HasValue parts → All HasValue others
    → flat_map words_of parts ≡ flat_map words_of others → parts ≡ others
same_parts parts others hp ho e =
    let front = parts_are_front parts others [] hp ho (append-nil (flat_map words_of parts) ∙ e) in
    sym (front.1 ∙ ap (λ behind. parts ++ behind) (no_parts front.0 front.2) ∙ append-nil parts)
