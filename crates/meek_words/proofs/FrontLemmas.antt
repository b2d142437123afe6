-- The parts that were cut off the front of words, and what stood among them.
use Rattle.std.proofs.Common.{◌≡◌, ◌≢◌, ◌≤◌, ◌+◌, Bool, true, false, not, cond, ◌||◌, List, [], ◌∷◌, ◌++◌}
use Rattle.std.proofs.Common.{length, map, Option, Some, None, refl, sym, ap, ◌∙◌, arith, All, filter}
use Rattle.std.proofs.Common.{true≢false, subst, nat_eq}
use Rattle.std.specs.List.{flat_map}
use Rattle.std.proofs.lemmas.List.{append_assoc, append-nil, length-append, map-append}
use Rattle.std.proofs.lemmas.List.Elements.{All-nil, All-push, All-head, All-tail, filter-append}
use Rattle.meek_words.specs.Numerals.{Word}
use Rattle.meek_words.specs.Parts.{Part, HasValue, AreParts, words_of, value_of, option_of, values_of, same_option}
use Rattle.meek_words.specs.Stands.{stands}
use Rattle.meek_words.specs.declared.stood.Stood.{Stood}
use Rattle.meek_words.specs.declared.option_name.OptionName.{OptionName}
use Rattle.meek_words.specs.declared.option_name.OptionName.TheVariants.{Lots, Shards, Workers}
use Rattle.meek_words.proofs.CutLemmas.{parts_are_front}

-- the words are the parts done and the rest
pub record IsFront (words : List Word) (done : List Part) (rest : List Word) : Type 0 where
  pub spelled : words ≡ flat_map words_of done ++ rest
  pub values : All HasValue done

-- each option stood once or not at all
abbrev pub StoodOnce : Stood → List Part → Type 0
StoodOnce stood done = (option : Option OptionName) → length (values_of option done) ≡ cond (stands stood option) 1 0

pub no_front : (words : List Word) → IsFront words [] words
no_front words = record { spelled = refl; values = All-nil HasValue }

pub flat_map-append : (xs ys : List Part) → flat_map words_of (xs ++ ys) ≡ flat_map words_of xs ++ flat_map words_of ys
flat_map-append [] ys = refl
flat_map-append (x ∷ xs) ys =
    ap (λ words. words_of x ++ words) (flat_map-append xs ys)
    ∙ sym (append_assoc (words_of x) (flat_map words_of xs) (flat_map words_of ys))

pub front_more :
    (words : List Word) (done : List Part) (rest behind : List Word) (part : Part) → IsFront words done rest
    → HasValue part → rest ≡ words_of part ++ behind
    → IsFront words (done ++ part ∷ []) behind
front_more words done rest behind part front value cut = record {
  spelled =
      front.spelled ∙ ap (λ words. flat_map words_of done ++ words) cut
      ∙ sym (append_assoc (flat_map words_of done) (words_of part) behind)
      ∙ ap (λ words. words ++ behind) (sym (flat_map-append done (part ∷ [])
      ∙ ap (λ words. flat_map words_of done ++ words) (append-nil (words_of part))));
  values = All-push HasValue done part front.values value;
}

pub values_of-append :
    (option : Option OptionName) (xs ys : List Part)
    → values_of option (xs ++ ys) ≡ values_of option xs ++ values_of option ys
values_of-append option xs ys =
    let p : Part → Bool = λ part. same_option option (option_of part) in
    ap (map value_of) (filter-append p xs ys) ∙ map-append value_of (filter p xs) (filter p ys)

pub count_push :
    (option : Option OptionName) (done : List Part) (part : Part)
    → length (values_of option (done ++ part ∷ []))
    ≡ length (values_of option done) + cond (same_option option (option_of part)) 1 0
count_push option done part =
    ap length (values_of-append option done (part ∷ []))
    ∙ length-append (values_of option done) (values_of option (part ∷ []))
    ∙ ap (λ n. length (values_of option done) + n) (one (same_option option (option_of part)))
  where
    one : (b : Bool) → length (map value_of (cond b (part ∷ []) [])) ≡ cond b 1 0
    one true = refl
    one false = refl

pub same_option-true : (one other : Option OptionName) → same_option one other ≡ true → one ≡ other
same_option-true (Some Lots) (Some Lots) e = refl
same_option-true (Some Shards) (Some Shards) e = refl
same_option-true (Some Workers) (Some Workers) e = refl
same_option-true None None e = refl
same_option-true one other e = absurd (true≢false (sym e))

pub same_option-refl : (option : Option OptionName) → same_option option option ≡ true
same_option-refl (Some Lots) = refl
same_option-refl (Some Shards) = refl
same_option-refl (Some Workers) = refl
same_option-refl None = refl

sum_of_marks : (a b : Bool) → (b ≡ true → a ≡ false) → cond a 1 0 + cond b 1 0 ≡ cond (a || b) 1 0
sum_of_marks true true apart = absurd (true≢false (apart refl))
sum_of_marks true false apart = refl
sum_of_marks false true apart = refl
sum_of_marks false false apart = refl

pub once_more : (old new : Stood) (done : List Part) (part : Part) → StoodOnce old done → stands old (option_of part) ≡ false
    → ((other : Option OptionName)
    → stands new other ≡ (stands old other || same_option other (option_of part)))
    → StoodOnce new (done ++ part ∷ [])
once_more old new done part once first noted option =
    count_push option done part ∙ ap (λ n. n + cond (same_option option (option_of part)) 1 0) (once option)
    ∙ sum_of_marks (stands old option) (same_option option (option_of part))
    (λ e. ap (stands old) (same_option-true option (option_of part) e) ∙ first)
    ∙ ap (λ b. cond b 1 0) (sym (noted option))

-- what stood and stands again comes twice
pub twice :
    (stood : Stood) (done behind : List Part) (part : Part) → StoodOnce stood done
    → stands stood (option_of part) ≡ true
    → length (values_of (option_of part) ((done ++ part ∷ []) ++ behind)) ≤ 1 → ⊥
twice stood done behind part once again few =
    let option = option_of part in
    let one : length (values_of option done) ≡ 1 = once option ∙ ap (λ b. cond b 1 0) again in
    let two : length (values_of option (done ++ part ∷ [])) ≡ length (values_of option done) + 1 =
    count_push option done part ∙ ap (λ b. length (values_of option done) + cond b 1 0) (same_option-refl option) in
    let all =
    ap length (values_of-append option (done ++ part ∷ []) behind)
    ∙ length-append (values_of option (done ++ part ∷ [])) (values_of option behind) in
    omega (arith, one, two, all, few)

-- what is left after a front of parts is parts
pub parts_left :
    (words : List Word) (done parts : List Part) (rest : List Word) → IsFront words done rest
    → AreParts words parts
    → (behind : List Part) × (parts ≡ done ++ behind) × (rest ≡ flat_map words_of behind)
parts_left words done parts rest front whole =
    parts_are_front done parts rest front.values whole.values (sym front.spelled ∙ whole.spelled)

All-last : (xs ys : List Part) → All HasValue (xs ++ ys) → All HasValue ys
All-last [] ys h = h
All-last (x ∷ xs) ys h = All-last xs ys (All-tail HasValue x (xs ++ ys) h)

-- where no part can be cut off words that are not empty, they are no parts
pub none_left : (words : List Word) (done parts : List Part) (rest : List Word) → IsFront words done rest → rest ≢ []
    → ((part : Part) (behind : List Word) → HasValue part → rest ≢ words_of part ++ behind) → AreParts words parts → ⊥
none_left words done parts rest front more none whole = go (parts_left words done parts rest front whole)
  where
    go : (behind : List Part) × (parts ≡ done ++ behind) × (rest ≡ flat_map words_of behind) → ⊥
    go ([], split, words) = more words
    go (part ∷ behind, split, words) =
        none part (flat_map words_of behind) (All-head HasValue part behind
        (All-last done (part ∷ behind) (subst (All HasValue) split whole.values))) words

pub some_words : {A B : Type 0} (f : A → B) (xs : List A) → nat_eq (length xs) 0 ≡ false → map f xs ≢ []
some_words f [] e = absurd (true≢false e)
some_words f (x ∷ xs) e = λ none. cc

pub not-false : (b : Bool) → not b ≡ false → b ≡ true
not-false true e = refl
not-false false e = absurd (true≢false e)

pub not-true : (b : Bool) → not b ≡ true → b ≡ false
not-true true e = absurd (true≢false (sym e))
not-true false e = refl
