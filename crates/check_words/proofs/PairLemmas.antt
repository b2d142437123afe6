-- Words that are pairs, one pair after another.
use Rattle.std.proofs.Common.{◌≡◌, ◌≢◌, ◌≤◌, ◌+◌, ◌++◌, ◌∙◌, refl, sym, ap, subst, arith, append_assoc, append-nil, length-append}
use Rattle.std.proofs.Common.{map, true, cond, Bool, get_or, List, [], ◌∷◌, length, ℕ}
use Rattle.std.specs.List.{flat_map}
use Rattle.std.proofs.lemmas.Grind.{flat_map-append}
use Rattle.meek_words.specs.Numerals.{Word}
use Rattle.check_words.specs.Asks.{Asks, Says, IsOnce, IsAtMostOnce}
use Rattle.check_words.specs.Options.{flag_of, same_option}
use Rattle.check_words.specs.Pairs.{Said, words_of, only_at, values_of}
use Rattle.check_words.specs.Values.{values_in}
use Rattle.check_words.specs.declared.asked.Asked.{Asked}
use Rattle.check_words.specs.declared.check_option.CheckOption.{CheckOption}
use Rattle.check_words.specs.declared.check_option.CheckOption.TheVariants.{Lots, Rule, Places, Omega}
use Rattle.check_words.specs.declared.values.Values.{Values}

-- the letter after the hyphens
letter : Word → ℕ
letter word = get_or word 2 0

pub one_option : (one other : CheckOption) → flag_of one ≡ flag_of other → one ≡ other
unfolding letter
one_option Lots Lots e = refl
one_option Lots Rule e = absurd (omega (arith, ap letter e))
one_option Lots Places e = absurd (omega (arith, ap letter e))
one_option Lots Omega e = absurd (omega (arith, ap letter e))
one_option Rule Lots e = absurd (omega (arith, ap letter e))
one_option Rule Rule e = refl
one_option Rule Places e = absurd (omega (arith, ap letter e))
one_option Rule Omega e = absurd (omega (arith, ap letter e))
one_option Places Lots e = absurd (omega (arith, ap letter e))
one_option Places Rule e = absurd (omega (arith, ap letter e))
one_option Places Places e = refl
one_option Places Omega e = absurd (omega (arith, ap letter e))
one_option Omega Lots e = absurd (omega (arith, ap letter e))
one_option Omega Rule e = absurd (omega (arith, ap letter e))
one_option Omega Places e = absurd (omega (arith, ap letter e))
one_option Omega Omega e = refl

itself : (option : CheckOption) → same_option option option ≡ true
itself Lots = refl
itself Rule = refl
itself Places = refl
itself Omega = refl

-- Pairs at the front of words are those that the words begin with, and after them the words are pairs too.
pub behind_done :
    (done pairs : List Said) (rest : List Word) → flat_map words_of done ++ rest ≡ flat_map words_of pairs
    → (behind : List Said) × (pairs ≡ done ++ behind) × (rest ≡ flat_map words_of behind)
behind_done [] pairs rest e = (pairs, refl, e)
behind_done (s ∷ done) [] rest e = absurd cc
behind_done (s ∷ done) (p ∷ pairs) rest e =
    let flag : flag_of s.option ≡ flag_of p.option = cc in
    let option = one_option s.option p.option flag in
    let value : s.value ≡ p.value = cc in
    let left : flat_map words_of done ++ rest ≡ flat_map words_of pairs = cc in
    let more = behind_done done pairs rest left in
    (more.0, (λ i. record { option = sym option i; value = sym value i } ∷ more.1 i), more.2)

pub values-append :
    (one other : List Said) (option : CheckOption)
    → values_of (one ++ other) option ≡ values_of one option ++ values_of other option
values-append [] other option = refl
values-append (s ∷ one) other option =
    ap (λ (ws : List Word). only_at s.option s.value option ++ ws) (values-append one other option)
    ∙ sym (append_assoc (only_at s.option s.value option) (values_of one option) (values_of other option))

-- ---- the pairs so far

-- The words begin with these pairs, which have these values, and go on with a rest.
pub record IsReadUpTo (words rest : List Word) (values : Values) : Type 0 where
  pub done : List Said
  pub spelled : words ≡ flat_map words_of done ++ rest
  pub are : (option : CheckOption) → values_in values option ≡ values_of done option

-- one pair more
pub read_more :
    (words rest behind : List Word) (values more : Values) (option : CheckOption) (value : Word)
    → IsReadUpTo words rest values → rest ≡ flag_of option ∷ value ∷ behind
    → ((other : CheckOption) → values_in more other ≡ values_in values other ++ only_at option value other)
    → IsReadUpTo words behind more
read_more words rest behind values more option value so_far cut with = record {
  done = so_far.done ++ said ∷ [];
  spelled =
      so_far.spelled ∙ ap (λ (ws : List Word). flat_map words_of so_far.done ++ ws) cut
      ∙ sym (append_assoc (flat_map words_of so_far.done) (words_of said) behind)
      ∙ ap (λ (ws : List Word). ws ++ behind) (sym (flat_map-append words_of so_far.done (said ∷ [])));
  are = λ other. with other ∙ ap (λ (ws : List Word). ws ++ only_at option value other) (so_far.are other)
      ∙ ap (λ (ws : List Word). values_of so_far.done other ++ ws) (sym (append-nil (only_at option value other)))
      ∙ sym (values-append so_far.done (said ∷ []) other);
}
  where
    said : Said
    said = record { option = option; value = value }

-- ---- words that ask for nothing

pub some_words : {A : Type 0} (text : A → Word) (items : List A) → 1 ≤ length items → map text items ≢ []
some_words text [] some e = omega (arith, some)
some_words text (item ∷ items) some e = absurd cc

-- after the pairs so far no pair comes
pub no_pair :
    (words rest : List Word) (values : Values) → IsReadUpTo words rest values → rest ≢ []
    → ((option : CheckOption) (value : Word) (behind : List Word) → rest ≢ flag_of option ∷ value ∷ behind)
    → (asked : Asked) → ¬ Asks words asked
no_pair words rest values so_far some none asked asks = by behind.0 behind.2
  where
    behind : (behind : List Said) × (asks.pairs ≡ so_far.done ++ behind) × (rest ≡ flat_map words_of behind)
    behind = behind_done so_far.done asks.pairs rest (sym so_far.spelled ∙ asks.spelled)

    by : (behind : List Said) → rest ≡ flat_map words_of behind → ⊥
    by [] e = some e
    by (s ∷ more) e = none s.option s.value (flat_map words_of more) e

most_once : (D : Type 0) (P : Word → Type 0) (values : List Word) → IsAtMostOnce D P values → length values ≤ 1
most_once D P [] is = omega arith
most_once D P (word ∷ []) is = omega arith
most_once D P (word ∷ again ∷ values) is = absurd is

just_once : (P : Word → Type 0) (values : List Word) → IsOnce P values → length values ≤ 1
just_once P [] is = absurd is
just_once P (word ∷ []) is = omega arith
just_once P (word ∷ again ∷ values) is = absurd is

-- each option comes once at most
said_once :
    (values : CheckOption → List Word) (asked : Asked) → Says values asked → (option : CheckOption)
    → length (values option) ≤ 1
said_once values asked says Lots = just_once _ (values Lots) says.lots
said_once values asked says Rule = most_once _ _ (values Rule) says.rule
said_once values asked says Places = most_once _ _ (values Places) says.places
said_once values asked says Omega = most_once _ _ (values Omega) says.omega

some_length : (values : List Word) → values ≢ [] → 1 ≤ length values
some_length [] some = absurd (some refl)
some_length (word ∷ values) some = omega arith

-- after the pairs so far an option comes that stood before
pub stands_twice :
    (words rest behind : List Word) (values : Values) (option : CheckOption) (value : Word)
    → IsReadUpTo words rest values → rest ≡ flag_of option ∷ value ∷ behind → values_in values option ≢ []
    → (asked : Asked) → ¬ Asks words asked
stands_twice words rest behind values option value so_far cut stood asked asks = by left.0 left.1 left.2
  where
    left : (left : List Said) × (asks.pairs ≡ so_far.done ++ left) × (rest ≡ flat_map words_of left)
    left = behind_done so_far.done asks.pairs rest (sym so_far.spelled ∙ asks.spelled)

    before : 1 ≤ length (values_of so_far.done option)
    before =
        subst (λ (ws : List Word). 1 ≤ length ws) (so_far.are option) (some_length (values_in values option) stood)

    here : (s : Said) → flag_of s.option ≡ flag_of option → only_at s.option s.value option ≡ s.value ∷ []
    here s flag =
        ap (λ (o : CheckOption). only_at o s.value option) (one_option s.option option flag)
        ∙ ap (λ (t : Bool). cond t (s.value ∷ []) []) (itself option)

    by : (left : List Said) → asks.pairs ≡ so_far.done ++ left → rest ≡ flat_map words_of left → ⊥
    by [] same e = let none : flag_of option ∷ value ∷ behind ≡ [] = sym cut ∙ e in absurd cc
    by (s ∷ more) same e =
        let flag : flag_of s.option ≡ flag_of option = ap (λ (ws : List Word). get_or ws 0 []) (sym e ∙ cut) in
        let all =
        ap (λ (ps : List Said). length (values_of ps option)) same
        ∙ ap length (values-append so_far.done (s ∷ more) option)
        ∙ length-append (values_of so_far.done option) (values_of (s ∷ more) option) in
        let mine =
        length-append (only_at s.option s.value option) (values_of more option)
        ∙ ap (λ (ws : List Word). length ws + length (values_of more option)) (here s flag) in
        omega (arith, said_once (values_of asks.pairs) asked asks.says option, all, mine, before)
