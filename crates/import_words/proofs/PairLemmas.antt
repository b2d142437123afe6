-- Words that are pairs, one pair after another.
use Rattle.std.proofs.Common.{◌≡◌, ◌≢◌, ◌++◌, ◌∙◌, refl, sym, ap, subst, arith, false, List, [], ◌∷◌, length, map, drop, All}
use Rattle.std.specs.Prelude.{nat_eq}
use Rattle.std.specs.List.{flat_map}
use Rattle.std.proofs.lemmas.Bool.{true≢false}
use Rattle.std.proofs.lemmas.List.{map-append}
use Rattle.std.proofs.lemmas.List.Elements.{All-head, All-tail, All-push}
use Rattle.meek_words.specs.Numerals.{Word}
use Rattle.import_words.specs.Options.{flag_of}
use Rattle.import_words.specs.Pairs.{ArePairs, Said, words_of}
use Rattle.import_words.specs.Values.{pairs_in, said_in}
use Rattle.import_words.specs.declared.import_option.ImportOption.{ImportOption}
use Rattle.import_words.specs.declared.pair.Pair.{Pair}

abbrev pub HasValue : Said → Type 0
HasValue said = said.value ≢ []

-- after a pair the words are pairs too
pub left_more :
    (rest : List Word) (option : ImportOption) (value : Word) (behind : List Word)
    → rest ≡ flag_of option ∷ value ∷ behind → (pairs : List Said) × ArePairs rest pairs
    → (pairs : List Said) × ArePairs behind pairs
left_more rest option value behind cut ([], are) = absurd (omega (arith, ap length (sym cut ∙ are.spelled)))
left_more rest option value behind cut (said ∷ pairs, are) = (
  pairs,
  record {
    spelled = ap (λ (ws : List Word). drop 2 ws) (sym cut ∙ are.spelled);
    values = All-tail HasValue said pairs are.values;
  },
)

-- words of which no pair can be cut off are no pairs
pub none_left :
    (rest : List Word) → rest ≢ []
    → ((said : Said) (behind : List Word) → said.value ≢ []
    → rest ≢ flag_of said.option ∷ said.value ∷ behind)
    → (pairs : List Said) × ArePairs rest pairs → ⊥
none_left rest more none ([], are) = more are.spelled
none_left rest more none (said ∷ pairs, are) =
    none said (flat_map words_of pairs) (All-head HasValue said pairs are.values) are.spelled

pub front_more :
    (done : List Pair) (pair : Pair) (behind : List Word)
    → flat_map words_of (pairs_in done) ++ flag_of pair.option ∷ pair.value.now ∷ behind
    ≡ flat_map words_of (pairs_in (done ++ pair ∷ [])) ++ behind
front_more [] pair behind = refl
front_more (p ∷ done) pair behind =
    ap (λ (ws : List Word). flag_of p.option ∷ p.value.now ∷ ws) (front_more done pair behind)

pub values_more :
    (done : List Pair) (pair : Pair) → All HasValue (pairs_in done) → pair.value.now ≢ []
    → All HasValue (pairs_in (done ++ pair ∷ []))
values_more done pair values has =
    subst (All HasValue) (sym (map-append said_in done (pair ∷ [])))
    (All-push HasValue (pairs_in done) (said_in pair) values has)

pub some_words : {A B : Type 0} (f : A → B) (xs : List A) → nat_eq (length xs) 0 ≡ false → map f xs ≢ []
some_words f [] e = absurd (true≢false e)
some_words f (x ∷ xs) e = λ none. omega (arith, ap length none)
