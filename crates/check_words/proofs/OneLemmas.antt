-- Words ask for one thing at most.
use Rattle.std.proofs.Common.{IfOk, Ok, Err, Result, if◌then◌else◌, ◌==◌, ◌≡◌, ◌∙◌, ◌++◌, refl, sym, ap, subst, arith, append-nil, get_or, ℕ, List, [], ◌∷◌}
use Rattle.std.specs.List.{flat_map}
use Rattle.meek_words.specs.Numerals.{Word, HaveOneLotList, IsLotList}
use Rattle.meek_words.specs.declared.words_stop.WordsStop.{WordsStop}
use Rattle.check_words.specs.Asks.{Asks, Says, AreLots, IsRule, IsOmega, ArePlaces, IsOnce, IsAtMostOnce, SaysOmega, places_word, rule_word}
use Rattle.check_words.specs.Laws.{AskOneThing}
use Rattle.check_words.specs.Pairs.{Said, words_of, values_of}
use Rattle.check_words.specs.Values.{AreValuesOf, values_in}
use Rattle.check_words.specs.declared.values.Values.{Values}
use Rattle.check_words.specs.declared.asked.Asked.{Asked}
use Rattle.check_words.specs.declared.check_option.CheckOption.{CheckOption}
use Rattle.check_words.specs.declared.check_option.CheckOption.TheVariants as options
use Rattle.check_words.specs.declared.count_rule.CountRule.{CountRule}
use Rattle.check_words.specs.declared.count_rule.CountRule.TheVariants.{Meek, Warren}
use Rattle.check_words.specs.declared.places.Places.{Places}
use Rattle.check_words.specs.declared.places.Places.TheVariants.{Six, Seven, Eight, Nine}
use Rattle.fixed_place.specs.declared.omega.TheConstants.{USUAL_OMEGA}
use Rattle.check_words.proofs.PairLemmas.{behind_done}

-- words are pairs in one way
pub same_pairs : (one other : List Said) → flat_map words_of one ≡ flat_map words_of other → other ≡ one
same_pairs one other e = by left.0 left.1 left.2
  where
    left : (left : List Said) × (other ≡ one ++ left) × ([] ≡ flat_map words_of left)
    left = behind_done one other [] (append-nil (flat_map words_of one) ∙ e)

    by : (left : List Said) → other ≡ one ++ left → [] ≡ flat_map words_of left → other ≡ one
    by [] same none = same ∙ append-nil one
    by (s ∷ more) same none = absurd cc

one_rule : (one other : CountRule) → rule_word one ≡ rule_word other → one ≡ other
one_rule Meek Meek e = refl
one_rule Meek Warren e = absurd (omega (arith, ap (λ (w : Word). get_or w 0 0) e))
one_rule Warren Meek e = absurd (omega (arith, ap (λ (w : Word). get_or w 0 0) e))
one_rule Warren Warren e = refl

-- the digit that a number of places is
digit_of : Places → ℕ
digit_of places = get_or (places_word places) 0 0

by_digit : ℕ → Places
by_digit digit = if digit == 54 then Six else if digit == 55 then Seven else if digit == 56 then Eight else Nine

by_its_digit : (places : Places) → by_digit (digit_of places) ≡ places
unfolding digit_of by_digit
by_its_digit Six = refl
by_its_digit Seven = refl
by_its_digit Eight = refl
by_its_digit Nine = refl

one_places : (one other : Places) → places_word one ≡ places_word other → one ≡ other
unfolding digit_of
one_places one other e =
    sym (by_its_digit one) ∙ (ap (λ (w : Word). by_digit (get_or w 0 0)) e ∙ by_its_digit other)

-- what is said by one word, or by none
module _ {A : Type 0} (Is : A → Word → Type 0) (Once : (word : Word) (a b : A) → Is a word → Is b word → a ≡ b) where
  one_at_most :
      (default : A) (values : List Word) (a b : A) → IsAtMostOnce (a ≡ default) (Is a) values
      → IsAtMostOnce (b ≡ default) (Is b) values → a ≡ b
  one_at_most default [] a b one other = one ∙ sym other
  one_at_most default (word ∷ []) a b one other = Once word a b one other
  one_at_most default (word ∷ again ∷ values) a b one other = absurd one

  one_once : (values : List Word) (a b : A) → IsOnce (Is a) values → IsOnce (Is b) values → a ≡ b
  one_once [] a b one other = absurd one
  one_once (word ∷ []) a b one other = Once word a b one other
  one_once (word ∷ again ∷ values) a b one other = absurd one

pub says_one :
    HaveOneLotList → (values : CheckOption → List Word) (one other : Asked) → Says values one → Says values other → one ≡ other
says_one lists values one other is also =
    let lots =
    one_once (λ (l : List ℕ) (word : Word). IsLotList word l) lists (values options.Lots) one.lots other.lots
    is.lots also.lots in
    let rule =
    one_at_most (λ (r : CountRule) (word : Word). word ≡ rule_word r)
    (λ word a b p q. one_rule a b (sym p ∙ q)) Meek (values options.Rule) one.rule other.rule is.rule also.rule in
    let places =
    one_at_most (λ (p : Places) (word : Word). word ≡ places_word p)
    (λ word a b p q. one_places a b (sym p ∙ q)) Nine (values options.Places) one.places other.places is.places
    also.places in
    let omega_of =
    one_at_most (λ (o : ℕ) (word : Word). SaysOmega word o) (λ word a b p q. p.1 ∙ sym q.1) USUAL_OMEGA
    (values options.Omega) one.omega other.omega is.omega also.omega in
    λ i. record { lots = lots i; rule = rule i; places = places i; omega = omega_of i }

pub ask_one_thing : HaveOneLotList → AskOneThing
ask_one_thing lists words one other is also =
    let same = same_pairs is.pairs also.pairs (sym is.spelled ∙ also.spelled) in
    says_one lists (values_of is.pairs) one other is.says
    (subst (λ (ps : List Said). Says (values_of ps) other) same also.says)

-- ---- what was read

same_values :
    (one other : CheckOption → List Word) → ((option : CheckOption) → one option ≡ other option) → (asked : Asked)
    → Says one asked → Says other asked
same_values one other same asked says = record {
  lots = subst (λ (ws : List Word). AreLots ws asked.lots) (same options.Lots) says.lots;
  rule = subst (λ (ws : List Word). IsRule ws asked.rule) (same options.Rule) says.rule;
  places = subst (λ (ws : List Word). ArePlaces ws asked.places) (same options.Places) says.places;
  omega = subst (λ (ws : List Word). IsOmega ws asked.omega) (same options.Omega) says.omega;
}

-- what the values of the words say is what the words ask for
pub asks_of :
    (words : List Word) (values : Values) (asked : Asked) → AreValuesOf words values → Says (values_in values) asked
    → Asks words asked
asks_of words values asked are says = record {
  pairs = are.pairs;
  spelled = are.spelled;
  says = same_values (values_in values) (values_of are.pairs) are.are asked says;
}

pub says_of :
    (words : List Word) (values : Values) (asked : Asked) → AreValuesOf words values → Asks words asked
    → Says (values_in values) asked
says_of words values asked are asks =
    same_values (values_of are.pairs) (values_in values) (λ option. sym (are.are option)) asked
    (subst (λ (ps : List Said). Says (values_of ps) asked)
    (same_pairs are.pairs asks.pairs (sym are.spelled ∙ asks.spelled)) asks.says)

-- so what is read is what the words ask for
pub read_one :
    AskOneThing → (words : List Word) (values : Values) (asked : Asked) (read : Result Asked WordsStop)
    → AreValuesOf words values → Asks words asked → IfOk read (λ it. Says (values_in values) it) → IfOk read (λ it. it ≡ asked)
read_one one words values asked (Ok it) are asks says = one words it asked (asks_of words values it are says) asks
read_one one words values asked (Err stop) are asks says = tt {0}
