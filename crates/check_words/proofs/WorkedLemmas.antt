-- Words worked by hand.
use Rattle.std.proofs.Common.{◌≡◌, ◌≤◌, ◌+◌, ◌++◌, ◌∙◌, refl, sym, ap, subst, arith, get_or, ℕ, List, [], ◌∷◌}
use Rattle.std.proofs.Common.{length, codes, true}
use Rattle.std.specs.List.{flat_map, list_all}
use Rattle.std.specs.Char.{is_ascii_digit}
use Rattle.std.proofs.lemmas.List.Elements.{All-cons, All-nil}
use Rattle.std.proofs.lemmas.List.Sums.{AllPass-from_list_all}
use Rattle.meek_words.specs.Numerals.{Word, IsNumeral, IsNumeralUpTo, IsLotList, number_of}
use Rattle.check_words.specs.Asks.{Says, places_word, rule_word}
use Rattle.check_words.specs.Options.{flag_of}
use Rattle.check_words.specs.Pairs.{Said, words_of, values_of}
use Rattle.check_words.specs.Worked.{AskNothing, AcceptedWords, RefusedWords, lots, rule, places_are, omega_is}
use Rattle.check_words.specs.declared.asked.Asked.{Asked}
use Rattle.check_words.specs.declared.check_option.CheckOption.{CheckOption}
use Rattle.check_words.specs.declared.check_option.CheckOption.TheVariants.{Lots, Rule, Places as PlacesOption, Omega}
use Rattle.check_words.specs.declared.count_rule.CountRule.{CountRule}
use Rattle.check_words.specs.declared.count_rule.CountRule.TheVariants.{Meek, Warren}
use Rattle.check_words.specs.declared.places.Places.{Places}
use Rattle.check_words.specs.declared.places.Places.TheVariants.{Six, Seven, Eight, Nine}
use Rattle.check_words.proofs.OneLemmas.{same_pairs}

abbrev said : CheckOption → Word → Said
said option value = record { option = option; value = value }

-- words that are pairs ask for nothing where these say nothing
refused :
    (words : List Word) (pairs : List Said) → words ≡ flat_map words_of pairs
    → ((asked : Asked) → Says (values_of pairs) asked → ⊥) → AskNothing words
refused words pairs spelled nothing asked asks =
    nothing asked
    (subst (λ (ps : List Said). Says (values_of ps) asked)
    (same_pairs pairs asks.pairs (sym spelled ∙ asks.spelled)) asks.says)

-- pairs are an even number of words
even : (pairs : List Said) → length (flat_map words_of pairs) ≡ length pairs + length pairs
even [] = refl
even (s ∷ pairs) = omega (arith, even pairs)

no_rule_word : (rule : CountRule) → codes "Meek" ≡ rule_word rule → ⊥
no_rule_word Meek e = omega (arith, ap (λ (w : Word). get_or w 0 0) e)
no_rule_word Warren e = omega (arith, ap (λ (w : Word). get_or w 0 0) e)

not_five : (places : Places) → codes "5" ≡ places_word places → ⊥
not_five Six e = omega (arith, ap (λ (w : Word). get_or w 0 0) e)
not_five Seven e = omega (arith, ap (λ (w : Word). get_or w 0 0) e)
not_five Eight e = omega (arith, ap (λ (w : Word). get_or w 0 0) e)
not_five Nine e = omega (arith, ap (λ (w : Word). get_or w 0 0) e)

not_two_digits : (word : Word) → length word ≡ 2 → (places : Places) → word ≡ places_word places → ⊥
not_two_digits word two Six e = omega (arith, two, ap length e)
not_two_digits word two Seven e = omega (arith, two, ap length e)
not_two_digits word two Eight e = omega (arith, two, ap length e)
not_two_digits word two Nine e = omega (arith, two, ap length e)

no_flag : (option : CheckOption) → codes "--place" ≡ flag_of option → ⊥
no_flag Lots e = omega (arith, ap (λ (w : Word). get_or w 2 0) e)
no_flag Rule e = omega (arith, ap (λ (w : Word). get_or w 2 0) e)
no_flag PlacesOption e = omega (arith, ap length e)
no_flag Omega e = omega (arith, ap (λ (w : Word). get_or w 2 0) e)

-- the third of some words is an option, where they are pairs
third : (words : List Word) (pairs : List Said) → 3 ≤ length words → words ≡ flat_map words_of pairs
    → (option : CheckOption) × (get_or words 2 [] ≡ flag_of option)
third words [] long e = absurd (omega (arith, long, ap length e))
third words (s ∷ []) long e = absurd (omega (arith, long, ap length e))
third words (s ∷ t ∷ pairs) long e = (t.option, ap (λ (ws : List Word). get_or ws 2 []) e)

pub refused_words : RefusedWords
refused_words = record {
  none = refused [] [] refl (λ asked says. says.lots);
  no_lots = refused (rule (codes "warren")) (said Rule (codes "warren") ∷ []) refl (λ asked says. says.lots);
  lots_twice =
      refused (lots (codes "1,2") ++ lots (codes "1,2")) (said Lots (codes "1,2") ∷ said Lots (codes "1,2") ∷ []) refl
      (λ asked says. says.lots);
  rule_twice =
      refused (lots (codes "1,2") ++ rule (codes "meek") ++ rule (codes "warren"))
      (said Lots (codes "1,2") ∷ said Rule (codes "meek") ∷ said Rule (codes "warren") ∷ []) refl
      (λ asked says. says.rule);
  no_rule =
      refused (lots (codes "1,2") ++ rule (codes "Meek")) (said Lots (codes "1,2") ∷ said Rule (codes "Meek") ∷ []) refl
      (λ asked says. no_rule_word asked.rule says.rule);
  places_twice =
      refused (lots (codes "1,2") ++ places_are (codes "9") ++ places_are (codes "9"))
      (said Lots (codes "1,2") ∷ said PlacesOption (codes "9") ∷ said PlacesOption (codes "9") ∷ []) refl
      (λ asked says. says.places);
  five_places =
      refused (lots (codes "1,2") ++ places_are (codes "5"))
      (said Lots (codes "1,2") ∷ said PlacesOption (codes "5") ∷ []) refl
      (λ asked says. not_five asked.places says.places);
  ten_places =
      refused (lots (codes "1,2") ++ places_are (codes "10"))
      (said Lots (codes "1,2") ∷ said PlacesOption (codes "10") ∷ []) refl
      (λ asked says. not_two_digits (codes "10") refl asked.places says.places);
  no_zero_before =
      refused (lots (codes "1,2") ++ places_are (codes "09"))
      (said Lots (codes "1,2") ∷ said PlacesOption (codes "09") ∷ []) refl
      (λ asked says. not_two_digits (codes "09") refl asked.places says.places);
  omega_of_nothing =
      refused (lots (codes "1,2") ++ omega_is (codes "0")) (said Lots (codes "1,2") ∷ said Omega (codes "0") ∷ []) refl
      (λ asked says. let value : number_of (codes "0") ≡ 0 = refl in omega (arith, says.omega.0.least, value));
  a_unit_too_many =
      refused (lots (codes "1,2") ++ omega_is (codes "1000001"))
      (said Lots (codes "1,2") ∷ said Omega (codes "1000001") ∷ []) refl
      (λ asked says.
      let value : number_of (codes "1000001") ≡ 1000001 = refl in omega (arith, says.omega.0.most, value));
  no_value = λ asked asks. omega (arith, ap length asks.spelled, even asks.pairs);
  another_option = λ asked asks.
      let flag =
      third (lots (codes "1,2") ++ codes "--place" ∷ codes "9" ∷ []) asks.pairs (omega arith) asks.spelled in
      no_flag flag.0 flag.1;
}

-- ---- words that ask for something

numeral :
    (word : Word) (n : ℕ) → list_all is_ascii_digit word ≡ true → 1 ≤ length word → length word ≤ 9 → number_of word ≡ n
    → 1 ≤ n → n ≤ 1000000 → IsNumeralUpTo 1000000 word
numeral word n digits some short value least most = record {
  numeral = record { some = some; short = short; digits = AllPass-from_list_all is_ascii_digit word digits };
  least = omega (arith, value, least);
  most = omega (arith, value, most);
}

two_one : IsLotList (codes "2,1") (2 ∷ 1 ∷ [])
two_one = record {
  parts = codes "2" ∷ codes "1" ∷ [];
  joined = refl;
  numerals =
      All-cons IsNumeral (codes "2") (codes "1" ∷ []) two.numeral
      (All-cons IsNumeral (codes "1") [] one.numeral (All-nil IsNumeral));
  numbers = refl;
  some = omega arith;
  most = omega arith;
}
  where
    one : IsNumeralUpTo 1000000 (codes "1")
    one = numeral (codes "1") 1 refl (omega arith) (omega arith) refl (omega arith) (omega arith)

    two : IsNumeralUpTo 1000000 (codes "2")
    two = numeral (codes "2") 2 refl (omega arith) (omega arith) refl (omega arith) (omega arith)

pub accepted_words : AcceptedWords
accepted_words = record {
  lots_alone = record {
    pairs = said Lots (codes "2,1") ∷ [];
    spelled = refl;
    says = record { lots = two_one; rule = refl; places = refl; omega = refl };
  };
  six_places = record {
    pairs = said PlacesOption (codes "6") ∷ said Lots (codes "2,1") ∷ [];
    spelled = refl;
    says = record { lots = two_one; rule = refl; places = refl; omega = refl };
  };
  seven_places = record {
    pairs = said PlacesOption (codes "7") ∷ said Lots (codes "2,1") ∷ [];
    spelled = refl;
    says = record { lots = two_one; rule = refl; places = refl; omega = refl };
  };
  eight_places = record {
    pairs = said Lots (codes "2,1") ∷ said PlacesOption (codes "8") ∷ [];
    spelled = refl;
    says = record { lots = two_one; rule = refl; places = refl; omega = refl };
  };
  usual_said = record {
    pairs = said Lots (codes "2,1") ∷ said Rule (codes "meek") ∷ said PlacesOption (codes "9") ∷ said Omega (codes "1000") ∷ [];
    spelled = refl;
    says = record {
      lots = two_one;
      rule = refl;
      places = refl;
      omega = (numeral (codes "1000") 1000 refl (omega arith) (omega arith) refl (omega arith) (omega arith), refl);
    };
  };
  least_omega = record {
    pairs = said Lots (codes "2,1") ∷ said Omega (codes "1") ∷ [];
    spelled = refl;
    says = record {
      lots = two_one;
      rule = refl;
      places = refl;
      omega = (numeral (codes "1") 1 refl (omega arith) (omega arith) refl (omega arith) (omega arith), refl);
    };
  };
  other_order = record {
    pairs = said Omega (codes "1000000") ∷ said Rule (codes "warren") ∷ said Lots (codes "2,1") ∷ [];
    spelled = refl;
    says = record {
      lots = two_one;
      rule = refl;
      places = refl;
      omega = (
        numeral (codes "1000000") 1000000 refl (omega arith) (omega arith) refl (omega arith) (omega arith),
        refl,
      );
    };
  };
}
