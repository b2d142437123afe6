-- Words ask for one thing at most.
use Rattle.std.proofs.Common.{◌≡◌, ◌∙◌, refl, sym, ap, subst, codes, ℕ, Option, Some, None, List, [], ◌∷◌, ◌++◌, inl, inr, ◌-◌}
use Rattle.std.specs.List.{flat_map}
use Rattle.candidate_roll.specs.declared.limits.TheConstants.{MOST_TITLE_BYTES}
use Rattle.meek_words.specs.Numerals.{Word, HaveOneLotList, IsLotList, IsNumeralUpTo, number_of}
use Rattle.candidate_roll.specs.Name.{IsName}
use Rattle.ballot_marks.specs.declared.choice.Treat.{Treat}
use Rattle.ballot_marks.specs.declared.choice.Treat.TheVariants as treats
use Rattle.ballot_marks.specs.declared.treatment.Treatment.{Treatment}
use Rattle.import_words.specs.Pairs.{ArePairs, Given, Said, given_of, words_of}
use Rattle.import_words.specs.Options.{flag_of}
use Rattle.import_words.specs.Settings.{IsAtMostOnce, IsOnce, IsCount, IsDigit, SaysHead, SaysSkipped, IsSeparator, IsTreatment}
use Rattle.import_words.specs.Settings.{layout_word, output_word, treat_word, rows_word, separator_word, head_word}
use Rattle.import_words.specs.Asks.{AreDistinguished, AreFor, AreRanks, Asks, IsRankList, IsWeight, Says, SaysCells, SaysRoll, SaysTable}
use Rattle.import_words.specs.Labels.{AreDifferent}
use Rattle.import_words.specs.Laws.{AskOneThing}
use Rattle.plain_ballots.specs.declared.limits.TheConstants.{MOST_CANDIDATES}
use Rattle.import_words.specs.declared.layout.Layout.TheVariants as layouts
use Rattle.import_words.specs.declared.output.Output.TheVariants as outputs
use Rattle.import_words.specs.declared.empty_rows.EmptyRows.TheVariants as rows
use Rattle.import_words.specs.declared.head_names.HeadNames.TheVariants as heads
use Rattle.import_words.specs.declared.head_words.HeadWords.{HeadWords}
use Rattle.import_words.specs.declared.head_words.HeadWords.TheVariants as head_words
use Rattle.import_words.specs.declared.separator.Separator.{Separator}
use Rattle.import_words.specs.declared.asked.Asked.{Asked}
use Rattle.import_words.specs.declared.roll_words.RollWords.{RollWords}
use Rattle.import_words.specs.declared.table_words.TableWords.{TableWords}
use Rattle.import_words.specs.declared.cells.CellWords.{CellWords}
use Rattle.import_words.proofs.FoundLemmas.{one_option, one_layout, one_output, one_treat, one_rows, one_separator, one_head}

-- words are pairs in one way
pub same_pairs :
    (pairs others : List Said) → flat_map words_of pairs ≡ flat_map words_of others → pairs ≡ others
same_pairs [] [] e = refl
same_pairs [] (other ∷ others) e = cc
same_pairs (said ∷ pairs) [] e = cc
same_pairs (said ∷ pairs) (other ∷ others) e =
    let flag : flag_of said.option ≡ flag_of other.option = cc in
    let option = one_option said.option other.option flag in
    let value : said.value ≡ other.value = cc in
    let behind : flat_map words_of pairs ≡ flat_map words_of others = cc in
    let rest = same_pairs pairs others behind in
    λ i. record { option = option i; value = value i } ∷ rest i

-- what is said by one word, or by none
module _ {A : Type 0} (default : A) (Is : A → Word → Type 0)
    (Once : (word : Word) (a b : A) → Is a word → Is b word → a ≡ b) where
  pub one_at_most :
      (values : List Word) (a b : A) → IsAtMostOnce (a ≡ default) (Is a) values
      → IsAtMostOnce (b ≡ default) (Is b) values → a ≡ b
  one_at_most [] a b one other = one ∙ sym other
  one_at_most (word ∷ []) a b one other = Once word a b one other
  one_at_most (word ∷ again ∷ values) a b one other = absurd one

  pub one_once : (values : List Word) (a b : A) → IsOnce (Is a) values → IsOnce (Is b) values → a ≡ b
  one_once [] a b one other = absurd one
  one_once (word ∷ []) a b one other = Once word a b one other
  one_once (word ∷ again ∷ values) a b one other = absurd one

one_digit : (word : Word) (m n : ℕ) → IsDigit word m → IsDigit word n → m ≡ n
one_digit word m n one other =
    let same : one.digit ∷ [] ≡ other.digit ∷ [] = sym one.alone ∙ other.alone in
    let digit : one.digit ≡ other.digit = cc in
    one.value ∙ ap (λ d. d - 48) digit ∙ sym other.value

one_count : (word : Word) (m n : ℕ) → IsCount word m → IsCount word n → m ≡ n
one_count word m n one other =
    let same : one.digit ∷ [] ≡ other.digit ∷ [] = sym one.alone ∙ other.alone in
    let digit : one.digit ≡ other.digit = cc in
    one.value ∙ ap (λ d. d - 48) digit ∙ sym other.value

one_head_words : (word : Word) (a b : HeadWords) → SaysHead word a → SaysHead word b → a ≡ b
one_head_words word head_words.Unsaid b one other = absurd one
one_head_words word head_words.Absent head_words.Unsaid one other = absurd other
one_head_words word head_words.Absent head_words.Absent one other = refl
one_head_words word head_words.Absent (head_words.Records n) one other = let e = sym one ∙ other.alone in cc
one_head_words word (head_words.Records m) head_words.Unsaid one other = absurd other
one_head_words word (head_words.Records m) head_words.Absent one other = let e = sym one.alone ∙ other in cc
one_head_words word (head_words.Records m) (head_words.Records n) one other =
    ap (λ k. head_words.Records k) (one_count word m n one other)

one_skipped : (word : Word) (a b : Option ℕ) → SaysSkipped word a → SaysSkipped word b → a ≡ b
one_skipped word None None one other = refl
one_skipped word None (Some n) one (inl close) = let e = sym one ∙ close.0 in cc
one_skipped word None (Some n) one (inr digit) = let e = sym one ∙ digit.alone in cc
one_skipped word (Some m) None (inl close) other = let e = sym close.0 ∙ other in cc
one_skipped word (Some m) None (inr digit) other = let e = sym digit.alone ∙ other in cc
one_skipped word (Some m) (Some n) (inl close) (inl closed) = ap Some (close.1 ∙ sym closed.1)
one_skipped word (Some m) (Some n) (inl close) (inr digit) = let e = sym close.0 ∙ digit.alone in cc
one_skipped word (Some m) (Some n) (inr digit) (inl close) = let e = sym digit.alone ∙ close.0 in cc
one_skipped word (Some m) (Some n) (inr digit) (inr digits) = ap Some (one_digit word m n digit digits)

said_treat : (word : Word) (a b : Treat) → word ≡ treat_word a → word ≡ treat_word b → a ≡ b
said_treat word a b one other = one_treat a b (sym one ∙ other)

one_treatment : (given : Given) (a b : Treatment) → IsTreatment given a → IsTreatment given b → a ≡ b
one_treatment given a b one other =
    let skipped = one_at_most None (λ s word. SaysSkipped word s) one_skipped given.skipped a.skipped
    b.skipped
    one.0 other.0 in
    let equal = one_at_most treats.Refuse (λ t word. word ≡ treat_word t) said_treat given.equal a.equal
    b.equal
    one.1 other.1 in
    let repeated = one_at_most treats.Refuse (λ t word. word ≡ treat_word t) said_treat given.repeated
    a.repeated
    b.repeated one.2 other.2 in
    λ i. record { skipped = skipped i; equal = equal i; repeated = repeated i }

said_separator :
    (values : List Word) (a b : Option Separator) → IsSeparator values a → IsSeparator values b → a ≡ b
said_separator values None None one other = refl
said_separator values None (Some s) one other = let e = sym one ∙ other in cc
said_separator values (Some s) None one other = let e = sym one ∙ other in cc
said_separator values (Some s) (Some t) one other =
    let e = sym one ∙ other in
    let same : separator_word s ≡ separator_word t = cc in
    ap Some (one_separator s t same)

one_weight : (values : List Word) (a b : Option Word) → IsWeight values a → IsWeight values b → a ≡ b
one_weight values None None one other = refl
one_weight values None (Some s) one other = let e = sym one ∙ other.0 in cc
one_weight values (Some s) None one other = let e = sym one.0 ∙ other in cc
one_weight values (Some s) (Some t) one other = let e = sym one.0 ∙ other.0 in cc

pub one_ranks : (values : List Word) (a b : List Word) → AreRanks values a → AreRanks values b → a ≡ b
one_ranks values a b one other =
    one_at_most [] (λ r word. IsRankList word r) (λ word m n e f. e.pieces ∙ sym f.pieces) values a b one other

-- where values say columns that are different, these that they say are too
pub one_different : (given : Given) (table : TableWords) (chosen columns : List Word) → AreRanks given.chosen chosen
    → columns ≡ given.columns ++ chosen → SaysTable given table → AreDifferent columns
one_different given table chosen columns are all says =
    subst AreDifferent
    (says.columns.0
    ∙ ap (λ (heads : List Word). given.columns ++ heads) (one_ranks given.chosen table.chosen chosen says.chosen are)
    ∙ sym all) says.different

one_table : (given : Given) (a b : TableWords) → SaysTable given a → SaysTable given b → a ≡ b
one_table given a b one other =
    let separator = said_separator given.separator a.separator b.separator one.separator other.separator in
    let names = one_at_most heads.Whole (λ n word. word ≡ head_word n)
    (λ word m n e f. one_head m n (sym e ∙ f)) given.names a.names b.names one.names other.names in
    let head = one_at_most head_words.Unsaid (λ said word. SaysHead word said) one_head_words given.head a.head b.head one.head
    other.head in
    let weight = one_weight given.weight a.weight b.weight one.weight other.weight in
    let ignored = one.ignored.0 ∙ sym other.ignored.0 in
    let chosen = one_ranks given.chosen a.chosen b.chosen one.chosen other.chosen in
    let columns =
    one.columns.0 ∙ ap (λ (heads : List Word). given.columns ++ heads) chosen ∙ sym other.columns.0 in
    λ i. record {
      separator = separator i;
      names = names i;
      head = head i;
      weight = weight i;
      ignored = ignored i;
      columns = columns i;
      chosen = chosen i;
    }

one_cells : (given : Given) (a b : CellWords) → SaysCells given a → SaysCells given b → a ≡ b
one_cells given a b one other =
    let blanks = one.blanks.0 ∙ sym other.blanks.0 in
    let overs = one.overs.0 ∙ sym other.overs.0 in
    let ranks = one_ranks given.ranks a.ranks b.ranks one.ranks other.ranks in
    λ i. record { blanks = blanks i; overs = overs i; ranks = ranks i }

-- where values say cells and a roll, they tell them apart as they tell apart what else they say
pub one_distinguished :
    (given : Given) (asked : Asked) (cells : CellWords) (roll : RollWords) → SaysCells given cells
    → SaysRoll given roll → Says given asked
    → AreDistinguished cells roll.candidates
one_distinguished given asked cells roll cells_are roll_is says =
    let names = says.roll.candidates.0 ∙ sym roll_is.candidates.0 in
    subst (λ (c : CellWords). AreDistinguished c roll.candidates)
    (one_cells given asked.cells cells says.cells cells_are)
    (subst (λ (ns : List Word). AreDistinguished asked.cells ns) names says.distinguished)

-- what words ask for is said by any pairs that they are
pub says_of :
    (words : List Word) (pairs : List Said) (asked : Asked) → ArePairs words pairs → Asks words asked
    → Says (given_of pairs) asked
says_of words pairs asked are asks =
    let same = same_pairs asks.pairs pairs (sym asks.are.spelled ∙ are.spelled) in
    subst (λ (ps : List Said). Says (given_of ps) asked) same asks.says

-- and these fit its layout
pub fit_of :
    (words : List Word) (pairs : List Said) (asked : Asked) → ArePairs words pairs → Asks words asked
    → AreFor asked.layout pairs
fit_of words pairs asked are asks =
    let same = same_pairs asks.pairs pairs (sym asks.are.spelled ∙ are.spelled) in
    subst (λ (ps : List Said). AreFor asked.layout ps) same asks.fit

pub said_layout : (given : Given) (a b : Asked) → Says given a → Says given b → a.layout ≡ b.layout
said_layout given a b one other =
    one_once layouts.Ranks (λ l word. word ≡ layout_word l) (λ word m n e f. one_layout m n (sym e ∙ f))
    given.layout a.layout b.layout one.layout other.layout

module _ (lots : HaveOneLotList) where
  one_roll : (given : Given) (a b : RollWords) → SaysRoll given a → SaysRoll given b → a ≡ b
  one_roll given a b one other =
      let seats = one_once 0 (λ n word. IsNumeralUpTo MOST_CANDIDATES word × (n ≡ number_of word))
      (λ word m n e f. e.1 ∙ sym f.1) given.seats a.seats b.seats one.seats other.seats in
      let title = one_at_most [] (λ t word. (t ≡ word) × IsName MOST_TITLE_BYTES word)
      (λ word m n e f. e.0 ∙ sym f.0) given.title a.title b.title one.title other.title in
      let withdrawn = one_at_most [] (λ ns word. IsLotList word ns) lots given.withdrawn a.withdrawn
      b.withdrawn
      one.withdrawn other.withdrawn in
      let candidates = one.candidates.0 ∙ sym other.candidates.0 in
      λ i. record { seats = seats i; title = title i; withdrawn = withdrawn i; candidates = candidates i }

  pub one_said : (given : Given) (a b : Asked) → Says given a → Says given b → a ≡ b
  one_said given a b one other =
      let layout = said_layout given a b one other in
      let output = one_at_most outputs.Blt (λ o word. word ≡ output_word o)
      (λ word m n e f. one_output m n (sym e ∙ f)) given.output a.output b.output one.output other.output in
      let empty = one_at_most rows.Refuse (λ r word. word ≡ rows_word r)
      (λ word m n e f. one_rows m n (sym e ∙ f)) given.empty a.empty b.empty one.empty other.empty in
      let treatment = one_treatment given a.treatment b.treatment one.treatment other.treatment in
      let roll = one_roll given a.roll b.roll one.roll other.roll in
      let table = one_table given a.table b.table one.table other.table in
      let cells = one_cells given a.cells b.cells one.cells other.cells in
      λ i. record {
        layout = layout i;
        output = output i;
        empty = empty i;
        treatment = treatment i;
        roll = roll i;
        table = table i;
        cells = cells i;
      }

  pub ask_one_thing : AskOneThing
  ask_one_thing words a b one other =
      one_said (given_of other.pairs) a b (says_of words other.pairs a other.are one) other.says
