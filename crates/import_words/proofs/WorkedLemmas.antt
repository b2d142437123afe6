-- Words worked by hand.
use Rattle.std.proofs.Common.{◌≡◌, ◌≢◌, ◌≤◌, ◌∙◌, refl, sym, ap, subst, ℕ, zero, suc, true, false, List, [], ◌∷◌}
use Rattle.std.proofs.Common.{get_or, ◌++◌, None, length, codes, arith, All, IsTrue}
use Rattle.std.specs.List.{Contains, flat_map}
use Rattle.std.proofs.lemmas.Bool.{false≢true}
use Rattle.std.proofs.lemmas.Option.{none-some}
use Rattle.std.proofs.lemmas.List.Elements.{All-from_recursion, All-nil}
use Rattle.std.proofs.lemmas.List.Sums.{AllPass-from_list_all}
use Rattle.std.specs.Char.{is_ascii_digit}
use Rattle.candidate_roll.specs.declared.limits.TheConstants.{MOST_NAME_BYTES}
use Rattle.meek_words.specs.Numerals.{Word, IsNumeralUpTo, number_of}
use Rattle.candidate_roll.specs.Name.{IsName, IsPrintable}
use Rattle.import_words.specs.Asks.{Asks, AreFor, Says}
use Rattle.import_words.specs.Labels.{AreDifferent, IsLabel}
use Rattle.import_words.specs.Options.{flag_of, is_choices, is_named, is_of, is_table}
use Rattle.import_words.specs.Pairs.{Said, given_of, words_of}
use Rattle.import_words.specs.Settings.{SaysHead, layout_word}
use Rattle.import_words.specs.Worked.{AskNothing, RefusedWords, ann_ben_cid, one_seat, plain}
use Rattle.import_words.specs.declared.asked.Asked.{Asked}
use Rattle.import_words.specs.declared.head_words.HeadWords.{HeadWords}
use Rattle.import_words.specs.declared.head_words.HeadWords.TheVariants as head_words
use Rattle.import_words.specs.declared.layout.Layout.{Layout}
use Rattle.import_words.specs.declared.layout.Layout.TheVariants as layouts
use Rattle.import_words.specs.declared.import_option.ImportOption.{ImportOption}
use Rattle.import_words.specs.declared.import_option.ImportOption.TheVariants as options
use Rattle.import_words.proofs.DifferentLemmas.{apart}
use Rattle.import_words.proofs.FoundLemmas.{all_options, each_option, found, one_layout}
use Rattle.import_words.proofs.OneLemmas.{same_pairs}
use Rattle.import_words.proofs.PairLemmas.{HasValue}

abbrev pub said : ImportOption → Word → Said
said option value = record { option = option; value = value }

abbrev seats_of : Word → Word → List Said
seats_of layout number = said options.Layout layout ∷ said options.Seats number ∷ []

abbrev pub seat_of : Word → List Said
seat_of layout = seats_of layout (codes "1")

abbrev candidates : List Said
candidates =
    said options.Candidate (codes "Ann") ∷ said options.Candidate (codes "Ben")
    ∷ said options.Candidate (codes "Cid") ∷ []

-- words that are pairs ask for nothing if these say nothing that fits
refused :
    (words : List Word) (pairs : List Said) → words ≡ flat_map words_of pairs
    → ((asked : Asked) → AreFor asked.layout pairs → Says (given_of pairs) asked → ⊥)
    → AskNothing words
refused words pairs spelled nothing asked asks =
    let same = same_pairs asks.pairs pairs (sym asks.are.spelled ∙ spelled) in
    nothing asked (subst (λ (ps : List Said). AreFor asked.layout ps) same asks.fit)
    (subst (λ (ps : List Said). Says (given_of ps) asked) same asks.says)

-- a layout that is told, told by what a test says of it
told :
    (test : Layout → Type 0) (layout : Layout) (asked : Asked) → layout ≡ asked.layout → test asked.layout
    → test layout
told test layout asked same holds = subst test (sym same) holds

no_option :
    (word : Word) → found flag_of all_options word ≡ None → (option : ImportOption)
    → word ≢ flag_of option
no_option word none option same =
    none-some option (sym none ∙ ap (found flag_of all_options) same ∙ each_option option)

no_equals_sign : (asked : Asked) (pairs : List Said)
    → codes "--layout=ranks" ∷ codes "--seats" ∷ codes "1" ∷ [] ≡ flat_map words_of pairs → ⊥
no_equals_sign asked [] e = cc
no_equals_sign asked (first ∷ pairs) e =
    let flag : codes "--layout=ranks" ≡ flag_of first.option = cc in
    no_option (codes "--layout=ranks") refl first.option flag

-- a value that says nothing of the head
no_head_of : (word : Word) → ((head : HeadWords) → SaysHead word head → ⊥)
    → AskNothing (one_seat (codes "ranks") ++ codes "--head" ∷ word ∷ [])
no_head_of word none =
    refused _ (seat_of (codes "ranks") ++ said options.Head word ∷ []) refl
    (λ asked fit says. none asked.table.head says.table.head)

no_count : (b : ℕ) → b ≤ 48 → (head : HeadWords) → SaysHead (b ∷ []) head → ⊥
no_count b small head_words.Unsaid says = says
no_count b small head_words.Absent says = omega (arith, ap length says)
no_count b small (head_words.Records n) says =
    let same : b ≡ says.digit = cc says.alone in omega (arith, same, says.least)

no_long : (head : HeadWords) → SaysHead (codes "10") head → ⊥
no_long head_words.Unsaid says = says
no_long head_words.Absent says = omega (arith, ap length says)
no_long (head_words.Records n) says = omega (arith, ap length says.alone)

pub refused_words : RefusedWords
refused_words = record {
  none = refused _ [] refl (λ asked fit says. says.layout);
  no_seats = refused _ (said options.Layout (codes "ranks") ∷ []) refl (λ asked fit says. says.roll.seats);
  candidate_of_ranks =
      refused _ (seat_of (codes "ranks") ++ said options.Candidate (codes "Ann") ∷ []) refl
      (λ asked fit says. false≢true (told (λ l. is_named l ≡ true) layouts.Ranks asked
      (one_layout layouts.Ranks asked.layout says.layout) (fit 2 (said options.Layout []) (omega arith))));
  seats_twice =
      refused _ (seat_of (codes "ranks") ++ said options.Seats (codes "1") ∷ []) refl
      (λ asked fit says. says.roll.seats);
  skipped_of_preflib =
      refused _ (seat_of (codes "preflib") ++ said options.Skipped (codes "close") ∷ []) refl
      (λ asked fit says. false≢true (told (λ l. is_table l ≡ true) layouts.Preflib asked
      (one_layout layouts.Preflib asked.layout says.layout) (fit 2 (said options.Layout []) (omega arith))));
  no_candidates =
      refused _ (seat_of (codes "choices")) refl
      (λ asked fit says.
      let named = subst (λ (l : Layout). is_named l ≡ true)
      (one_layout layouts.Choices asked.layout says.layout) refl in
      omega (arith, (says.enough named).0, ap length says.roll.candidates.0));
  equals_sign = λ asked asks. no_equals_sign asked asks.pairs asks.are.spelled;
  over_is_candidate =
      refused _ (seat_of (codes "choices") ++ candidates ++ said options.Over (codes "Ann") ∷ []) refl
      (λ asked fit says.
      let all : asked.cells.blanks ++ asked.cells.overs ++ asked.roll.candidates ++ asked.cells.ranks
      ≡ codes "Ann" ∷ codes "Ann" ∷ codes "Ben" ∷ codes "Cid" ∷ [] =
      λ i. says.cells.blanks.0 i ++ says.cells.overs.0 i ++ says.roll.candidates.0 i ++ says.cells.ranks i in
      subst AreDifferent all says.distinguished.different 0 1 [] (omega arith) (omega arith) refl);
  blank_behind_a_label =
      refused _ (seat_of (codes "ranks") ++ said options.Blank (codes "NA ") ∷ []) refl
      (λ asked fit says. (says.cells.blanks.1 0 [] (omega arith)).last refl);
  blank_before_a_label =
      refused _ (seat_of (codes "ranks") ++ said options.Blank (codes " NA") ∷ []) refl
      (λ asked fit says. (says.cells.blanks.1 0 [] (omega arith)).first refl);
  no_seat =
      refused _ (seats_of (codes "ranks") (codes "0")) refl
      (λ asked fit says.
      let value : number_of (codes "0") ≡ 0 = refl in
      omega (arith, says.roll.seats.0.least, value));
  a_seat_too_many =
      refused _ (seats_of (codes "ranks") (codes "251")) refl
      (λ asked fit says.
      let value : number_of (codes "251") ≡ 251 = refl in
      omega (arith, says.roll.seats.0.most, value));
  head_of_nought = no_head_of (codes "0") (λ head says. no_count 48 (omega arith) head says);
  column_of_ranks =
      refused _ (seat_of (codes "ranks") ++ said options.Columns (codes "r1") ∷ []) refl
      (λ asked fit says. false≢true (told (λ l. is_choices l ≡ true) layouts.Ranks asked
      (one_layout layouts.Ranks asked.layout says.layout) (fit 2 (said options.Layout []) (omega arith))));
  column_twice =
      refused _
      (seat_of (codes "choices") ++ candidates ++ said options.Ignore (codes "r1") ∷ said options.Columns (codes "r1") ∷ [])
      refl
      (λ asked fit says.
      let all : asked.table.columns ≡ codes "r1" ∷ codes "r1" ∷ [] =
      says.table.columns.0 ∙ ap (λ (heads : List Word). codes "r1" ∷ heads) says.table.chosen.pieces in
      subst AreDifferent all says.table.different 0 1 [] (omega arith) (omega arith) refl);
  head_of_ten = no_head_of (codes "10") (λ head says. no_long head says);
}

-- one digit writes a number of seats
pub one_is_seats : IsNumeralUpTo 250 (codes "1")
one_is_seats =
    let value : number_of (codes "1") ≡ 1 = refl in
    record {
      numeral = record {
        some = omega arith;
        short = omega arith;
        digits = AllPass-from_list_all is_ascii_digit (codes "1") refl;
      };
      least = omega (arith, value);
      most = omega (arith, value);
    }

pub none_different : AreDifferent []
none_different i j d before within = absurd (omega arith)

-- a word that is unlike the first of some and none of the others
pub none_in :
    (word other : Word) (words : List Word) → other ≢ word → ¬ (Contains words word)
    → ¬ (Contains (other ∷ words) word)
none_in word other words unlike none (zero, within, same) = unlike same
none_in word other words unlike none (suc k, within, same) = none (k, omega arith, same)

pub none_in_none : (word : Word) → ¬ (Contains [] word)
none_in_none word has = absurd (omega (arith, has.1))

-- a name of three bytes is a name and a label
three_named :
    (a b c : ℕ) → IsPrintable a → IsPrintable b → IsPrintable c → IsName MOST_NAME_BYTES (a ∷ b ∷ c ∷ [])
three_named a b c one two three = record {
  short = omega arith;
  printable = All-from_recursion IsPrintable (a ∷ b ∷ c ∷ []) (one, (two, (three, tt)));
}

pub three_labelled :
    (a b c : ℕ) → IsPrintable a → IsPrintable b → IsPrintable c → a ≢ 32 → c ≢ 32 → IsLabel (a ∷ b ∷ c ∷ [])
three_labelled a b c one two three first last = record {
  some = omega arith;
  printable = All-from_recursion (λ b. 32 ≤ b) (a ∷ b ∷ c ∷ []) (one.0, (two.0, (three.0, tt)));
  first = first;
  last = last;
}

-- where cells name nobody, a layout and one seat are enough
accepted_plain :
    (layout : Layout) → is_named layout ≡ false → layout_word layout ≢ []
    → Asks (one_seat (layout_word layout)) (plain layout [])
accepted_plain layout unnamed some = record {
  pairs = seat_of (layout_word layout);
  are = record {
    spelled = refl;
    values = All-from_recursion HasValue (seat_of (layout_word layout)) (some, ((λ e. cc), tt));
  };
  fit = All-from_recursion (λ (s : Said). IsTrue (is_of layout s.option)) (seat_of (layout_word layout))
      (refl, (refl, tt));
  says = record {
    layout = refl;
    output = refl;
    empty = refl;
    treatment = (refl, refl, refl);
    roll = record {
      seats = (one_is_seats, refl);
      title = refl;
      withdrawn = refl;
      candidates = (refl, All-nil (IsName MOST_NAME_BYTES));
    };
    table = record {
      separator = refl;
      names = refl;
      head = refl;
      weight = refl;
      ignored = (refl, All-nil IsLabel);
      columns = (refl, All-nil IsLabel);
      chosen = refl;
      different = none_different;
    };
    cells = record { blanks = (refl, All-nil IsLabel); overs = (refl, All-nil IsLabel); ranks = refl };
    enough = λ named. absurd (false≢true (sym unnamed ∙ named));
    distinguished = record { labels = All-nil IsLabel; different = none_different };
  };
}

pub accepted_ranks : Asks (one_seat (codes "ranks")) (plain layouts.Ranks [])
accepted_ranks = accepted_plain layouts.Ranks refl (λ e. cc)

pub accepted_preflib : Asks (one_seat (codes "preflib")) (plain layouts.Preflib [])
accepted_preflib = accepted_plain layouts.Preflib refl (λ e. cc)

abbrev names : List Word
names = codes "Ann" ∷ codes "Ben" ∷ codes "Cid" ∷ []

all_named : All (IsName MOST_NAME_BYTES) names
all_named = All-from_recursion (IsName MOST_NAME_BYTES) names (
  three_named 65 110 110 (omega arith, omega arith) (omega arith, omega arith) (omega arith, omega arith),
  (
    three_named 66 101 110 (omega arith, omega arith) (omega arith, omega arith) (omega arith, omega arith),
    (
      three_named 67 105 100 (omega arith, omega arith) (omega arith, omega arith) (omega arith, omega arith),
      tt,
    ),
  ),
)

all_labelled : All IsLabel names
all_labelled = All-from_recursion IsLabel names (
  three_labelled 65 110 110 (omega arith, omega arith) (omega arith, omega arith) (omega arith, omega arith)
      (omega arith) (omega arith),
  (
    three_labelled 66 101 110 (omega arith, omega arith) (omega arith, omega arith) (omega arith, omega arith)
        (omega arith) (omega arith),
    (
      three_labelled 67 105 100 (omega arith, omega arith) (omega arith, omega arith)
          (omega arith, omega arith)
          (omega arith) (omega arith),
      tt,
    ),
  ),
)

-- words with other first bytes are different
pub begin_unlike :
    (m n : ℕ) (word other : Word) → get_or word 0 0 ≡ m → get_or other 0 0 ≡ n → m ≢ n → word ≢ other
begin_unlike m n word other first second unlike same =
    unlike (sym first ∙ ap (λ (w : Word). get_or w 0 0) same ∙ second)

all_different : AreDifferent names
all_different =
    let ben_ann = begin_unlike 66 65 (codes "Ben") (codes "Ann") refl refl (omega arith) in
    let cid_ann = begin_unlike 67 65 (codes "Cid") (codes "Ann") refl refl (omega arith) in
    let cid_ben = begin_unlike 67 66 (codes "Cid") (codes "Ben") refl refl (omega arith) in
    apart (codes "Ann") (codes "Ben" ∷ codes "Cid" ∷ [])
    (none_in (codes "Ann") (codes "Ben") (codes "Cid" ∷ []) ben_ann
    (none_in (codes "Ann") (codes "Cid") [] cid_ann (none_in_none (codes "Ann"))))
    (apart (codes "Ben") (codes "Cid" ∷ [])
    (none_in (codes "Ben") (codes "Cid") [] cid_ben (none_in_none (codes "Ben")))
    (apart (codes "Cid") [] (none_in_none (codes "Cid")) none_different))

pub accepted_choices : Asks (one_seat (codes "choices") ++ ann_ben_cid) (plain layouts.Choices names)
accepted_choices = record {
  pairs = seat_of (codes "choices") ++ candidates;
  are = record {
    spelled = refl;
    values = All-from_recursion HasValue (seat_of (codes "choices") ++ candidates)
        ((λ e. cc), ((λ e. cc), ((λ e. cc), ((λ e. cc), ((λ e. cc), tt)))));
  };
  fit = All-from_recursion (λ (s : Said). IsTrue (is_of layouts.Choices s.option))
      (seat_of (codes "choices") ++ candidates) (refl, (refl, (refl, (refl, (refl, tt)))));
  says = record {
    layout = refl;
    output = refl;
    empty = refl;
    treatment = (refl, refl, refl);
    roll = record {
      seats = (one_is_seats, refl);
      title = refl;
      withdrawn = refl;
      candidates = (refl, all_named);
    };
    table = record {
      separator = refl;
      names = refl;
      head = refl;
      weight = refl;
      ignored = (refl, All-nil IsLabel);
      columns = (refl, All-nil IsLabel);
      chosen = refl;
      different = none_different;
    };
    cells = record { blanks = (refl, All-nil IsLabel); overs = (refl, All-nil IsLabel); ranks = refl };
    enough = λ named. (omega arith, omega arith);
    distinguished = record { labels = all_labelled; different = all_different };
  };
}
