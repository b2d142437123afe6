-- Words worked by hand: heads of columns that are no marks stand in the order of the words.
use Rattle.std.proofs.Common.{◌≢◌, refl, List, [], ◌∷◌, ◌++◌, codes, arith, All, IsTrue}
use Rattle.std.proofs.lemmas.Bool.{false≢true}
use Rattle.std.proofs.lemmas.List.Elements.{All-from_recursion, All-nil}
use Rattle.candidate_roll.specs.declared.limits.TheConstants.{MOST_NAME_BYTES}
use Rattle.candidate_roll.specs.Name.{IsName}
use Rattle.meek_words.specs.Numerals.{Word}
use Rattle.import_words.specs.Asks.{Asks}
use Rattle.import_words.specs.Labels.{AreDifferent, IsLabel}
use Rattle.import_words.specs.Options.{is_of}
use Rattle.import_words.specs.Pairs.{Said}
use Rattle.import_words.specs.Settings.{SaysHead}
use Rattle.import_words.specs.Worked.{AcceptedWords, headed, ignore_key, one_seat, weight_num, with_columns}
use Rattle.import_words.specs.declared.head_words.HeadWords.{HeadWords}
use Rattle.import_words.specs.declared.head_words.HeadWords.TheVariants as head_words
use Rattle.import_words.specs.declared.layout.Layout.TheVariants as layouts
use Rattle.import_words.specs.declared.import_option.ImportOption.TheVariants as options
use Rattle.import_words.proofs.DifferentLemmas.{apart}
use Rattle.import_words.proofs.PairLemmas.{HasValue}
use Rattle.import_words.proofs.WorkedLemmas.{accepted_choices, accepted_preflib, accepted_ranks, begin_unlike}
use Rattle.import_words.proofs.WorkedLemmas.{none_different, none_in, none_in_none, one_is_seats, said, seat_of}
use Rattle.import_words.proofs.WorkedLemmas.{three_labelled}

num_labelled : IsLabel (codes "Num")
num_labelled =
    three_labelled 78 117 109 (omega arith, omega arith) (omega arith, omega arith) (omega arith, omega arith)
    (omega arith) (omega arith)

key_labelled : IsLabel (codes "Key")
key_labelled =
    three_labelled 75 101 121 (omega arith, omega arith) (omega arith, omega arith) (omega arith, omega arith)
    (omega arith) (omega arith)

two_labelled : (one other : Word) → IsLabel one → IsLabel other → All IsLabel (one ∷ other ∷ [])
two_labelled one other is are = All-from_recursion IsLabel (one ∷ other ∷ []) (is, (are, tt))

two_different : (one other : Word) → other ≢ one → AreDifferent (one ∷ other ∷ [])
two_different one other unlike =
    apart one (other ∷ []) (none_in one other [] unlike (none_in_none one))
    (apart other [] (none_in_none other) none_different)

num_key : codes "Num" ≢ codes "Key"
num_key = begin_unlike 78 75 (codes "Num") (codes "Key") refl refl (omega arith)

key_num : codes "Key" ≢ codes "Num"
key_num = begin_unlike 75 78 (codes "Key") (codes "Num") refl refl (omega arith)

-- the two options of columns
abbrev num : Said
num = said options.Weight (codes "Num")

abbrev key : Said
key = said options.Ignore (codes "Key")

abbrev pairs : Said → Said → List Said
pairs one other = seat_of (codes "ranks") ++ one ∷ other ∷ []

pub weight_first : Asks (one_seat (codes "ranks") ++ weight_num ++ ignore_key) (with_columns (codes "Num" ∷ codes "Key" ∷ []))
weight_first = record {
  pairs = pairs num key;
  are = record {
    spelled = refl;
    values = All-from_recursion HasValue (pairs num key) ((λ e. cc), ((λ e. cc), ((λ e. cc), ((λ e. cc), tt))));
  };
  fit = All-from_recursion (λ (s : Said). IsTrue (is_of layouts.Ranks s.option)) (pairs num key)
      (refl, (refl, (refl, (refl, tt))));
  says = record {
    layout = refl;
    output = refl;
    empty = refl;
    treatment = (refl, refl, refl);
    roll = record {
      seats = (one_is_seats, refl);
      title = refl;
      withdrawn = refl;
      candidates = (refl, All-nil (IsName MOST_NAME_BYTES));
    };
    table = record {
      separator = refl;
      names = refl;
      head = refl;
      weight = (refl, num_labelled);
      ignored = (refl, All-from_recursion IsLabel (codes "Key" ∷ []) (key_labelled, tt));
      columns = (refl, two_labelled (codes "Num") (codes "Key") num_labelled key_labelled);
      chosen = refl;
      different = two_different (codes "Num") (codes "Key") key_num;
    };
    cells = record { blanks = (refl, All-nil IsLabel); overs = (refl, All-nil IsLabel); ranks = refl };
    enough = λ named. absurd (false≢true named);
    distinguished = record { labels = All-nil IsLabel; different = none_different };
  };
}

pub ignored_first : Asks (one_seat (codes "ranks") ++ ignore_key ++ weight_num) (with_columns (codes "Key" ∷ codes "Num" ∷ []))
ignored_first = record {
  pairs = pairs key num;
  are = record {
    spelled = refl;
    values = All-from_recursion HasValue (pairs key num) ((λ e. cc), ((λ e. cc), ((λ e. cc), ((λ e. cc), tt))));
  };
  fit = All-from_recursion (λ (s : Said). IsTrue (is_of layouts.Ranks s.option)) (pairs key num)
      (refl, (refl, (refl, (refl, tt))));
  says = record {
    layout = refl;
    output = refl;
    empty = refl;
    treatment = (refl, refl, refl);
    roll = record {
      seats = (one_is_seats, refl);
      title = refl;
      withdrawn = refl;
      candidates = (refl, All-nil (IsName MOST_NAME_BYTES));
    };
    table = record {
      separator = refl;
      names = refl;
      head = refl;
      weight = (refl, num_labelled);
      ignored = (refl, All-from_recursion IsLabel (codes "Key" ∷ []) (key_labelled, tt));
      columns = (refl, two_labelled (codes "Key") (codes "Num") key_labelled num_labelled);
      chosen = refl;
      different = two_different (codes "Key") (codes "Num") num_key;
    };
    cells = record { blanks = (refl, All-nil IsLabel); overs = (refl, All-nil IsLabel); ranks = refl };
    enough = λ named. absurd (false≢true named);
    distinguished = record { labels = All-nil IsLabel; different = none_different };
  };
}

-- what is said of the head
accepted_head : (word : Word) (said_head : HeadWords) → word ≢ [] → SaysHead word said_head
    → Asks (one_seat (codes "ranks") ++ codes "--head" ∷ word ∷ []) (headed said_head)
accepted_head word said_head some says = record {
  pairs = seat_of (codes "ranks") ++ said options.Head word ∷ [];
  are = record {
    spelled = refl;
    values = All-from_recursion HasValue (seat_of (codes "ranks") ++ said options.Head word ∷ [])
        ((λ e. cc), ((λ e. cc), (some, tt)));
  };
  fit = All-from_recursion (λ (s : Said). IsTrue (is_of layouts.Ranks s.option))
      (seat_of (codes "ranks") ++ said options.Head word ∷ []) (refl, (refl, (refl, tt)));
  says = record {
    layout = refl;
    output = refl;
    empty = refl;
    treatment = (refl, refl, refl);
    roll = record {
      seats = (one_is_seats, refl);
      title = refl;
      withdrawn = refl;
      candidates = (refl, All-nil (IsName MOST_NAME_BYTES));
    };
    table = record {
      separator = refl;
      names = refl;
      head = says;
      weight = refl;
      ignored = (refl, All-nil IsLabel);
      columns = (refl, All-nil IsLabel);
      chosen = refl;
      different = none_different;
    };
    cells = record { blanks = (refl, All-nil IsLabel); overs = (refl, All-nil IsLabel); ranks = refl };
    enough = λ named. absurd (false≢true named);
    distinguished = record { labels = All-nil IsLabel; different = none_different };
  };
}

pub accepted_words : AcceptedWords
accepted_words = record {
  no_head = accepted_head (codes "none") head_words.Absent (λ e. cc) refl;
  two_heads = accepted_head (codes "2") (head_words.Records 2) (λ e. cc)
      (record { digit = 50; alone = refl; least = omega arith; most = omega arith; value = refl });
  ranks = accepted_ranks;
  preflib = accepted_preflib;
  choices = accepted_choices;
  weight_first = weight_first;
  ignored_first = ignored_first;
}
