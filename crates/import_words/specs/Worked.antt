-- Words worked by hand.
use Rattle.std.specs.Prelude.{Some, None, List, [], ◌∷◌, ◌++◌, codes}
use Rattle.meek_words.specs.Numerals.{Word}
use Rattle.ballot_marks.specs.declared.choice.Treat.TheVariants as treats
use Rattle.import_words.specs.Asks.{Asks}
use Rattle.import_words.specs.declared.asked.Asked.{Asked}
use Rattle.import_words.specs.declared.layout.Layout.{Layout}
use Rattle.import_words.specs.declared.layout.Layout.TheVariants as layouts
use Rattle.import_words.specs.declared.output.Output.TheVariants as outputs
use Rattle.import_words.specs.declared.empty_rows.EmptyRows.TheVariants as rows
use Rattle.import_words.specs.declared.head_names.HeadNames.TheVariants as heads
use Rattle.import_words.specs.declared.head_words.HeadWords.{HeadWords}
use Rattle.import_words.specs.declared.head_words.HeadWords.TheVariants as head_words

-- whatever is meant, these words do not ask for it
abbrev pub AskNothing : List Word → Type 0
AskNothing words = (asked : Asked) → ¬ (Asks words asked)

-- a layout, and so many seats
abbrev pub seats : Word → Word → List Word
seats layout number = codes "--layout" ∷ layout ∷ codes "--seats" ∷ number ∷ []

abbrev pub one_seat : Word → List Word
one_seat layout = seats layout (codes "1")

abbrev pub ann_ben_cid : List Word
ann_ben_cid =
    codes "--candidate" ∷ codes "Ann" ∷ codes "--candidate" ∷ codes "Ben" ∷ codes "--candidate" ∷ codes "Cid"
    ∷ []

pub record RefusedWords : Type 0 where
  pub none : AskNothing []
  pub no_seats : AskNothing (codes "--layout" ∷ codes "ranks" ∷ [])
  pub candidate_of_ranks : AskNothing (one_seat (codes "ranks") ++ codes "--candidate" ∷ codes "Ann" ∷ [])
  pub seats_twice : AskNothing (one_seat (codes "ranks") ++ codes "--seats" ∷ codes "1" ∷ [])
  pub skipped_of_preflib : AskNothing (one_seat (codes "preflib") ++ codes "--skipped" ∷ codes "close" ∷ [])
  pub no_candidates : AskNothing (one_seat (codes "choices"))
  pub equals_sign : AskNothing (codes "--layout=ranks" ∷ codes "--seats" ∷ codes "1" ∷ [])
  pub over_is_candidate :
      AskNothing (one_seat (codes "choices") ++ ann_ben_cid ++ codes "--over" ∷ codes "Ann" ∷ [])
  pub blank_behind_a_label : AskNothing (one_seat (codes "ranks") ++ codes "--blank" ∷ codes "NA " ∷ [])
  pub blank_before_a_label : AskNothing (one_seat (codes "ranks") ++ codes "--blank" ∷ codes " NA" ∷ [])
  pub no_seat : AskNothing (seats (codes "ranks") (codes "0"))
  pub a_seat_too_many : AskNothing (seats (codes "ranks") (codes "251"))
  pub head_of_nought : AskNothing (one_seat (codes "ranks") ++ codes "--head" ∷ codes "0" ∷ [])
  pub column_of_ranks : AskNothing (one_seat (codes "ranks") ++ codes "--columns" ∷ codes "r1" ∷ [])
  pub column_twice :
      AskNothing
      (one_seat (codes "choices") ++ ann_ben_cid ++ codes "--ignore" ∷ codes "r1" ∷ codes "--columns" ∷ codes "r1" ∷ [])
  pub head_of_ten : AskNothing (one_seat (codes "ranks") ++ codes "--head" ∷ codes "10" ∷ [])

-- a layout, one seat and these candidates, and nothing else said
abbrev pub plain : Layout → List Word → Asked
plain layout candidates = record {
  layout = layout;
  output = outputs.Blt;
  empty = rows.Refuse;
  treatment = record { skipped = None; equal = treats.Refuse; repeated = treats.Refuse };
  roll = record { seats = 1; title = []; withdrawn = []; candidates = candidates };
  table = record { separator = None; names = heads.Whole; head = head_words.Unsaid; weight = None; ignored = []; columns = []; chosen = [] };
  cells = record { blanks = []; overs = []; ranks = [] };
}

-- the head of the weights' column and that of an ignored one, each as it is said
abbrev pub weight_num : List Word
weight_num = codes "--weight" ∷ codes "Num" ∷ []

abbrev pub ignore_key : List Word
ignore_key = codes "--ignore" ∷ codes "Key" ∷ []

-- a table of ranks with weights under Num and an ignored column Key, whose heads stand in this order
abbrev pub with_columns : (columns : List Word) → Asked
with_columns columns = record {
  layout = layouts.Ranks;
  output = outputs.Blt;
  empty = rows.Refuse;
  treatment = record { skipped = None; equal = treats.Refuse; repeated = treats.Refuse };
  roll = record { seats = 1; title = []; withdrawn = []; candidates = [] };
  table = record {
    separator = None;
    names = heads.Whole;
    head = head_words.Unsaid;
    weight = Some (codes "Num");
    ignored = codes "Key" ∷ [];
    columns = columns;
    chosen = [];
  };
  cells = record { blanks = []; overs = []; ranks = [] };
}

-- a table of ranks of which this is said of the head
abbrev pub headed : HeadWords → Asked
headed said = record (plain layouts.Ranks []) {
  table = record { separator = None; names = heads.Whole; head = said; weight = None; ignored = []; columns = []; chosen = [] };
}

pub record AcceptedWords : Type 0 where
  pub no_head : Asks (one_seat (codes "ranks") ++ codes "--head" ∷ codes "none" ∷ []) (headed head_words.Absent)
  pub two_heads : Asks (one_seat (codes "ranks") ++ codes "--head" ∷ codes "2" ∷ []) (headed (head_words.Records 2))
  pub ranks : Asks (one_seat (codes "ranks")) (plain layouts.Ranks [])
  pub preflib : Asks (one_seat (codes "preflib")) (plain layouts.Preflib [])
  pub choices :
      Asks (one_seat (codes "choices") ++ ann_ben_cid)
      (plain layouts.Choices (codes "Ann" ∷ codes "Ben" ∷ codes "Cid" ∷ []))
  pub weight_first :
      Asks (one_seat (codes "ranks") ++ weight_num ++ ignore_key) (with_columns (codes "Num" ∷ codes "Key" ∷ []))
  pub ignored_first :
      Asks (one_seat (codes "ranks") ++ ignore_key ++ weight_num) (with_columns (codes "Key" ∷ codes "Num" ∷ []))
