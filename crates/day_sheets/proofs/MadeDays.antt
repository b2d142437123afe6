-- The text of a made day is the file of its day.
use Rattle.std.proofs.Common.{◌≡◌, ◌≢◌, ℕ, ◌-◌, ◌≤◌, true, List, [], ◌∷◌, ◌++◌, length, map, All, AllPairs}
use Rattle.std.proofs.Common.{None, refl, ◌∙◌, arith, append_assoc, length-append}
use Rattle.std.specs.Prelude.{decimal, codes}
use Rattle.std.specs.List.{flat_map}
use Rattle.std.specs.Char.{is_ascii_digit}
use Rattle.std.proofs.lemmas.Fmt.{length-decimal-le}
use Rattle.std.proofs.lemmas.List.Elements.{All-nil, All-from_recursion}
use Rattle.std.proofs.lemmas.List.FromFn.{get_or-map-range_with_len}
use Rattle.plain_ballots.specs.Ranking.{IsRanking}
use Rattle.plain_ballots.specs.declared.ballot_line.BallotLine.{BallotLine}
use Rattle.input_text.specs.Token.{Item, Number, Text}
use Rattle.input_text.specs.Scan.{scan, is_in_string, mark_len}
use Rattle.input_text.specs.Refusal.{IsAccepted}
use Rattle.input_text.specs.Range.{IsIn}
use Rattle.blt_reader.specs.Blt.{IsBlt}
use Rattle.input_text.specs.Written.{Spells, Each}
use Rattle.input_text.proofs.WrittenRuns.{digits_of, each_append}
use Rattle.input_text.proofs.Spelling.{strings, parts, whole}
use Rattle.day_reader.specs.declared.keyword.Keyword.TheVariants as key
use Rattle.day_reader.specs.Keyword.{word}
use Rattle.day_reader.specs.Day.{IsDay, team_items}
use Rattle.meek_trial.specs.Trial.{title, title_line, roll_lines, lots_line, teams, trial_day}
use Rattle.day_sheets.specs.MadeDay.{trial_names, trial_lots, made_day, team_scripts}
use Rattle.day_sheets.proofs.MadeTexts.{all_teams, end_word}
use Rattle.day_sheets.proofs.MadeHead.{roll_spelled, lots_spelled}
use Rattle.day_sheets.proofs.MadeCalls.{are_teams}

-- ---- the items of the text

abbrev roll_items : ℕ → List Item
roll_items number = (Number 12 ∷ Number 4 ∷ Number 0 ∷ map Text trial_names) ++ Text (title number) ∷ []

abbrev lots_items : List Item
lots_items = word key.Lots ∷ map Number trial_lots ++ Number 0 ∷ []

abbrev script_items : ℕ → List Item
script_items number = flat_map team_items (team_scripts number 4)

abbrev all_items : ℕ → List Item
all_items number = ((roll_items number ++ lots_items) ++ script_items number) ++ word key.End ∷ []

digit_in_string : (b : ℕ) → is_ascii_digit b ≡ true → is_in_string b ≡ true
digit_in_string b is = grind arith

each_in_string : (bytes : List ℕ) → Each is_ascii_digit bytes → Each is_in_string bytes
each_in_string [] each = tt
each_in_string (b ∷ bytes) each = (digit_in_string b each.0, each_in_string bytes each.1)

title_spelled : (number : ℕ) → number ≤ 1000 → Spells (title_line number) (Text (title number) ∷ [])
title_spelled number small =
    strings (title number) 10
    (each_append is_in_string (codes "Trial ") (decimal number)
    (refl, (refl, (refl, (refl, (refl, (refl, tt))))))
    (each_in_string (decimal number) (digits_of number (omega arith)))) refl

all_spelled : (number : ℕ) → number ≤ 1000 → Spells (trial_day number) (all_items number)
unfolding trial_day
all_spelled number small =
    let roll = roll_items number in
    let scripts = script_items number in
    parts (((roll_lines ++ title_line number) ++ lots_line) ++ teams number 4) (codes "end\n")
    ((roll ++ lots_items) ++ scripts) (word key.End ∷ [])
    (parts ((roll_lines ++ title_line number) ++ lots_line) (teams number 4) (roll ++ lots_items) scripts
    (parts (roll_lines ++ title_line number) lots_line roll lots_items
    (parts roll_lines (title_line number) (Number 12 ∷ Number 4 ∷ Number 0 ∷ map Text trial_names)
    (Text (title number) ∷ []) roll_spelled (title_spelled number small))
    lots_spelled)
    (all_teams number small))
    end_word

no_mark : (number : ℕ) → mark_len (trial_day number) ≡ 0
unfolding trial_day
no_mark number = refl

grouped : (number : ℕ) → all_items number ≡ roll_items number ++ (lots_items ++ (script_items number ++ word key.End ∷ []))
grouped number =
    let roll = roll_items number in
    let scripts = script_items number in
    append_assoc (roll ++ lots_items) scripts (word key.End ∷ [])
    ∙ append_assoc roll lots_items (scripts ++ word key.End ∷ [])

-- ---- the roll and the lots

names_short : All (λ name. length name ≤ 200) trial_names
names_short =
    All-from_recursion (λ (name : List ℕ). length name ≤ 200) trial_names (
      omega arith,
      (
        omega arith,
        (
          omega arith,
          (
            omega arith,
            (
              omega arith,
              (
                omega arith,
                (
                  omega arith,
                  (
                    omega arith,
                    (omega arith, (omega arith, (omega arith, (omega arith, tt)))),
                  ),
                ),
              ),
            ),
          ),
        ),
      ),
    )

is_roll : (number : ℕ) → number ≤ 1000 → IsBlt 0 (roll_items number) (record { roll = (made_day number).roll; lines = [] })
is_roll number small = record {
  front = roll_items number;
  further = [];
  spelled = refl;
  up_to_title = record {
    withdrawn = [];
    spelled = refl;
    candidates = record { least = omega arith; most = omega arith };
    seats = record { least = omega arith; most = omega arith };
    each_withdrawn = All-nil (IsIn 12);
    marks = refl;
    lines = record {
      rankings = All-nil (λ (line : BallotLine). IsRanking 12 line.ranking);
      counted = All-nil (λ (line : BallotLine). 1 ≤ line.count);
      bounded = omega arith;
    };
    names = names_short;
    title =
        let digits = length-decimal-le 4 number (omega arith) (omega arith) (omega arith) in
        let both = length-append (codes "Trial ") (decimal number) in
        omega (arith, digits, both);
  };
}

in_twelve : (n : ℕ) → 1 ≤ n → n ≤ 12 → IsIn 12 n
in_twelve n least most = record { least = least; most = most }

lots_in : All (IsIn 12) trial_lots
lots_in =
    All-from_recursion (IsIn 12) trial_lots (
      in_twelve 12 (omega arith) (omega arith),
      (
        in_twelve 11 (omega arith) (omega arith),
        (
          in_twelve 10 (omega arith) (omega arith),
          (
            in_twelve 9 (omega arith) (omega arith),
            (
              in_twelve 8 (omega arith) (omega arith),
              (
                in_twelve 7 (omega arith) (omega arith),
                (
                  in_twelve 6 (omega arith) (omega arith),
                  (
                    in_twelve 5 (omega arith) (omega arith),
                    (
                      in_twelve 4 (omega arith) (omega arith),
                      (
                        in_twelve 3 (omega arith) (omega arith),
                        (
                          in_twelve 2 (omega arith) (omega arith),
                          (in_twelve 1 (omega arith) (omega arith), tt),
                        ),
                      ),
                    ),
                  ),
                ),
              ),
            ),
          ),
        ),
      ),
    )

-- the lots fall from 12 to 1
lots_differ : AllPairs (λ a b. a ≢ b) trial_lots
lots_differ i j d before inside same =
    let one = get_or-map-range_with_len (λ i. 12 - i) 0 12 i i d (omega (arith, before, inside)) (omega arith) in
    let other = get_or-map-range_with_len (λ i. 12 - i) 0 12 j j d inside (omega arith) in
    absurd (omega (arith, one, other, same, before, inside))

-- ---- the day

pub is_made_day :
    (number : ℕ) → 1 ≤ number → number ≤ 1000
    → IsAccepted IsDay (scan (trial_day number) true) (made_day number)
is_made_day number least small =
    let text = whole (trial_day number) (all_items number) (no_mark number) (all_spelled number small) in
    record {
      at = text.at;
      ending = text.ending;
      file = record {
        roll_items = roll_items number;
        scale = None;
        teams = team_scripts number 4;
        spelled = text.items_are ∙ grouped number;
        roll = is_roll number small;
        lots = record { numbers = record { in_range = lots_in; different = lots_differ }; all = refl };
        scale_in = tt;
        places = refl;
        omega = refl;
        teams_are = are_teams number small;
        scripts = refl;
      };
    }
