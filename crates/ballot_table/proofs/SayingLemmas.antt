-- Rows that say rankings.
use Rattle.std.proofs.Common.{◌≡◌, ℕ, suc, zero, ◌+◌, ◌-◌, ◌==◌, Bool, true, false, cond, List, [], ◌∷◌, ◌++◌}
use Rattle.std.proofs.Common.{length, map, take, zip}
use Rattle.std.proofs.Common.{Option, Some, None, All, replicate, refl, ap, ◌∙◌, arith, min}
use Rattle.std.specs.List.{filter_map, cons_option, enumerate_from, slice_get}
use Rattle.std.specs.Option.{option_map, option_or, unwrap_or}
use Rattle.std.proofs.lemmas.Bool.{eq-eqb}
use Rattle.std.proofs.lemmas.List.Elements.{All-nil, All-cons, All-head, All-tail}
use Rattle.plain_ballots.specs.Ranking.{IsRanking}
use Rattle.ballot_marks.specs.declared.mark.Mark.{Mark}
use Rattle.ballot_marks.specs.declared.says.Says.{Says}
use Rattle.ballot_marks.specs.declared.says.Says.TheVariants.{One}
use Rattle.ballot_marks.specs.Marks.{plain_mark}
use Rattle.ballot_marks.specs.Laws.{PlainMarksAreRanked, strict}
use Rattle.ballot_table.specs.declared.column.Column.{Column}
use Rattle.ballot_table.specs.declared.empty.Empty.TheVariants.{Keep}
use Rattle.ballot_table.specs.declared.table_kind.TableKind.TheVariants.{UnequalRow}
use Rattle.ballot_table.specs.Asked.{Asked}
use Rattle.ballot_table.specs.declared.fault.Fault.{Fault}
use Rattle.ballot_table.specs.Faults.{first_fault, sound}
use Rattle.ballot_table.specs.Head.{columns, head_fault, names_of}
use Rattle.ballot_table.specs.Layouts.{SayRankings}
use Rattle.ballot_table.specs.Rows.{Row, all_blank, by_rank, cells_of, marks_of, room_behind, row_fault}
use Rattle.ballot_table.specs.Rows.{row_of, said_at, weight_in}
use Rattle.ballot_table.specs.Table.{ballots, rows_of}
use Rattle.ballot_table.proofs.BallotsLemmas.{joined}
use Rattle.ballot_table.proofs.FaultLemmas.{IsNothing}
use Rattle.ballot_table.proofs.RoomLemmas.{rows_free}
use Rattle.ballot_table.proofs.WeightLemmas.{IsFine, no_fault}

-- ---- marks of ranks from the first on

-- one candidate at each of the first ranks, and so many blank ranks after them
abbrev pub plainly : List ℕ → ℕ → List (Option Says)
plainly ranks j = map (λ c. Some (One c)) ranks ++ replicate j None

-- what is said at each rank after some
abbrev placed : ℕ → List ℕ → List (ℕ × Says)
placed behind [] = []
placed behind (c ∷ ranks) = (behind + 1, One c) ∷ placed (behind + 1) ranks

module _ (f : ℕ × Option Says → Option (ℕ × Says)) (blank : (rank : ℕ) → f (rank, None) ≡ None)
    (said : (rank : ℕ) (s : Says) → f (rank, Some s) ≡ Some (rank, s))
  where
    blank_ranks : (behind j : ℕ) → filter_map f (enumerate_from behind (replicate j None)) ≡ []
    blank_ranks behind zero = refl
    blank_ranks behind (suc j) =
        ap (λ o. cons_option o (filter_map f (enumerate_from (behind + 1) (replicate j None)))) (blank behind)
        ∙ blank_ranks (behind + 1) j

    said_ranks : (behind j : ℕ) (ranks : List ℕ)
        → filter_map f (enumerate_from (behind + 1) (plainly ranks j)) ≡ placed behind ranks
    said_ranks behind j [] = blank_ranks (behind + 1) j
    said_ranks behind j (c ∷ ranks) =
        ap (λ o. cons_option o (filter_map f (enumerate_from (behind + 1 + 1) (plainly ranks j))))
        (said (behind + 1) (One c))
        ∙ ap (λ l. (behind + 1, One c) ∷ l) (said_ranks (behind + 1) j ranks)

marked : (behind : ℕ) (ranks : List ℕ)
    → map (λ (p : ℕ × (ℕ × Says)). record { skipped = p.1.0 - p.0 - 1; says = p.1.1 })
    (zip (behind ∷ map (λ (s : ℕ × Says). s.0) (placed behind ranks)) (placed behind ranks))
    ≡ map plain_mark ranks
marked behind [] = refl
marked behind (c ∷ ranks) =
    let none : behind + 1 - behind - 1 ≡ 0 = omega arith in
    let more = map (λ (p : ℕ × (ℕ × Says)). record { skipped = p.1.0 - p.0 - 1; says = p.1.1 })
    (zip ((behind + 1) ∷ map (λ (s : ℕ × Says). s.0) (placed (behind + 1) ranks)) (placed (behind + 1) ranks)) in
    ap (λ (k : ℕ). record { skipped = k; says = One c } ∷ more) none
    ∙ ap (λ (ms : List Mark). plain_mark c ∷ ms) (marked (behind + 1) ranks)

pub plain_marks : (ranks : List ℕ) (j : ℕ) → marks_of (by_rank (plainly ranks j)) ≡ map plain_mark ranks
plain_marks ranks j =
    ap marks_of (said_ranks _ (λ rank. refl) (λ rank s. refl) 0 j ranks) ∙ marked 0 ranks

-- ---- a row

-- one ballot of these plain marks
abbrev pub stood : List ℕ → Row
stood ranks = record { count = 1; marks = map plain_mark ranks }

pub record SaysRanking (asked : Asked) (room : ℕ) (cols : List Column) (texts : List (List ℕ)) (ranks : List ℕ) : Type 0
  where
    pub fault : row_fault asked Keep room cols texts ≡ None
    pub row : row_of asked Keep room cols texts ≡ Some (stood ranks)

either : (b : Bool) (o : Option Fault) → o ≡ None → cond b o o ≡ None
either true o none = none
either false o none = none

module _ (asked : Asked) (room : ℕ) (cols : List Column) (texts : List (List ℕ)) (ranks : List ℕ) where
  pub says_ranking : length texts ≡ length cols → filter_map weight_in (zip cols texts) ≡ []
      → All IsFine (cells_of asked room cols texts) → (j : ℕ)
      → said_at asked.layout cols (sound (cells_of asked room cols texts)) ≡ plainly ranks j
      → SaysRanking asked room cols texts ranks
  says_ranking long weightless fine j said =
      let cells = first_fault (cells_of asked room cols texts) in
      let unequal : Fault = record { kind = UnequalRow; place = min (length texts) (length cols) + 1 } in
      let same : (length texts == length cols) ≡ true = eq-eqb (length texts) (length cols) long in
      record {
        fault =
            ap (λ (b : Bool). option_or (cond b None (Some unequal)) (cond (all_blank texts) cells cells)) same
            ∙ either (all_blank texts) cells (no_fault 1 (cells_of asked room cols texts) fine);
        row =
            ap (λ (ks : List ℕ). Some (record {
              count = unwrap_or (slice_get ks 0) 1;
              marks = marks_of (by_rank (said_at asked.layout cols (sound (cells_of asked room cols texts))));
            })) weightless
            ∙ ap (λ (says : List (Option Says)). Some (record { count = 1; marks = marks_of (by_rank says) })) said
            ∙ ap (λ (marks : List Mark). Some (record { count = 1; marks = marks })) (plain_marks ranks j);
      }

-- ---- rows

module _ (plain : PlainMarksAreRanked) (asked : Asked) (head : List (List ℕ)) (n : ℕ) (row : List ℕ → List (List ℕ))
    (says : (room : ℕ) (ranks : List ℕ) → IsRanking n ranks → SaysRanking asked room (columns asked head) (row ranks) ranks)
  where
    abbrev cols : List Column
    cols = columns asked head

    all_sound : (room : ℕ → ℕ) (from : ℕ) (rankings : List (List ℕ)) → All (IsRanking n) rankings
        → All IsNothing (map (λ (r : ℕ × List (List ℕ)). row_fault asked Keep r.0 cols r.1)
        (map (λ (at : ℕ × List (List ℕ)). (room at.0, at.1)) (enumerate_from from (map row rankings))))
    all_sound room from [] all = All-nil IsNothing
    all_sound room from (ranks ∷ rankings) all =
        All-cons IsNothing (row_fault asked Keep (room from) cols (row ranks))
        (map (λ (r : ℕ × List (List ℕ)). row_fault asked Keep r.0 cols r.1)
        (map (λ (at : ℕ × List (List ℕ)). (room at.0, at.1)) (enumerate_from (from + 1) (map row rankings))))
        (says (room from) ranks (All-head (IsRanking n) ranks rankings all)).fault
        (all_sound room (from + 1) rankings (All-tail (IsRanking n) ranks rankings all))

    all_stand : (rankings : List (List ℕ)) → All (IsRanking n) rankings
        → filter_map (row_of asked Keep 0 cols) (map row rankings) ≡ map stood rankings
    all_stand [] all = refl
    all_stand (ranks ∷ rankings) all =
        ap (λ (o : Option Row). cons_option o (filter_map (row_of asked Keep 0 cols) (map row rankings)))
        (says 0 ranks (All-head (IsRanking n) ranks rankings all)).row
        ∙ ap (λ (rows : List Row). stood ranks ∷ rows) (all_stand rankings (All-tail (IsRanking n) ranks rankings all))

    all_ranked : (rankings : List (List ℕ)) → All (IsRanking n) rankings
        → ballots strict (map stood rankings) ≡ Some rankings
    all_ranked [] all = refl
    all_ranked (ranks ∷ rankings) all =
        let one = plain strict ranks (All-head (IsRanking n) ranks rankings all).different in
        ap (λ (o : Option (List ℕ)). joined (option_map (λ (r : List ℕ). replicate 1 r) o)
        (ballots strict (map stood rankings))) one
        ∙ ap (joined (Some (ranks ∷ []))) (all_ranked rankings (All-tail (IsRanking n) ranks rankings all))

    pub say_rankings : head_fault asked head ≡ None → (rankings : List (List ℕ)) → All (IsRanking n) rankings
        → SayRankings asked head (map row rankings) rankings
    say_rankings head_sound rankings all =
        let rows = map row rankings in
        let room = λ (i : ℕ). room_behind cols (take i rows) in
        let stand : rows_of asked Keep cols rows ≡ map stood rankings =
        rows_free asked Keep cols room 0 rows ∙ all_stand rankings all in
        record {
          counted = record {
            table = record { names = names_of asked head; rows = rows_of asked Keep cols rows };
            is_table = record {
              head_sound = head_sound;
              rows_sound = all_sound room 0 rankings all;
              names = refl;
              rows = refl;
            };
            rankings = rankings;
            ranked = ap (ballots strict) stand ∙ all_ranked rankings all;
          };
          same = refl;
        }
