-- Rows of lists that say rankings.
use Rattle.std.proofs.Common.{◌≡◌, ◌≢◌, ℕ, ◌≤◌, ◌==◌, Bool, true, false, List, [], ◌∷◌, map, filter_map, slice_get}
use Rattle.std.proofs.Common.{Option, Some, Result, Ok, All, refl, ap, sym, ◌∙◌, subst, append-nil}
use Rattle.std.specs.List.{join_with_byte, slice_split}
use Rattle.std.proofs.lemmas.Bool.{eqb-true}
use Rattle.std.proofs.lemmas.List.Elements.{All-nil, All-cons, All-head, All-tail}
use Rattle.std.proofs.lemmas.List.Splits.{slice_split_at, slice_split_none}
use Rattle.plain_ballots.specs.Ranking.{IsRanking}
use Rattle.ballot_marks.specs.declared.says.Says.{Says}
use Rattle.ballot_marks.specs.declared.says.Says.TheVariants.{One}
use Rattle.ballot_marks.specs.Laws.{PlainMarksAreRanked}
use Rattle.ballot_table.specs.declared.column.Column.{Column}
use Rattle.ballot_table.specs.declared.column.Column.TheVariants as column
use Rattle.ballot_table.specs.declared.layout.Layout.{Layout}
use Rattle.ballot_table.specs.declared.layout.Layout.TheVariants as layout
use Rattle.ballot_table.specs.declared.table_kind.TableKind.{TableKind}
use Rattle.ballot_table.specs.Asked.{Asked}
use Rattle.ballot_table.specs.Faults.{sound}
use Rattle.ballot_table.specs.Texts.{parts, trimmed}
use Rattle.ballot_table.specs.Cells.{Listed, all_of, all_or, as_cell, fault_one, says_in}
use Rattle.ballot_table.specs.Layouts.{AreNames, ListsSayRankings, StandsInList, list_row}
use Rattle.ballot_table.specs.Rows.{cells_of, said_at, listed_of}
use Rattle.ballot_table.proofs.SayingLemmas.{SaysRanking, plainly, say_rankings, says_ranking}
use Rattle.ballot_table.proofs.WeightLemmas.{IsFine}

-- ---- names with semicolons between them

no_end : (b : ℕ) (is : Bool) → (b == 59) ≡ is → b ≢ 59 → is ≡ false
no_end b true is other = absurd (other (eqb-true b 59 is))
no_end b false is other = refl

none_ends : (name : List ℕ) → StandsInList name → All (λ b. (b == 59) ≡ false) name
none_ends name stands = λ i d below. no_end _ _ refl (stands.no_semicolon i d below)

cut_again : (name : List ℕ) (names : List (List ℕ)) → All StandsInList (name ∷ names)
    → slice_split (λ b. b == 59) (join_with_byte 59 (name ∷ names)) ≡ name ∷ names
cut_again name [] all =
    slice_split_none (λ b. b == 59) name (none_ends name (All-head StandsInList name [] all))
cut_again name (other ∷ names) all =
    slice_split_at (λ b. b == 59) name 59 (join_with_byte 59 (other ∷ names))
    (none_ends name (All-head StandsInList name (other ∷ names) all)) refl
    ∙ ap (λ l. name ∷ l) (cut_again other names (All-tail StandsInList name (other ∷ names) all))

trimmed_names : (names : List (List ℕ)) → All StandsInList names → map trimmed names ≡ names
trimmed_names [] all = refl
trimmed_names (name ∷ names) all =
    ap (λ first. first ∷ map trimmed names) (All-head StandsInList name names all).trimmed_is
    ∙ ap (λ l. name ∷ l) (trimmed_names names (All-tail StandsInList name names all))

module _ (asked : Asked) (name : ℕ → List ℕ) (n : ℕ) (named : AreNames asked name n)
    (stand : (c : ℕ) → 1 ≤ c → c ≤ n → StandsInList (name c))
  where
    abbrev IsOneOf : ℕ → Type 0
    IsOneOf c = (1 ≤ c) × (c ≤ n)

    all_stand : (ranks : List ℕ) → All IsOneOf ranks → All StandsInList (map name ranks)
    all_stand [] all = All-nil StandsInList
    all_stand (c ∷ ranks) all =
        let here = All-head IsOneOf c ranks all in
        All-cons StandsInList (name c) (map name ranks) (stand c here.0 here.1)
        (all_stand ranks (All-tail IsOneOf c ranks all))

    -- what parts say, all of them
    record AllSay (texts : List (List ℕ)) (says : List (Option Says)) : Type 0 where
      none : filter_map fault_one (map (says_in asked) texts) ≡ []
      said : sound (map (says_in asked) texts) ≡ says

    names_say : (ranks : List ℕ) → All IsOneOf ranks → AllSay (map name ranks) (map (λ c. Some (One c)) ranks)
    names_say [] all = record { none = refl; said = refl }
    names_say (c ∷ ranks) all =
        let here = All-head IsOneOf c ranks all in
        let is = named c here.0 here.1 in
        let more = names_say ranks (All-tail IsOneOf c ranks all) in
        let others = map (says_in asked) (map name ranks) in
        record {
          none = ap (λ (r : Result (Option Says) TableKind). filter_map fault_one (r ∷ others)) is ∙ more.none;
          said =
              ap (λ (r : Result (Option Says) TableKind). sound (r ∷ others)) is
              ∙ ap (λ (l : List (Option Says)). Some (One c) ∷ l) more.said;
        }

    all_said : (texts : List (List ℕ)) (says : List (Option Says)) → AllSay texts says
        → all_of (map (says_in asked) texts) ≡ Ok says
    all_said texts says all =
        ap (λ (kinds : List TableKind). all_or (slice_get kinds 0) (map (says_in asked) texts)) all.none ∙ ap Ok all.said

    -- how many blank ranks a list has: one where it is empty
    abbrev blanks : List ℕ → ℕ
    blanks [] = 1
    blanks (c ∷ ranks) = 0

    list_says : (ranks : List ℕ) → All IsOneOf ranks
        → all_of (map (says_in asked) (parts (join_with_byte 59 (map name ranks)))) ≡ Ok (plainly ranks (blanks ranks))
    list_says [] all = refl
    list_says (c ∷ ranks) all =
        let names = map name (c ∷ ranks) in
        let stands = all_stand (c ∷ ranks) all in
        let same : parts (join_with_byte 59 names) ≡ names =
        ap (map trimmed) (cut_again (name c) (map name ranks) stands) ∙ trimmed_names names stands in
        ap (λ (texts : List (List ℕ)). all_of (map (says_in asked) texts)) same
        ∙ all_said names (map (λ c. Some (One c)) (c ∷ ranks)) (names_say (c ∷ ranks) all)
        ∙ ap Ok (sym (append-nil (map (λ c. Some (One c)) (c ∷ ranks))))

    says_list : asked.layout ≡ layout.List → (room : ℕ) (ranks : List ℕ) → IsRanking n ranks
        → SaysRanking asked room (column.List ∷ []) (list_row name ranks) ranks
    says_list is_list room ranks is =
        let text = join_with_byte 59 (map name ranks) in
        let says = plainly ranks (blanks ranks) in
        let said = list_says ranks is.numbers in
        says_ranking asked room (column.List ∷ []) (list_row name ranks) ranks refl refl
        (All-cons IsFine (as_cell Listed (all_of (map (says_in asked) (parts text)))) []
        (ap (λ (r : Result (List (Option Says)) TableKind). fault_one (as_cell Listed r)) said) (All-nil IsFine))
        (blanks ranks)
        (ap (λ (l : Layout). said_at l (column.List ∷ []) (sound (cells_of asked room (column.List ∷ []) (list_row name ranks)))) is_list
        ∙ ap (λ (r : Result (List (Option Says)) TableKind). listed_of (sound (as_cell Listed r ∷ []))) said
        ∙ append-nil says)

pub lists_say_rankings : PlainMarksAreRanked → ListsSayRankings
lists_say_rankings plain asked head name n rankings has named stand all =
    say_rankings plain asked head n (list_row name)
    (λ room ranks is. subst (λ (cols : List Column). SaysRanking asked room cols (list_row name ranks) ranks)
    (sym has.columns_are) (says_list asked name n named stand has.layout room ranks is))
    has.sound rankings all
