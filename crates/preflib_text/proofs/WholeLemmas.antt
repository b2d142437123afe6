-- A whole text, by what was read of it.
use Rattle.std.proofs.Common.{◌≡◌, ℕ, ◌+◌, ◌≤◌, true, false, cond, eqb, List, [], ◌∷◌, map, length}
use Rattle.std.proofs.Common.{Option, Some, None, unwrap_or, is_none, refl, ap, sym, ◌∙◌, subst, arith}
use Rattle.std.specs.List.{filter_map, find, list_any, range_with_len, slice_get, cons_option}
use Rattle.std.specs.Option.{option_map, option_or, option_and_then}
use Rattle.std.proofs.lemmas.Bool.Decides.{nat_tests}
use Rattle.std.proofs.lemmas.List.{length-append}
use Rattle.plain_ballots.specs.declared.limits.TheConstants.{MOST_BALLOTS}
use Rattle.preflib_text.specs.declared.pref_fault.PrefFault.{PrefFault}
use Rattle.preflib_text.specs.declared.pref_kind.PrefKind.TheVariants.{BadHeader, NameExpected, WrongTotal}
use Rattle.preflib_text.specs.declared.pref_stop.PrefStop.{PrefStop}
use Rattle.preflib_text.specs.declared.pref_stop.PrefStop.TheVariants.{Fault, NoMemory}
use Rattle.preflib_text.specs.Asked.{Asked}
use Rattle.preflib_text.specs.Ballots.{entries, order_lines, end_line, line_behind}
use Rattle.preflib_text.specs.Faults.{Line, in_line}
use Rattle.preflib_text.specs.Head.{candidates, names, name_of, name_in, title, head_fault, bad_withdrawn}
use Rattle.preflib_text.specs.Heading.{front, behind, AreBehind, next_or_end, heading_fault}
use Rattle.preflib_text.specs.Known.{Named, Known, IsKnown, found, named_in, named_by, known_fault}
use Rattle.preflib_text.specs.Lines.{lines, form_fault}
use Rattle.preflib_text.specs.Metadata.{Key, Alternatives, Voters, Title, Name, Other, Entry, is_same}
use Rattle.preflib_text.specs.Reading.{Coming, AreAllRead, capped, end_of}
use Rattle.preflib_text.specs.Refusals.{behind_metadata, voters_fault}
use Rattle.preflib_text.specs.Stops.{IsPrefStop}
use Rattle.preflib_text.proofs.HeadingLemmas.{front_and_behind}

-- ---- names

turned : (m n : ℕ) → eqb m n ≡ eqb n m
turned m n = grind (arith, nat_tests)

abbrev by_name : Option Named → Option (List ℕ)
by_name o = option_map (λ named. named.name) o

one_name : (key : Key) (value : List ℕ) (n : ℕ) (names : List Named) (others : List (List ℕ))
    → found names n ≡ slice_get others 0
    → found (cons_option (named_by key value) names) n
    ≡ slice_get (cons_option (cond (is_same (Name (Some n)) key) (Some value) None) others) 0
one_name Alternatives value n names others is = is
one_name Voters value n names others is = is
one_name Title value n names others is = is
one_name (Name None) value n names others is = is
one_name (Name (Some m)) value n names others is =
    ap (λ b. by_name (cond b (Some (record { number = m; name = value })) (find (λ named. eqb named.number n) names)))
    (turned m n)
    ∙ (elim (eqb n m) as (λ b. by_name (cond b (Some (record { number = m; name = value }))
    (find (λ named. eqb named.number n) names)) ≡ slice_get (cons_option (cond b (Some value) None) others) 0) [
      | true ↦ refl
      | false ↦ is
    ])
one_name Other value n names others is = is

found_name : (n : ℕ) (es : List Entry) → found (filter_map named_in es) n ≡ name_of es n
found_name n [] = refl
found_name n (e ∷ es) =
    one_name e.key e.value n (filter_map named_in es) (filter_map (name_in n) es) (found_name n es)

module _ (es : List Entry) (known : Known) (is : IsKnown es known) where
  names_found : (n : ℕ) → found known.names n ≡ name_of es n
  names_found n = ap (λ names. found names n) is.names_are ∙ found_name n es

  pub known_candidates : (n : ℕ) → known.candidates ≡ Some n → n ≡ candidates es
  known_candidates n some = ap (λ o. unwrap_or o 0) (sym some ∙ is.candidates_are)

  pub known_names : (n : ℕ) → n ≡ candidates es
      → map (λ c. unwrap_or (found known.names c) []) (range_with_len 1 n) ≡ names es
  known_names n all =
      (λ i. map (λ c. unwrap_or (names_found c i) []) (range_with_len 1 (all i)))

  pub known_title : (asked : Asked) → unwrap_or (option_or asked.title known.title) [] ≡ title asked es
  known_title asked = ap (λ o. unwrap_or (option_or asked.title o) []) is.title_is

  pub same_known_fault : (asked : Asked) (line : Line) → known_fault asked known line ≡ head_fault asked es line
  same_known_fault asked line =
      ap (λ n. cond (eqb n 0) (Some (in_line line BadHeader 0))
      (cond (list_any (λ c. is_none (found known.names c)) (range_with_len 1 n)) (Some (in_line line NameExpected 0))
      (bad_withdrawn asked n))) (ap (λ o. unwrap_or o 0) is.candidates_are)
      ∙ (λ i. cond (eqb (candidates es) 0) (Some (in_line line BadHeader 0))
      (cond (list_any (λ c. is_none (names_found c i)) (range_with_len 1 (candidates es)))
      (Some (in_line line NameExpected 0)) (bad_withdrawn asked (candidates es))))

-- ---- the number of voters

same_total : (n ballots : ℕ) → ballots ≤ MOST_BALLOTS → eqb (capped n) ballots ≡ eqb n ballots
same_total n ballots few = grind (arith, nat_tests)

pub same_voters_fault : (voters : Option ℕ) (ballots : ℕ) (line : Line) → ballots ≤ MOST_BALLOTS
    → voters_fault (option_map capped voters) ballots line ≡ voters_fault voters ballots line
same_voters_fault None ballots line few = refl
same_voters_fault (Some n) ballots line few =
    ap (λ b. cond b None (Some (in_line line WrongTotal 0))) (same_total n ballots few)

-- ---- the line after the metadata, and the end

module _ (bytes : List ℕ) (middle : Coming)
    (read : AreBehind (record { bytes = bytes; row = 1; rest = lines bytes }) middle)
  where
    all_lines : length (lines bytes) ≡ length (front (lines bytes)) + length (order_lines bytes)
    all_lines =
        ap length (sym (front_and_behind (lines bytes))) ∙ length-append (front (lines bytes)) (behind (lines bytes))

    at_end : (row : ℕ) (other : List ℕ) → row ≡ length (lines bytes) + 1 → other ≡ bytes
        → record { row = row; at = length other; bytes = [] } ≡ end_line bytes
    at_end row other rows same = (λ i. record { row = rows i; at = length (same i); bytes = [] })

    next_line : (rest : List Line) → middle.rest ≡ rest → order_lines bytes ≡ rest
        → unwrap_or (slice_get rest 0) (end_of middle) ≡ unwrap_or (slice_get rest 0) (end_line bytes)
    next_line [] one other =
        let none = ap length other in
        at_end middle.row middle.bytes (omega (arith, read.row_is, all_lines)) read.bytes_are
    next_line (l ∷ ls) one other = refl

    same_next : next_or_end middle ≡ line_behind bytes
    same_next =
        next_line middle.rest refl (sym read.rest_is)
        ∙ ap (λ ls. unwrap_or (slice_get ls 0) (end_line bytes)) read.rest_is

    pub same_heading : (asked : Asked) (known : Known) → IsKnown (entries bytes) known
        → heading_fault asked known middle ≡ behind_metadata asked bytes
    same_heading asked known is =
        ap (λ ls. option_or (option_and_then form_fault (slice_get ls 0)) (known_fault asked known (next_or_end middle)))
        read.rest_is
        ∙ ap (λ l. option_or (option_and_then form_fault (slice_get (order_lines bytes) 0)) (known_fault asked known l))
        same_next
        ∙ ap (option_or (option_and_then form_fault (slice_get (order_lines bytes) 0)))
        (same_known_fault (entries bytes) known is asked (line_behind bytes))

    pub same_end : (last : Coming) → AreAllRead middle last → end_of last ≡ end_line bytes
    same_end last all =
        at_end last.row last.bytes
        (omega (arith, all.row_is, read.row_is, all_lines, ap length read.rest_is)) (all.bytes_are ∙ read.bytes_are)

-- ---- the first of several faults

pub first_stop : (one other : Option PrefFault) (stop : PrefStop) → IsPrefStop one stop
    → IsPrefStop (option_or one other) stop
first_stop one other NoMemory is = is
first_stop one other (Fault fault) is = ap (λ o. option_or o other) is

pub later_stop : (one other : Option PrefFault) (stop : PrefStop) → one ≡ None → IsPrefStop other stop
    → IsPrefStop (option_or one other) stop
later_stop one other stop none is = subst (λ (o : Option PrefFault). IsPrefStop (option_or o other) stop) (sym none) is
