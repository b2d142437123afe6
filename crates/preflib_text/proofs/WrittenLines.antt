-- An order that is written from equal ballots, as it is read.
use Rattle.std.proofs.Common.{◌≡◌, ◌≢◌, ℕ, ◌+◌, ◌-◌, ◌^◌, ◌<◌, ◌≤◌, Bool, true, false, eqb, List, [], ◌∷◌}
use Rattle.std.proofs.Common.{◌++◌, length, map, take, drop}
use Rattle.std.proofs.Common.{get_or, None, Ok, All, refl, ap, sym, ◌∙◌, subst, arith}
use Rattle.std.specs.List.{AllPairs, join_with_byte, list_any}
use Rattle.std.specs.Prelude.{decimal}
use Rattle.std.proofs.lemmas.Bool.Decides.{nat_tests}
use Rattle.std.proofs.lemmas.Bool.{eqb-true}
use Rattle.std.proofs.lemmas.List.{append-nil, append_assoc, length-append, length-drop, get_or_at, get_or_append_left}
use Rattle.std.proofs.lemmas.List.Elements.{All-head, All-tail}
use Rattle.std.proofs.lemmas.List.Folds.{list_any_none}
use Rattle.plain_ballots.specs.Ranking.{IsRanking}
use Rattle.plain_ballots.specs.declared.ballot_line.BallotLine.{BallotLine}
use Rattle.plain_ballots.specs.declared.limits.TheConstants.{MOST_CANDIDATES, MOST_BALLOTS}
use Rattle.ballot_marks.specs.declared.mark.Mark.{Mark}
use Rattle.ballot_marks.specs.Marks.{plain_mark}
use Rattle.preflib_text.specs.declared.braced.Braced.TheVariants.{Nobody}
use Rattle.preflib_text.specs.declared.expected.Expected.TheVariants.{Item, BehindItem}
use Rattle.preflib_text.specs.Orders.{count_fault, number_fault}
use Rattle.preflib_text.specs.Parts.{Number, Colon, Comma, End, Placed, ends_in_digit, parts}
use Rattle.preflib_text.specs.Reading.{parts_from}
use Rattle.preflib_text.specs.Standing.{Stand, starting, next, unless_misplaced, read}
use Rattle.preflib_text.specs.Written.{order_line}
use Rattle.preflib_text.proofs.NumberLemmas.{written, number_part, behind_number}
use Rattle.preflib_text.proofs.PartLemmas.{at_end, at_sign, behind, ends_more, over_blank}
use Rattle.preflib_text.proofs.ReadLemmas.{all_parts}

-- ---- a candidate after others

differs : (c d : ℕ) (t : Bool) → eqb d c ≡ t → d ≢ c → t ≡ false
differs c d true is other = absurd (other (eqb-true d c is))
differs c d false is other = refl

-- a candidate is after others of a ranking, and is none of them
none_before : (others ranks : List ℕ) (c : ℕ) → AllPairs (λ a b. a ≢ b) (others ++ c ∷ ranks)
    → list_any (λ d. eqb d c) others ≡ false
none_before others ranks c pairs =
    list_any_none (λ d. eqb d c) others (λ j d below.
    let long = length-append others (c ∷ ranks) in
    let there : get_or (others ++ c ∷ ranks) (length others) d ≡ c = get_or_at others c ranks d (length others) refl in
    let here : get_or (others ++ c ∷ ranks) j d ≡ get_or others j d = get_or_append_left others (c ∷ ranks) d j below in
    let inside : length others < length (others ++ c ∷ ranks) = omega (arith, long) in
    differs c (get_or others j d) _ refl (λ same. pairs j (length others) d below inside (here ∙ same ∙ sym there)))

no_fault : (n c : ℕ) (others : List ℕ) → 1 ≤ c → c ≤ n → list_any (λ d. eqb d c) others ≡ false
    → number_fault n others c ≡ None
no_fault n c others low high none = grind (arith, nat_tests)

counts : (room k : ℕ) → 1 ≤ k → k ≤ room → count_fault room k ≡ None
counts room k low high = grind (arith, nat_tests)

module _ (room n k : ℕ) where
  -- an order as far as it is read, before an item and after it
  abbrev at_item : List ℕ → List Mark → List ℕ → Stand
  at_item listed marks places = record {
    candidates = n;
    expected = Item;
    count = k;
    listed = listed;
    marks = marks;
    places = places;
    open_at = 0;
    braced = Nobody;
  }

  abbrev behind_item : List ℕ → List Mark → List ℕ → Stand
  behind_item listed marks places = record (at_item listed marks places) { expected = BehindItem }

  -- parts are read to their end, and are these marks after the count
  pub record ReadsMarks (s : Stand) (ps : List Placed) (marks : List Mark) : Type 0 where
    pub last : Stand
    pub read_is : read room s ps ≡ Ok last
    pub marks_are : last.marks ≡ marks
    pub count_is : last.count ≡ k

  abbrev IsOneOf : ℕ → Type 0
  IsOneOf c = (1 ≤ c) × (c ≤ n)

  module _ (bytes : List ℕ) (few : n ≤ MOST_CANDIDATES) where
    -- one candidate is read
    one_read :
        (c i : ℕ) (listed : List ℕ) (marks : List Mark) (places : List ℕ) (ps : List Placed)
        → number_fault n listed c ≡ None
        → read room (at_item listed marks places) (record { at = i; part = Number c } ∷ ps)
        ≡ read room (behind_item (listed ++ c ∷ []) (marks ++ plain_mark c ∷ []) (places ++ i ∷ [])) ps
    one_read c i listed marks places ps sound =
        ap (λ fault. unless_misplaced fault i
        (read room (behind_item (listed ++ c ∷ []) (marks ++ plain_mark c ∷ []) (places ++ i ∷ [])) ps)) sound

    items_read : (ranks listed : List ℕ) (marks : List Mark) (places : List ℕ) (i : ℕ) → 1 ≤ length ranks
        → All IsOneOf ranks → AllPairs (λ a b. a ≢ b) (listed ++ ranks)
        → drop i bytes ≡ join_with_byte 44 (map decimal ranks) → ends_in_digit (take i bytes) ≡ false
        → ReadsMarks (at_item listed marks places) (parts_from bytes i) (marks ++ map plain_mark ranks)
    items_read [] listed marks places i some each pairs is ends = absurd (omega arith)
    items_read (c ∷ []) listed marks places i some each pairs is ends =
        let one = All-head IsOneOf c [] each in
        let j = i + length (decimal c) in
        let small : c < 2 ^ 64 = omega (arith, one.0, one.1, few) in
        let front : drop i bytes ≡ decimal c ++ [] = is ∙ sym (append-nil (decimal c)) in
        let short : length bytes - i ≡ length (decimal c) = sym (length-drop i bytes) ∙ ap length is in
        let end : j ≡ length bytes = omega (arith, short, (written c small).some) in
        let all = number_part bytes i (decimal c) [] c (written c small) front tt ends
        ∙ ap (λ ps. record { at = i; part = Number c } ∷ ps) (at_end bytes j end) in
        record {
          last = behind_item (listed ++ c ∷ []) (marks ++ plain_mark c ∷ []) (places ++ i ∷ []);
          read_is = ap (read room (at_item listed marks places)) all
              ∙ one_read c i listed marks places (record { at = j; part = End } ∷ [])
              (no_fault n c listed one.0 one.1 (none_before listed [] c pairs));
          marks_are = refl;
          count_is = refl;
        }
    items_read (c ∷ d ∷ ranks) listed marks places i some each pairs is ends =
        let one = All-head IsOneOf c (d ∷ ranks) each in
        let others = join_with_byte 44 (map decimal (d ∷ ranks)) in
        let j = i + length (decimal c) in
        let small : c < 2 ^ 64 = omega (arith, one.0, one.1, few) in
        let comma : drop j bytes ≡ 44 ∷ others = behind_number bytes i (decimal c) (44 ∷ others) is in
        let all = number_part bytes i (decimal c) (44 ∷ others) c (written c small) is refl ends
        ∙ ap (λ ps. record { at = i; part = Number c } ∷ ps) (at_sign bytes j 44 others comma refl refl) in
        let more =
        items_read (d ∷ ranks) (listed ++ c ∷ []) (marks ++ plain_mark c ∷ []) (places ++ i ∷ []) (j + 1) (omega arith)
        (All-tail IsOneOf c (d ∷ ranks) each)
        (subst (AllPairs (λ a b. a ≢ b)) (sym (append_assoc listed (c ∷ []) (d ∷ ranks))) pairs)
        (behind bytes j 44 others comma) (ends_more bytes j 44 others comma) in
        record {
          last = more.last;
          read_is = ap (read room (at_item listed marks places)) all
              ∙ one_read c i listed marks places (record { at = j; part = Comma } ∷ parts_from bytes (j + 1))
              (no_fault n c listed one.0 one.1 (none_before listed (d ∷ ranks) c pairs))
              ∙ more.read_is;
          marks_are = more.marks_are ∙ append_assoc marks (plain_mark c ∷ []) (map plain_mark (d ∷ ranks));
          count_is = more.count_is;
        }

-- an order's line is read to its end
pub line_read : (room n : ℕ) (line : BallotLine) → n ≤ MOST_CANDIDATES → room ≤ MOST_BALLOTS → 1 ≤ line.count
    → line.count ≤ room → IsRanking n line.ranking → 1 ≤ length line.ranking
    → ReadsMarks room n line.count (starting n) (parts (order_line line)) (map plain_mark line.ranking)
line_read room n line few most low high is some =
    let bytes = order_line line in
    let k = line.count in
    let rest = join_with_byte 44 (map decimal line.ranking) in
    let i = length (decimal k) in
    let small : k < 2 ^ 64 = omega (arith, high, most) in
    let colon : drop (0 + i) bytes ≡ 58 ∷ 32 ∷ rest = behind_number bytes 0 (decimal k) (58 ∷ 32 ∷ rest) refl in
    let space = behind bytes (0 + i) 58 (32 ∷ rest) colon in
    let all = all_parts bytes ∙ number_part bytes 0 (decimal k) (58 ∷ 32 ∷ rest) k (written k small) refl refl refl
    ∙ ap (λ ps. record { at = 0; part = Number k } ∷ ps)
    (at_sign bytes (0 + i) 58 (32 ∷ rest) colon refl refl
    ∙ ap (λ ps. record { at = 0 + i; part = Colon } ∷ ps) (over_blank bytes (0 + i + 1) 32 rest space refl)) in
    let more =
    items_read room n k bytes few line.ranking [] [] [] (0 + i + 1 + 1) some is.numbers is.different
    (behind bytes (0 + i + 1) 32 rest space) (ends_more bytes (0 + i + 1) 32 rest space) in
    let behind_count = record { at = 0 + i; part = Colon } ∷ parts_from bytes (0 + i + 1 + 1) in
    record {
      last = more.last;
      read_is = ap (read room (starting n)) all
          ∙ ap (λ fault. unless_misplaced fault 0 (read room (next (starting n) 0 (Number k)) behind_count))
          (counts room k low high)
          ∙ more.read_is;
      marks_are = more.marks_are;
      count_is = more.count_is;
    }
