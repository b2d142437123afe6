-- The text of a bag of ballots is a ballot file of its roll and of these ballots.
use Rattle.std.proofs.Common.{◌≡◌, ℕ, zero, suc, ◌^◌, ◌<◌, ◌≤◌, true, false, List, [], ◌∷◌, ◌++◌, length, map}
use Rattle.std.proofs.Common.{replicate, All, get_or, nat_eq, refl, sym, ap, subst, ◌∙◌, arith, append_assoc}
use Rattle.std.proofs.Common.{append-nil}
use Rattle.std.specs.Prelude.{decimal, codes}
use Rattle.std.specs.List.{flat_map}
use Rattle.std.specs.Char.{is_ascii_digit}
use Rattle.std.proofs.lemmas.Bool.Decides.{nat_tests}
use Rattle.std.proofs.lemmas.Fmt.{decimal_nonempty}
use Rattle.std.proofs.lemmas.List.Elements.{All-nil, All-cons, All-head, All-tail, All-weaker}
use Rattle.std.proofs.lemmas.List.Sums.{get_or-le-sum_by}
use Rattle.std.proofs.lemmas.List.Sorted.{All-permutation, IsPermutation-sym, length_permutation}
use Rattle.candidate_roll.specs.declared.limits.TheConstants.{MOST_NAME_BYTES, MOST_TITLE_BYTES}
use Rattle.candidate_roll.specs.Name.{IsName}
use Rattle.candidate_roll.specs.Roll.{RollList}
use Rattle.plain_ballots.specs.declared.ballot_line.BallotLine.{BallotLine}
use Rattle.plain_ballots.specs.Ballots.{plain}
use Rattle.plain_ballots.specs.Ranking.{IsRanking}
use Rattle.plain_ballots.proofs.PlainLemmas.{length-plain}
use Rattle.input_text.specs.Token.{Item, Number, Minus, Text, Scan}
use Rattle.input_text.specs.Scan.{mark_len, scan}
use Rattle.blt_reader.specs.Poll.{Poll}
use Rattle.input_text.specs.Refusal.{items_of, IsAccepted}
use Rattle.input_text.specs.Range.{IsIn}
use Rattle.blt_reader.specs.Blt.{AreLines, ballot, ballots, opening, IsBlt}
use Rattle.input_text.specs.Written.{Spells, Each, IsWhole}
use Rattle.input_text.proofs.Spelling.{parts, whole}
use Rattle.input_text.proofs.WrittenRuns.{digits_of}
use Rattle.blt_writer.specs.Order.{AreLinesOf}
use Rattle.blt_writer.specs.Text.{head_text, withdrawn_numbers, withdrawn_text, ballot_text, quoted}
use Rattle.blt_writer.specs.Text.{opening_text, closing_text, file_text}
use Rattle.blt_writer.specs.Laws.{IsNamedRoll, AreBallotsOf, TextsAreRead}
use Rattle.blt_writer.proofs.Marks.{marks_are, numbers_are}
use Rattle.blt_writer.proofs.Spelled as spelled
use Rattle.blt_writer.proofs.Spelled.{IsSmall, IsSmallLine}
use Rattle.blt_writer.proofs.WordlessCuts.{NoWords, cut_alike}

-- ---- the lines

first_of :
    (P : List ℕ → Type 0) (n : ℕ) (r : List ℕ) (rest : List (List ℕ)) → 1 ≤ n → All P (replicate n r ++ rest) → P r
first_of P zero r rest some all = absurd (omega arith)
first_of P (suc n) r rest some all = All-head P r (replicate n r ++ rest) all

behind : (P : List ℕ → Type 0) (n : ℕ) (r : List ℕ) (rest : List (List ℕ)) → All P (replicate n r ++ rest) → All P rest
behind P zero r rest all = all
behind P (suc n) r rest all = behind P n r rest (All-tail P r (replicate n r ++ rest) all)

-- what holds of each ballot holds of each line's ranking
of_each_line :
    (P : List ℕ → Type 0) (ls : List BallotLine) → All (λ line. 1 ≤ line.count) ls → All P (plain ls)
    → All (λ line. P line.ranking) ls
of_each_line P [] counted all = All-nil (λ (line : BallotLine). P line.ranking)
of_each_line P (line ∷ ls) counted all =
    let some = All-head (λ (l : BallotLine). 1 ≤ l.count) line ls counted in
    All-cons (λ (l : BallotLine). P l.ranking) line ls (first_of P line.count line.ranking (plain ls) some all)
    (of_each_line P ls (All-tail (λ (l : BallotLine). 1 ≤ l.count) line ls counted)
    (behind P line.count line.ranking (plain ls) all))

pub are_lines :
    (roll : RollList) (bag : List (List ℕ)) (ls : List BallotLine) → AreBallotsOf roll bag → AreLinesOf bag ls
    → AreLines (length roll.names) 999999999 ls
are_lines roll bag ls of are = record {
  rankings = of_each_line (IsRanking (length roll.names)) ls are.counted
      (All-permutation (IsRanking (length roll.names)) bag (plain ls)
      (IsPermutation-sym (plain ls) bag are.same) of.rankings);
  counted = are.counted;
  bounded = omega (arith, length-plain ls, length_permutation (plain ls) bag are.same, of.few);
}

-- ---- small numbers

small_lines : (n : ℕ) (ls : List BallotLine) → n ≤ 250 → AreLines n 999999999 ls → All IsSmallLine ls
small_lines n ls few are i d inside =
    let count = get_or-le-sum_by (λ (line : BallotLine). line.count) ls i d inside in
    record {
      count = omega (arith, count, are.bounded);
      ranks =
          All-weaker (λ (r : ℕ). (1 ≤ r) × (r ≤ n)) IsSmall (λ r in_range. omega (arith, in_range.1))
          (get_or ls i d).ranking
          (are.rankings i d inside).numbers;
    }

-- ---- the items

abbrev pub items : RollList → List BallotLine → List Item
items roll ls =
    opening (length roll.names) roll.seats (withdrawn_numbers roll.withdrawn)
    ++ (ballots ls ++ (map Text roll.names ++ Text roll.title ∷ []))

spells :
    (roll : RollList) (ls : List BallotLine) → IsNamedRoll roll → All IsSmallLine ls
    → Spells (file_text roll ls) (items roll ls)
spells roll ls named small =
    let ws = withdrawn_numbers roll.withdrawn in
    let n = length roll.names in
    let closing = map Text roll.names ++ Text roll.title ∷ [] in
    let few_marks : length roll.withdrawn ≤ 4294967295 =
    omega (arith, named.roll_is.same_length, named.roll_is.few_candidates) in
    let listed : All IsSmall ws =
    All-weaker (IsIn (length roll.withdrawn)) IsSmall (λ c in_range. omega (arith, in_range.most)) ws
    (numbers_are roll.withdrawn) in
    let front =
    parts (head_text n roll.seats) (flat_map withdrawn_text ws) (Number n ∷ Number roll.seats ∷ [])
    (map Minus ws)
    (spelled.head n roll.seats (omega (arith, named.roll_is.few_candidates)) (omega (arith, named.roll_is.few_seats)))
    (spelled.withdrawn ws listed) in
    let strings = parts (flat_map quoted roll.names) (quoted roll.title) (map Text roll.names) (Text roll.title ∷ [])
    (spelled.names MOST_NAME_BYTES roll.names named.names) (spelled.one_name MOST_TITLE_BYTES roll.title named.title) in
    let back =
    parts (codes "0\n") (flat_map quoted roll.names ++ quoted roll.title) (Number 0 ∷ []) closing
    spelled.zero_line strings in
    let rest =
    parts (flat_map ballot_text ls) (closing_text roll) (flat_map ballot ls) (Number 0 ∷ closing)
    (spelled.lines ls small) back in
    let grouped : flat_map ballot ls ++ (Number 0 ∷ closing) ≡ ballots ls ++ closing =
    sym (append_assoc (flat_map ballot ls) (Number 0 ∷ []) closing) in
    parts (opening_text roll) (flat_map ballot_text ls ++ closing_text roll) (opening n roll.seats ws)
    (ballots ls ++ closing) front
    (subst (Spells (flat_map ballot_text ls ++ closing_text roll)) grouped rest)

-- ---- no words

pub no_words_append : (xs ys : List Item) → NoWords xs → NoWords ys → NoWords (xs ++ ys)
no_words_append [] ys one other = other
no_words_append (x ∷ xs) ys one other = (one.0, no_words_append xs ys one.1 other)

no_words_in_minus : (ns : List ℕ) → NoWords (map Minus ns)
no_words_in_minus [] = tt
no_words_in_minus (n ∷ ns) = (tt, no_words_in_minus ns)

no_words_in_numbers : (ns : List ℕ) → NoWords (map Number ns)
no_words_in_numbers [] = tt
no_words_in_numbers (n ∷ ns) = (tt, no_words_in_numbers ns)

no_words_in_texts : (texts : List (List ℕ)) → NoWords (map Text texts)
no_words_in_texts [] = tt
no_words_in_texts (text ∷ texts) = (tt, no_words_in_texts texts)

no_words_in_ballots : (ls : List BallotLine) → NoWords (flat_map ballot ls)
no_words_in_ballots [] = tt
no_words_in_ballots (line ∷ ls) =
    no_words_append (ballot line) (flat_map ballot ls) (
      tt,
      no_words_append (map Number line.ranking) (Number 0 ∷ []) (no_words_in_numbers line.ranking)
          (tt, tt),
    ) (no_words_in_ballots ls)

no_words : (roll : RollList) (ls : List BallotLine) → NoWords (items roll ls)
no_words roll ls = (
  tt,
  (
    tt,
    no_words_append (map Minus (withdrawn_numbers roll.withdrawn))
        (ballots ls ++ (map Text roll.names ++ Text roll.title ∷ []))
        (no_words_in_minus (withdrawn_numbers roll.withdrawn))
        (no_words_append (ballots ls) (map Text roll.names ++ Text roll.title ∷ [])
        (no_words_append (flat_map ballot ls) (Number 0 ∷ []) (no_words_in_ballots ls) (tt, tt))
        (no_words_append (map Text roll.names) (Text roll.title ∷ []) (no_words_in_texts roll.names) (tt, tt))),
  ),
)

-- ---- the whole text

-- a text that begins with a digit has no byte order mark
no_mark : (digits rest : List ℕ) → 0 < length digits → Each is_ascii_digit digits → mark_len (digits ++ rest) ≡ 0
no_mark [] rest some each = absurd (omega arith)
no_mark (b ∷ digits) rest some each = let other : nat_eq 239 b ≡ false = grind (arith, nat_tests) in rw other refl

unmarked : (roll : RollList) (ls : List BallotLine) → length roll.names ≤ 250 → mark_len (file_text roll ls) ≡ 0
unmarked roll ls few =
    let n = length roll.names in
    let fits : n < 2 ^ 64 = omega arith in
    simp append_assoc (no_mark (decimal n) _ (decimal_nonempty n fits) (digits_of n fits))

file_of : (roll : RollList) (ls : List BallotLine) → IsNamedRoll roll → AreLines (length roll.names) 999999999 ls
    → IsBlt 999999999 (items roll ls) (record { roll = roll; lines = ls })
file_of roll ls named are = record {
  front = items roll ls;
  further = [];
  spelled = sym (append-nil (items roll ls));
  up_to_title = record {
    withdrawn = withdrawn_numbers roll.withdrawn;
    spelled = refl;
    candidates = record { least = named.roll_is.some_candidate; most = named.roll_is.few_candidates };
    seats = record { least = named.roll_is.some_seat; most = named.roll_is.few_seats };
    each_withdrawn =
        subst (λ (n : ℕ). All (IsIn n) (withdrawn_numbers roll.withdrawn)) named.roll_is.same_length
        (numbers_are roll.withdrawn);
    marks = marks_are (length roll.names) roll.withdrawn named.roll_is.same_length;
    lines = are;
    names = All-weaker (IsName MOST_NAME_BYTES) (λ (name : List ℕ). length name ≤ MOST_NAME_BYTES) (λ name is. is.short) roll.names named.names;
    title = named.title.short;
  };
}

-- a text that is spelled without words is accepted as a file may have none
accepted_without_words :
    (text : List ℕ) (all : List Item) (poll : Poll) → mark_len text ≡ 0 → Spells text all → NoWords all
    → IsBlt 999999999 all poll
    → IsAccepted (IsBlt 999999999) (scan text false) poll
accepted_without_words text all poll unmarked spells wordless file =
    let is : IsWhole (scan text true) all = whole text all unmarked spells in
    let same : scan text false ≡ scan text true =
    cut_alike text 0 (mark_len text) is.at (subst NoWords (sym is.items_are) wordless) is.ending in
    record {
      at = is.at;
      ending = ap (λ (s : Scan). s.ending) same ∙ is.ending;
      file =
          subst (λ (l : List Item). IsBlt 999999999 l poll)
          (sym (ap (λ (s : Scan). items_of s.tokens) same ∙ is.items_are)) file;
    }

pub texts_are_read : TextsAreRead
texts_are_read roll bag text named of (ls, are, is) =
    let lines = are_lines roll bag ls of are in
    let small = small_lines (length roll.names) ls named.roll_is.few_candidates lines in
    record {
      poll = record { roll = roll; lines = ls };
      file =
          subst
          (λ (t : List ℕ). IsAccepted (IsBlt 999999999) (scan t false) (record { roll = roll; lines = ls }))
          (sym is)
          (accepted_without_words (file_text roll ls) (items roll ls) (record { roll = roll; lines = ls })
          (unmarked roll ls named.roll_is.few_candidates) (spells roll ls named small) (no_words roll ls)
          (file_of roll ls named lines));
      roll_is = refl;
      ballots_are = are.same;
    }
