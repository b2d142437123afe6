-- The title and the names of a day file can be printed: no string is cut with a byte that can't.
use Rattle.std.proofs.Common.{◌≡◌, ℕ, ◌+◌, ◌-◌, ◌==◌, ◌&&◌, zero, suc, List, [], ◌∷◌, ◌++◌, length}
use Rattle.std.proofs.Common.{drop, take, map}
use Rattle.std.proofs.Common.{Bool, true, false, cond, not, refl, ap, ◌∙◌, subst, arith, nat_le}
use Rattle.std.specs.Prelude.{All}
use Rattle.std.specs.List.{prefix_len, take_while}
use Rattle.std.specs.Char.{is_ascii_digit, is_ascii_lowercase}
use Rattle.std.proofs.lemmas.Bool.{and_parts}
use Rattle.std.proofs.lemmas.Bool.Decides.{nat_tests}
use Rattle.std.proofs.lemmas.List.Elements.{All-nil, All-cons}
use Rattle.std.proofs.lemmas.List.FromFn.{length-map-range_with_len}
use Rattle.candidate_roll.specs.declared.limits.TheConstants.{MOST_NAME_BYTES, MOST_TITLE_BYTES}
use Rattle.candidate_roll.specs.Name.{IsPrintable, IsName}
use Rattle.candidate_roll.specs.Roll.{RollList, IsRoll}
use Rattle.input_text.specs.Token.{Item, Number, Minus, Text, Word, Scan}
use Rattle.input_text.specs.Refusal.{items_of}
use Rattle.input_text.specs.Scan.{is_separator, is_in_line, is_in_string, number, may_follow, Piece, Gap}
use Rattle.input_text.specs.Scan.{Lexeme, Wrong, Unclosed, number_piece, minus_piece, closed_by, string_piece}
use Rattle.input_text.specs.Scan.{word_piece, piece, beginning, cut, mark_len, scan}
use Rattle.blt_reader.specs.Poll.{Poll}
use Rattle.blt_reader.specs.Blt.{opening, ballots, IsBlt}
use Rattle.day_reader.specs.declared.day.Day.{Day}
use Rattle.day_reader.specs.Day.{IsDay}

-- ---- one piece

abbrev IsPlain : Item → Type 0
IsPlain (Text bytes) = All IsPrintable bytes
IsPlain (Number n) = Unit {0}
IsPlain (Minus n) = Unit {0}
IsPlain (Word letters) = Unit {0}

-- a string in it can be printed
abbrev IsPlainPiece : Piece → Type 0
IsPlainPiece (Gap n) = Unit {0}
IsPlainPiece (Lexeme item n) = IsPlain item
IsPlainPiece (Wrong n) = Unit {0}
IsPlainPiece (Unclosed n) = Unit {0}

either_plain : (t : Bool) (p q : Piece) → IsPlainPiece p → IsPlainPiece q → IsPlainPiece (cond t p q)
either_plain true p q one other = one
either_plain false p q one other = other

printed : (b : ℕ) → is_in_string b ≡ true → IsPrintable b
printed b is =
    let parts = and_parts (nat_le 32 b) (not (b == 34)) is in
    (grind (arith, nat_tests, parts.0), λ same. absurd (grind (arith, nat_tests, parts.1, same)))

front_printed : (bytes : List ℕ) → All IsPrintable (take (prefix_len is_in_string bytes) bytes)
front_printed [] = All-nil IsPrintable
front_printed (b ∷ bytes) = by (is_in_string b) refl (front_printed bytes)
  where
    by :
        (t : Bool) → is_in_string b ≡ t → All IsPrintable (take (prefix_len is_in_string bytes) bytes)
        → All IsPrintable (take (cond t (1 + prefix_len is_in_string bytes) 0) (b ∷ bytes))
    by true is rest =
        let n = prefix_len is_in_string bytes in
        let more : suc n ≡ 1 + n = omega arith in
        subst (λ (k : ℕ). All IsPrintable (take k (b ∷ bytes))) more
        (All-cons IsPrintable b (take n bytes) (printed b is) rest)
    by false is rest = All-nil IsPrintable

number_plain : (bytes : List ℕ) → IsPlainPiece (number_piece bytes)
unfolding number_piece
number_plain bytes =
    either_plain (may_follow (drop (prefix_len is_ascii_digit bytes) bytes))
    (Lexeme (Number (number (take_while is_ascii_digit bytes))) (prefix_len is_ascii_digit bytes))
    (Wrong (prefix_len is_ascii_digit bytes)) tt tt

word_plain : (bytes : List ℕ) → IsPlainPiece (word_piece bytes)
unfolding word_piece
word_plain bytes =
    either_plain (may_follow (drop (prefix_len is_ascii_lowercase bytes) bytes))
    (Lexeme (Word (take_while is_ascii_lowercase bytes)) (prefix_len is_ascii_lowercase bytes))
    (Wrong (prefix_len is_ascii_lowercase bytes)) tt tt

minus_plain : (behind : List ℕ) → IsPlainPiece (minus_piece behind)
unfolding minus_piece
minus_plain behind =
    let n : ℕ = prefix_len is_ascii_digit behind in
    let found : Piece = Lexeme (Minus (number (take_while is_ascii_digit behind))) (n + 1) in
    let after = may_follow (drop n behind) in
    either_plain (n == 0) (Wrong 0) (cond after found (Wrong (n + 1))) tt (either_plain after found (Wrong (n + 1)) tt tt)

closed_plain :
    (behind : List ℕ) (n : ℕ) (rest : List ℕ) → All IsPrintable (take n behind)
    → IsPlainPiece (closed_by behind n rest)
closed_plain behind n [] can = tt
closed_plain behind n (b ∷ rest) can =
    either_plain (b == 34) _ (Wrong (n + 1))
    (either_plain (may_follow rest) (Lexeme (Text (take n behind)) (n + 2)) (Wrong (n + 2)) can tt) tt

string_plain : (behind : List ℕ) → IsPlainPiece (string_piece behind)
unfolding string_piece
string_plain behind =
    closed_plain behind (prefix_len is_in_string behind) (drop (prefix_len is_in_string behind) behind)
    (front_printed behind)

piece_plain : (letters : Bool) (b : ℕ) (behind : List ℕ) → IsPlainPiece (piece letters (b ∷ behind))
unfolding piece
piece_plain letters b behind =
    let rest : List ℕ = b ∷ behind in
    let word = either_plain (letters && is_ascii_lowercase b) (word_piece rest) (Wrong 0) (word_plain rest) tt in
    let string = either_plain (b == 34) (string_piece behind) _ (string_plain behind) word in
    let minus = either_plain (b == 45) (minus_piece behind) _ (minus_plain behind) string in
    let digits = either_plain (is_ascii_digit b) (number_piece rest) _ (number_plain rest) minus in
    either_plain (is_separator b) (Gap 1) _ tt (either_plain (b == 35) (Gap (1 + prefix_len is_in_line behind)) _ tt digits)

-- ---- a text

abbrev ArePlain : List Item → Type 0
ArePlain [] = Unit {0}
ArePlain (item ∷ items) = IsPlain item × ArePlain items

begins_plain :
    (at : ℕ) (p : Piece) (rest : ℕ → Scan) → IsPlainPiece p → ((n : ℕ) → ArePlain (items_of (rest n).tokens))
    → ArePlain (items_of (beginning at p rest).tokens)
begins_plain at (Gap n) rest is later = later n
begins_plain at (Lexeme item n) rest is later = (is, later n)
begins_plain at (Wrong n) rest is later = tt
begins_plain at (Unclosed n) rest is later = tt

cut_plain : (letters : Bool) (at skip : ℕ) (bytes : List ℕ) → ArePlain (items_of (cut letters at skip bytes).tokens)
unfolding cut
cut_plain letters at zero [] = tt
cut_plain letters at (suc skip) [] = tt
cut_plain letters at (suc skip) (b ∷ behind) = cut_plain letters (at + 1) skip behind
cut_plain letters at zero (b ∷ behind) =
    begins_plain at (piece letters (b ∷ behind)) (λ n. cut letters (at + 1) (n - 1) behind) (piece_plain letters b behind)
    (λ n. cut_plain letters (at + 1) (n - 1) behind)

-- ---- parts of a list of items

first_part : (xs ys : List Item) → ArePlain (xs ++ ys) → ArePlain xs
first_part [] ys are = tt
first_part (x ∷ xs) ys are = (are.0, first_part xs ys are.1)

last_part : (xs ys : List Item) → ArePlain (xs ++ ys) → ArePlain ys
last_part [] ys are = are
last_part (x ∷ xs) ys are = last_part xs ys are.1

each_name : (names : List (List ℕ)) → ArePlain (map Text names) → All (All IsPrintable) names
each_name [] are = All-nil (All IsPrintable)
each_name (name ∷ names) are = All-cons (All IsPrintable) name names are.0 (each_name names are.1)

-- ---- the roll

-- a roll of 1 to 250 candidates and seats, whose title and names can be printed
pub record IsPrintedRoll (roll : RollList) : Type 0 where
  pub sound : IsRoll roll
  pub names : All (IsName MOST_NAME_BYTES) roll.names
  pub title : IsName MOST_TITLE_BYTES roll.title

-- the roll of a ballot file that was cut so
of_file : (most : ℕ) (items : List Item) (poll : Poll) → ArePlain items → IsBlt most items poll → IsPrintedRoll poll.roll
of_file most items poll are file =
    let front = file.up_to_title in
    let roll = poll.roll in
    let spelled = first_part file.front (map Text file.further) (subst ArePlain file.spelled are) in
    let head = opening (length roll.names) roll.seats front.withdrawn in
    let behind =
    last_part (ballots poll.lines) (map Text roll.names ++ Text roll.title ∷ [])
    (last_part head _ (subst ArePlain front.spelled spelled)) in
    let names = each_name roll.names (first_part (map Text roll.names) (Text roll.title ∷ []) behind) in
    let title = last_part (map Text roll.names) (Text roll.title ∷ []) behind in
    record {
      sound = record {
        some_seat = front.seats.least;
        few_seats = front.seats.most;
        some_candidate = front.candidates.least;
        few_candidates = front.candidates.most;
        same_length = ap length front.marks ∙ length-map-range_with_len _ 0 (length roll.names);
      };
      names = λ k d inside. record { short = front.names k d inside; printable = names k d inside };
      title = record { short = front.title; printable = title.0 };
    }

-- the roll of a day file
pub printed_roll :
    (input : List ℕ) (letters : Bool) (day : Day) → IsDay (items_of (scan input letters).tokens) day
    → IsPrintedRoll day.roll
printed_roll input letters day is =
    let plain = cut_plain letters 0 (mark_len input) input in
    of_file 0 is.roll_items (record { roll = day.roll; lines = [] })
    (first_part is.roll_items _ (subst ArePlain is.spelled plain)) is.roll
