-- A fault of a ballot file is in it, or at most two bytes after it. So a place in what is after a sheet is
-- one in the whole, too.
use Rattle.std.proofs.Common.{ℕ, ◌+◌, ◌-◌, ◌^◌, ◌<◌, ◌≤◌, ◌==◌, ◌&&◌, zero, suc, List, [], ◌∷◌, ◌++◌, length, drop}
use Rattle.std.proofs.Common.{Bool, true, false, cond, ap, subst, arith, inl, inr}
use Rattle.std.specs.List.{prefix_len, take_while}
use Rattle.std.specs.Char.{is_ascii_digit, is_ascii_lowercase}
use Rattle.std.proofs.lemmas.List.Sums.{prefix_len-le-length}
use Rattle.input_text.specs.declared.input_fault.InputFault.{InputFault}
use Rattle.input_text.specs.declared.input_stop.InputStop.{InputStop}
use Rattle.input_text.specs.declared.input_stop.InputStop.TheVariants.{Fault, NoMemory}
use Rattle.input_text.specs.Token.{Number, Minus, Word, Placed, Ending, AtEnd, AtFault, Scan}
use Rattle.input_text.specs.Scan.{is_separator, is_in_line, is_in_string, number, may_follow, Piece, Gap}
use Rattle.input_text.specs.Scan.{Lexeme, Wrong, Unclosed, number_piece, minus_piece, closed_by, string_piece}
use Rattle.input_text.specs.Scan.{word_piece, piece, beginning, cut, mark_len, scan}
use Rattle.blt_reader.specs.Said.{of_a_file, IsFileRefusal}
use Rattle.input_text.specs.Reads.{OnFault}
use Rattle.tool_edge.specs.Contest.{IsRefusedFile}

-- ---- one piece

-- the piece has no fault further after than this
abbrev IsNear : ℕ → Piece → Type 0
IsNear len (Gap n) = Unit {0}
IsNear len (Lexeme item n) = Unit {0}
IsNear len (Wrong n) = n ≤ len
IsNear len (Unclosed n) = n ≤ len

either_near : (t : Bool) (p q : Piece) (len : ℕ) → IsNear len p → IsNear len q → IsNear len (cond t p q)
either_near true p q len one other = one
either_near false p q len one other = other

number_near : (bytes : List ℕ) (len : ℕ) → length bytes ≤ len → IsNear len (number_piece bytes)
unfolding number_piece
number_near bytes len fits =
    let n : ℕ = prefix_len is_ascii_digit bytes in
    either_near (may_follow (drop n bytes)) (Lexeme (Number (number (take_while is_ascii_digit bytes))) n) (Wrong n) len tt
    (omega (arith, fits, prefix_len-le-length is_ascii_digit bytes))

word_near : (bytes : List ℕ) (len : ℕ) → length bytes ≤ len → IsNear len (word_piece bytes)
unfolding word_piece
word_near bytes len fits =
    let n : ℕ = prefix_len is_ascii_lowercase bytes in
    either_near (may_follow (drop n bytes)) (Lexeme (Word (take_while is_ascii_lowercase bytes)) n) (Wrong n) len tt
    (omega (arith, fits, prefix_len-le-length is_ascii_lowercase bytes))

minus_near : (behind : List ℕ) (len : ℕ) → length behind + 2 ≤ len → IsNear len (minus_piece behind)
unfolding minus_piece
minus_near behind len fits =
    let n : ℕ = prefix_len is_ascii_digit behind in
    let found : Piece = Lexeme (Minus (number (take_while is_ascii_digit behind))) (n + 1) in
    let after = may_follow (drop n behind) in
    either_near (n == 0) (Wrong 0) (cond after found (Wrong (n + 1))) len (omega arith)
    (either_near after found (Wrong (n + 1)) len tt (omega (arith, fits, prefix_len-le-length is_ascii_digit behind)))

closed_near : (behind : List ℕ) (n : ℕ) (rest : List ℕ) (len : ℕ) → n + 2 ≤ len → IsNear len (closed_by behind n rest)
closed_near behind n [] len fits = omega arith
closed_near behind n (b ∷ rest) len fits =
    either_near (b == 34) _ (Wrong (n + 1)) len
    (either_near (may_follow rest) _ (Wrong (n + 2)) len tt fits)
    (omega arith)

string_near : (behind : List ℕ) (len : ℕ) → length behind + 2 ≤ len → IsNear len (string_piece behind)
unfolding string_piece
string_near behind len fits =
    let n : ℕ = prefix_len is_in_string behind in
    closed_near behind n (drop n behind) len (omega (arith, fits, prefix_len-le-length is_in_string behind))

piece_near : (letters : Bool) (b : ℕ) (behind : List ℕ) → IsNear (length behind + 2) (piece letters (b ∷ behind))
unfolding piece
piece_near letters b behind =
    let len : ℕ = length behind + 2 in
    let rest : List ℕ = b ∷ behind in
    let fits : length rest ≤ len = omega arith in
    let same : length behind + 2 ≤ len = omega arith in
    let none : 0 ≤ len = omega arith in
    let word =
    either_near (letters && is_ascii_lowercase b) (word_piece rest) (Wrong 0) len
    (word_near rest len fits) none in
    let string = either_near (b == 34) (string_piece behind) _ len (string_near behind len same) word in
    let minus = either_near (b == 45) (minus_piece behind) _ len (minus_near behind len same) string in
    let digits = either_near (is_ascii_digit b) (number_piece rest) _ len (number_near rest len fits) minus in
    either_near (is_separator b) (Gap 1) _ len tt
    (either_near (b == 35) (Gap (1 + prefix_len is_in_line behind)) _ len tt digits)

-- ---- a text

abbrev AreBefore : ℕ → List Placed → Type 0
AreBefore place [] = Unit {0}
AreBefore place (token ∷ tokens) = (token.at ≤ place) × AreBefore place tokens

abbrev EndsBefore : ℕ → Ending → Type 0
EndsBefore place (AtEnd at) = at ≤ place
EndsBefore place (AtFault fault) = fault.at ≤ place

-- No token, no fault and no end of the text is after this place.
record IsBefore (place : ℕ) (text : Scan) : Type 0 where
  tokens : AreBefore place text.tokens
  ending : EndsBefore place text.ending

begins_before :
    (at : ℕ) (p : Piece) (rest : ℕ → Scan) (len place : ℕ) → IsNear len p → at + len ≤ place
    → ((n : ℕ) → IsBefore place (rest n)) → IsBefore place (beginning at p rest)
begins_before at (Gap n) rest len place near fits later = later n
begins_before at (Lexeme item n) rest len place near fits later =
    record { tokens = (omega (arith, fits), (later n).tokens); ending = (later n).ending }
begins_before at (Wrong n) rest len place near fits later = record { tokens = tt; ending = omega (arith, near, fits) }
begins_before at (Unclosed n) rest len place near fits later = record { tokens = tt; ending = omega (arith, near, fits) }

cut_before :
    (letters : Bool) (at skip : ℕ) (bytes : List ℕ) (place : ℕ) → at + length bytes + 2 ≤ place
    → IsBefore place (cut letters at skip bytes)
unfolding cut
cut_before letters at zero [] place fits = record { tokens = tt; ending = omega (arith, fits) }
cut_before letters at (suc skip) [] place fits = record { tokens = tt; ending = omega (arith, fits) }
cut_before letters at (suc skip) (b ∷ behind) place fits =
    cut_before letters (at + 1) skip behind place (omega (arith, fits))
cut_before letters at zero (b ∷ behind) place fits =
    begins_before at (piece letters (b ∷ behind)) (λ n. cut letters (at + 1) (n - 1) behind) (length behind + 2) place
    (piece_near letters b behind) (omega (arith, fits))
    (λ n. cut_before letters (at + 1) (n - 1) behind place (omega (arith, fits)))

-- ---- a refusal

before_there :
    (place : ℕ) (front : List Placed) (token : Placed) (behind : List Placed)
    → AreBefore place (front ++ token ∷ behind) → token.at ≤ place
before_there place [] token behind are = are.0
before_there place (first ∷ front) token behind are = before_there place front token behind are.1

refusal_before :
    (text : Scan) (fault : InputFault) (place : ℕ) → IsBefore place text → IsFileRefusal of_a_file text fault
    → fault.at ≤ place
refusal_before text fault place is (inl token) =
    let at : token.token.at ≤ place =
    before_there place token.front token.token token.behind
    (subst (λ (ts : List Placed). AreBefore place ts) token.split is.tokens) in
    omega (arith, at, token.place)
refusal_before text fault place is (inr (inl ends)) = subst (λ (e : Ending). EndsBefore place e) ends.ending is.ending
refusal_before text fault place is (inr (inr short)) =
    let at : short.at ≤ place = subst (λ (e : Ending). EndsBefore place e) short.ending is.ending in
    omega (arith, at, ap (λ (f : InputFault). f.at) short.fault_is)

file_refusal_near : (file : List ℕ) (fault : InputFault) → IsRefusedFile file fault → fault.at ≤ length file + 2
file_refusal_near file fault refused =
    refusal_before (scan file false) fault (length file + 2)
    (cut_before false 0 (mark_len file) file (length file + 2) (omega arith)) refused

-- so there is room for its place in the whole
pub room_for_place :
    (before : ℕ) (file : List ℕ) (stop : InputStop) → before + length file + 2 < 2 ^ 64
    → OnFault stop (λ fault. IsRefusedFile file fault) → OnFault stop (λ fault. before + fault.at < 2 ^ 64)
room_for_place before file (Fault fault) short refused = omega (arith, short, file_refusal_near file fault refused)
room_for_place before file NoMemory short refused = tt
