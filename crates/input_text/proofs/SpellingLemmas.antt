-- What the pieces of a text are made of.
use Rattle.std.proofs.Common.{◌≡◌, ◌≢◌, ℕ, ◌+◌, ◌<◌, ◌≤◌, List, [], ◌∷◌, ◌++◌, length, take, drop, get_or}
use Rattle.std.proofs.Common.{Bool, true, false, cond, ◌==◌, ◌&&◌, refl, sym, ap, subst, ◌∙◌, arith, add-one}
use Rattle.std.proofs.Common.{length-drop}
use Rattle.std.specs.List.{prefix_len, take_while}
use Rattle.std.specs.Char.{is_ascii_digit, is_ascii_lowercase}
use Rattle.std.proofs.lemmas.Bool.{eqb-true, and_parts, eq-eqb, false≢true}
use Rattle.std.proofs.lemmas.List.{take-append-drop, take_more, drop_more}
use Rattle.std.proofs.lemmas.List.Sums.{prefix_len-le-length, prefix_len_stops}
use Rattle.std.proofs.lemmas.List.Folds.{length-prefix_len}
use Rattle.input_text.specs.Token.{Item, Number, Minus, Text, Word}
use Rattle.input_text.specs.Scan.{Piece, Gap, Lexeme, Wrong, Unclosed, is_separator, is_in_line, is_in_string}
use Rattle.input_text.specs.Scan.{number, may_follow, number_piece, minus_piece, closed_by, string_piece}
use Rattle.input_text.specs.Scan.{word_piece, piece}
use Rattle.input_text.specs.Spelling.{Spells, IsLineEnd, GoesOver, Nothing, Separator, Comment}
use Rattle.input_text.proofs.Runs.{run_passes}

-- a piece at the front of a text: what is passed over, or the bytes of a token and what may follow it
abbrev pub IsPieceOf : List ℕ → Piece → Type 0
IsPieceOf xs (Gap n) = (0 < n) × (n ≤ length xs) × GoesOver (drop n xs) xs
IsPieceOf xs (Lexeme item n) = (0 < n) × (n ≤ length xs) × Spells item (take n xs) × (may_follow (drop n xs) ≡ true)
IsPieceOf xs (Wrong n) = Unit {0}
IsPieceOf xs (Unclosed n) = Unit {0}

take_next : (b : ℕ) (xs : List ℕ) (n : ℕ) → take (n + 1) (b ∷ xs) ≡ b ∷ take n xs
take_next b xs n = ap (λ (m : ℕ). take m (b ∷ xs)) (add-one n)

drop_next : (b : ℕ) (xs : List ℕ) (n : ℕ) → drop (n + 1) (b ∷ xs) ≡ drop n xs
drop_next b xs n = ap (λ (m : ℕ). drop m (b ∷ xs)) (add-one n)

some_run : (p : ℕ → Bool) (b : ℕ) (behind : List ℕ) → p b ≡ true → 0 < prefix_len p (b ∷ behind)
some_run p b behind passes = subst (λ (c : Bool). 0 < cond c (1 + prefix_len p behind) 0) (sym passes) (omega arith)

token_is :
    (item : Item) (n : ℕ) (xs : List ℕ) → 0 < n → n ≤ length xs → Spells item (take n xs) → (f : Bool)
    → may_follow (drop n xs) ≡ f → IsPieceOf xs (cond f (Lexeme item n) (Wrong n))
token_is item n xs some within spells true follows = (some, within, spells, follows)
token_is item n xs some within spells false follows = tt

number_is : (b : ℕ) (behind : List ℕ) → is_ascii_digit b ≡ true → IsPieceOf (b ∷ behind) (number_piece (b ∷ behind))
unfolding number_piece
number_is b behind digit =
    let xs : List ℕ = b ∷ behind in
    let n : ℕ = prefix_len is_ascii_digit xs in
    let some : 0 < n = some_run is_ascii_digit b behind digit in
    let long : 1 ≤ length (take n xs) = omega (arith, some, length-prefix_len is_ascii_digit xs) in
    token_is (Number (number (take_while is_ascii_digit xs))) n xs some (prefix_len-le-length is_ascii_digit xs)
    (long, run_passes is_ascii_digit xs, refl) (may_follow (drop n xs)) refl

word_is : (b : ℕ) (behind : List ℕ) → is_ascii_lowercase b ≡ true → IsPieceOf (b ∷ behind) (word_piece (b ∷ behind))
unfolding word_piece
word_is b behind letter =
    let xs : List ℕ = b ∷ behind in
    let n : ℕ = prefix_len is_ascii_lowercase xs in
    let some : 0 < n = some_run is_ascii_lowercase b behind letter in
    let long : 1 ≤ length (take n xs) = omega (arith, some, length-prefix_len is_ascii_lowercase xs) in
    token_is (Word (take_while is_ascii_lowercase xs)) n xs some (prefix_len-le-length is_ascii_lowercase xs)
    (long, run_passes is_ascii_lowercase xs, refl) (may_follow (drop n xs)) refl

minus_is : (behind : List ℕ) → IsPieceOf (45 ∷ behind) (minus_piece behind)
unfolding minus_piece
minus_is behind =
    go (prefix_len is_ascii_digit behind == 0) (may_follow (drop (prefix_len is_ascii_digit behind) behind))
    refl refl
  where
    n : ℕ
    n = prefix_len is_ascii_digit behind

    go :
        (none follows : Bool) → (n == 0) ≡ none → may_follow (drop n behind) ≡ follows
        → IsPieceOf (45 ∷ behind)
        (cond none (Wrong 0)
        (cond follows (Lexeme (Minus (number (take_while is_ascii_digit behind))) (n + 1)) (Wrong (n + 1))))
    go true follows is may = tt
    go false false is may = tt
    go false true is may =
        let some : n ≢ 0 = λ same. false≢true (sym is ∙ eq-eqb n 0 same) in
        let long : 1 ≤ length (take n behind) = omega (arith, some, length-prefix_len is_ascii_digit behind) in (
          omega arith,
          omega (arith, prefix_len-le-length is_ascii_digit behind),
          (take n behind, take_next 45 behind n, long, run_passes is_ascii_digit behind, refl),
          ap may_follow (drop_next 45 behind n) ∙ may,
        )

string_is : (behind : List ℕ) → IsPieceOf (34 ∷ behind) (string_piece behind)
unfolding string_piece
string_is behind = go (drop (prefix_len is_in_string behind) behind) refl
  where
    n : ℕ
    n = prefix_len is_in_string behind

    closed :
        (b : ℕ) (rest : List ℕ) → drop n behind ≡ b ∷ rest → (quote follows : Bool) → (b == 34) ≡ quote
        → may_follow rest ≡ follows → IsPieceOf (34 ∷ behind)
        (cond quote (cond follows (Lexeme (Text (take n behind)) (n + 2)) (Wrong (n + 2))) (Wrong (n + 1)))
    closed b rest is false follows at may = tt
    closed b rest is true false at may = tt
    closed b rest is true true at may =
        let below : n < length behind = omega (arith, length-drop n behind, ap length is) in
        let split = sym (drop_more behind n 0 below) ∙ is in
        let here : get_or behind n 0 ≡ 34 = ap (λ (xs : List ℕ). get_or xs 0 0) split ∙ eqb-true b 34 at in
        let two : n + 2 ≡ n + 1 + 1 = omega arith in
        let spelled : take (n + 2) (34 ∷ behind) ≡ 34 ∷ (take n behind ++ 34 ∷ []) =
        ap (λ (m : ℕ). take m (34 ∷ behind)) two ∙ (take_next 34 behind (n + 1)
        ∙ ap (λ (xs : List ℕ). 34 ∷ xs) (take_more behind n 0 below ∙ ap (λ (q : ℕ). take n behind ++ q ∷ []) here)) in
        let behind_it : drop (n + 2) (34 ∷ behind) ≡ rest =
        ap (λ (m : ℕ). drop m (34 ∷ behind)) two ∙ (drop_next 34 behind (n + 1) ∙ ap (λ (xs : List ℕ). drop 1 xs) split) in
        (omega arith, omega arith, (spelled, run_passes is_in_string behind), ap may_follow behind_it ∙ may)

    go : (tail : List ℕ) → drop n behind ≡ tail → IsPieceOf (34 ∷ behind) (closed_by behind n tail)
    go [] is = tt
    go (b ∷ rest) is = closed b rest is (b == 34) (may_follow rest) refl refl

line_end : (behind tail : List ℕ) → drop (prefix_len is_in_line behind) behind ≡ tail → IsLineEnd tail
line_end behind [] is = tt
line_end behind (b ∷ rest) is =
    let n : ℕ = prefix_len is_in_line behind in
    let below : n < length behind = omega (arith, length-drop n behind, ap length is) in
    let here : get_or behind n 0 ≡ b = ap (λ (xs : List ℕ). get_or xs 0 0) (sym (drop_more behind n 0 below) ∙ is) in
    ap is_in_line (sym here) ∙ prefix_len_stops is_in_line behind 0 below

comment_is : (behind : List ℕ) → IsPieceOf (35 ∷ behind) (Gap (1 + prefix_len is_in_line behind))
comment_is behind =
    let n : ℕ = prefix_len is_in_line behind in
    let one_more : 1 + n ≡ n + 1 = omega arith in
    let same : drop (1 + n) (35 ∷ behind) ≡ drop n behind =
    ap (λ (m : ℕ). drop m (35 ∷ behind)) one_more ∙ drop_next 35 behind n in
    let over : GoesOver (drop n behind) (35 ∷ (take n behind ++ drop n behind)) =
    Comment (take n behind) (drop n behind) (run_passes is_in_line behind)
    (line_end behind (drop n behind) refl) Nothing in (
      omega arith,
      omega (arith, prefix_len-le-length is_in_line behind),
      subst (λ (t : List ℕ). GoesOver (drop (1 + n) (35 ∷ behind)) (35 ∷ t)) (take-append-drop n behind)
          (subst (λ (r : List ℕ). GoesOver r (35 ∷ (take n behind ++ drop n behind))) (sym same) over),
    )

-- each piece is what it says
pub piece_is : (letters : Bool) (b : ℕ) (behind : List ℕ) → IsPieceOf (b ∷ behind) (piece letters (b ∷ behind))
unfolding piece
piece_is letters b behind =
    go (is_separator b) (b == 35) (is_ascii_digit b) (b == 45) (b == 34) (letters && is_ascii_lowercase b)
    refl refl refl refl refl refl
  where
    go :
        (s h d m q l : Bool) → is_separator b ≡ s → (b == 35) ≡ h → is_ascii_digit b ≡ d → (b == 45) ≡ m → (b == 34) ≡ q
        → (letters && is_ascii_lowercase b) ≡ l → IsPieceOf (b ∷ behind)
        (cond s (Gap 1) (cond h (Gap (1 + prefix_len is_in_line behind))
        (cond d (number_piece (b ∷ behind))
        (cond m (minus_piece behind) (cond q (string_piece behind) (cond l (word_piece (b ∷ behind)) (Wrong 0)))))))
    go true h d m q l is e1 e2 e3 e4 e5 = (omega arith, omega arith, Separator b behind is Nothing)
    go false true d m q l e0 is e2 e3 e4 e5 =
        subst (λ (c : ℕ). IsPieceOf (c ∷ behind) (Gap (1 + prefix_len is_in_line behind))) (sym (eqb-true b 35 is))
        (comment_is behind)
    go false false true m q l e0 e1 is e3 e4 e5 = number_is b behind is
    go false false false true q l e0 e1 e2 is e4 e5 =
        subst (λ (c : ℕ). IsPieceOf (c ∷ behind) (minus_piece behind)) (sym (eqb-true b 45 is))
        (minus_is behind)
    go false false false false true l e0 e1 e2 e3 is e5 =
        subst (λ (c : ℕ). IsPieceOf (c ∷ behind) (string_piece behind)) (sym (eqb-true b 34 is)) (string_is behind)
    go false false false false false true e0 e1 e2 e3 e4 is =
        word_is b behind (and_parts letters (is_ascii_lowercase b) is).1
    go false false false false false false e0 e1 e2 e3 e4 e5 = tt
