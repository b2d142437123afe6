-- What is written from items is cut into these items.
use Rattle.std.proofs.Common.{◌≡◌, ℕ, suc, ◌+◌, ◌-◌, ◌^◌, ◌<◌, ◌≤◌, min, Bool, true, false, List, [], ◌∷◌}
use Rattle.std.proofs.Common.{◌++◌, length, drop, take, map, All, refl, sym, ap, subst, ◌∙◌, arith}
use Rattle.std.proofs.Common.{append_assoc, append-nil, length-append, ◌==◌, ◌||◌, cond}
use Rattle.std.specs.Prelude.{decimal}
use Rattle.std.specs.List.{take_while, flat_map}
use Rattle.std.proofs.lemmas.List.Elements.{All-head, All-tail}
use Rattle.std.specs.Char.{is_ascii_digit, is_ascii_lowercase}
use Rattle.std.proofs.lemmas.Fmt.{decimal_is_IsNumeral, decimal_nonempty}
use Rattle.input_text.specs.Token.{Item, Number, Text, Word, AtEnd, Scan, ends, with_front}
use Rattle.input_text.specs.Scan.{is_separator, is_in_string, number, may_follow, token, Piece, Gap, Lexeme}
use Rattle.input_text.specs.Scan.{Wrong, piece, number_piece, string_piece, word_piece, cut, scan, beginning}
use Rattle.input_text.specs.Scan.{mark_len}
use Rattle.input_text.specs.Refusal.{items_of}
use Rattle.input_text.proofs.Cutting.{skipped}
use Rattle.input_text.specs.Written.{Spells, Each, IsWhole}
use Rattle.input_text.proofs.WrittenRuns.{run_len, run_is, drop_front, take_front, digits_of, no_digit, no_letter}

-- a token at the front, and what is after it
lexed :
    (at : ℕ) (b : ℕ) (behind : List ℕ) (item : Item) (n : ℕ) → piece true (b ∷ behind) ≡ Lexeme item (suc n)
    → n ≤ length behind
    → cut true at 0 (b ∷ behind) ≡ with_front (record { at = at; item = item }) (cut true (at + suc n) 0 (drop n behind))
unfolding cut
lexed at b behind item n is within =
    let less : suc n - 1 ≡ n = omega arith in
    let place : at + 1 + n ≡ at + suc n = omega arith in
    ap (λ (p : Piece). beginning at p (λ m. cut true (at + 1) (m - 1) behind)) is
    ∙ ap (λ (s : Scan). with_front (record { at = at; item = item }) s)
    (ap (λ (m : ℕ). cut true (at + 1) m behind) less
    ∙ (skipped true (at + 1) n behind within ∙ ap (λ (k : ℕ). cut true k 0 (drop n behind)) place))

gap_piece : (s : ℕ) (rest : List ℕ) → is_separator s ≡ true → piece true (s ∷ rest) ≡ Gap 1
unfolding piece
gap_piece s rest is = rw is refl

gapped : (at s : ℕ) (rest : List ℕ) → is_separator s ≡ true → cut true at 0 (s ∷ rest) ≡ cut true (at + 1) 0 rest
unfolding cut
gapped at s rest is = ap (λ (p : Piece). beginning at p (λ m. cut true (at + 1) (m - 1) rest)) (gap_piece s rest is)

-- a token of these bytes, and the separator after it
both : (b : ℕ) (bytes : List ℕ) (s : ℕ) (item : Item) → is_separator s ≡ true
    → ((rest : List ℕ) → piece true (b ∷ (bytes ++ s ∷ rest)) ≡ Lexeme item (suc (length bytes)))
    → (at : ℕ) (rest : List ℕ) → cut true at 0 (b ∷ (bytes ++ s ∷ rest))
    ≡ with_front (record { at = at; item = item }) (cut true (at + length (b ∷ (bytes ++ s ∷ []))) 0 rest)
both b bytes s item is found at rest =
    let long : length (bytes ++ s ∷ rest) ≡ length bytes + suc (length rest) = length-append bytes (s ∷ rest) in
    let short : length (bytes ++ s ∷ []) ≡ length bytes + 1 = length-append bytes (s ∷ []) in
    let place : at + suc (length bytes) + 1 ≡ at + suc (length (bytes ++ s ∷ [])) = omega arith in
    lexed at b (bytes ++ s ∷ rest) item (length bytes) (found rest) (omega arith)
    ∙ ap (λ (t : Scan). with_front (record { at = at; item = item }) t)
    (ap (λ (l : List ℕ). cut true (at + suc (length bytes)) 0 l) (drop_front bytes (s ∷ rest))
    ∙ (gapped (at + suc (length bytes)) s rest is ∙ ap (λ (k : ℕ). cut true k 0 rest) place))

spelled : (b : ℕ) (bytes : List ℕ) (s : ℕ) (item : Item) → is_separator s ≡ true
    → ((rest : List ℕ) → piece true (b ∷ (bytes ++ s ∷ rest)) ≡ Lexeme item (suc (length bytes)))
    → Spells (b ∷ (bytes ++ s ∷ [])) (item ∷ [])
spelled b bytes s item is found =
    let flat : (rest : List ℕ) → (b ∷ (bytes ++ s ∷ [])) ++ rest ≡ b ∷ (bytes ++ s ∷ rest) =
    λ rest. ap (λ (l : List ℕ). b ∷ l) (append_assoc bytes (s ∷ []) rest) in
    record {
      items_are =
          λ at rest. ap (λ (l : List ℕ). items_of (cut true at 0 l).tokens) (flat rest)
          ∙ ap (λ (t : Scan). items_of t.tokens) (both b bytes s item is found at rest);
      ending =
          λ at rest. ap (λ (l : List ℕ). (cut true at 0 l).ending) (flat rest)
          ∙ ap (λ (t : Scan). t.ending) (both b bytes s item is found at rest);
    }

follows : (s : ℕ) (rest : List ℕ) → is_separator s ≡ true → may_follow (s ∷ rest) ≡ true
follows s rest is = ap (λ (b : Bool). b || s == 35) is

-- ---- numbers

digit_piece : (b : ℕ) (behind : List ℕ) → is_ascii_digit b ≡ true → piece true (b ∷ behind) ≡ number_piece (b ∷ behind)
unfolding piece
digit_piece b behind is =
    let no : is_separator b ≡ false = grind arith in
    let no_comment : (b == 35) ≡ false = grind arith in
    rw (no, no_comment, is) refl

number_at : (bytes : List ℕ) (s : ℕ) (rest : List ℕ) → Each is_ascii_digit bytes → is_separator s ≡ true
    → number_piece (bytes ++ s ∷ rest) ≡ Lexeme (Number (number bytes)) (length bytes)
unfolding number_piece
number_at bytes s rest each is =
    let no = no_digit s is in
    let len = run_len is_ascii_digit bytes s rest each no in
    let run = run_is is_ascii_digit bytes s rest each no in
    let ends : may_follow (drop (length bytes) (bytes ++ s ∷ rest)) ≡ true =
    ap may_follow (drop_front bytes (s ∷ rest)) ∙ follows s rest is in
    let xs = bytes ++ s ∷ rest in
    ap (λ (n : ℕ). token (Number (number (take_while is_ascii_digit xs))) n xs) len
    ∙ (ap (λ (may : Bool). cond may (Lexeme (Number (number (take_while is_ascii_digit xs))) (length bytes))
    (Wrong (length bytes))) ends
    ∙ ap (λ (l : List ℕ). Lexeme (Number (number l)) (length bytes)) run)

pub number_spelled :
    (bytes : List ℕ) (s n : ℕ) → 0 < length bytes → Each is_ascii_digit bytes → number bytes ≡ n → is_separator s ≡ true
    → Spells (bytes ++ s ∷ []) (Number n ∷ [])
number_spelled [] s n some each value is = absurd (omega arith)
number_spelled (b ∷ bytes) s n some each value is =
    spelled b bytes s (Number n) is (λ rest.
    digit_piece b (bytes ++ s ∷ rest) each.0
    ∙ (number_at (b ∷ bytes) s rest each is ∙ ap (λ (k : ℕ). Lexeme (Number k) (suc (length bytes))) value))

pub numbers : (n s : ℕ) → n ≤ 4294967295 → is_separator s ≡ true → Spells (decimal n ++ s ∷ []) (Number n ∷ [])
numbers n s most is =
    let fits : n < 2 ^ 64 = omega arith in
    let value : number (decimal n) ≡ n = ap (λ (k : ℕ). min k 4294967295) (decimal_is_IsNumeral n fits).1 ∙ (omega arith) in
    number_spelled (decimal n) s n (decimal_nonempty n fits) (digits_of n fits) value is

-- ---- words

letter_piece : (b : ℕ) (behind : List ℕ) → is_ascii_lowercase b ≡ true → piece true (b ∷ behind) ≡ word_piece (b ∷ behind)
unfolding piece
letter_piece b behind is =
    let no : is_separator b ≡ false = grind arith in
    let no_comment : (b == 35) ≡ false = grind arith in
    let no_number : is_ascii_digit b ≡ false = grind arith in
    let no_minus : (b == 45) ≡ false = grind arith in
    let no_string : (b == 34) ≡ false = grind arith in
    rw (no, no_comment, no_number, no_minus, no_string, is) refl

word_at : (bytes : List ℕ) (s : ℕ) (rest : List ℕ) → Each is_ascii_lowercase bytes → is_separator s ≡ true
    → word_piece (bytes ++ s ∷ rest) ≡ Lexeme (Word bytes) (length bytes)
unfolding word_piece
word_at bytes s rest each is =
    let no = no_letter s is in
    let len = run_len is_ascii_lowercase bytes s rest each no in
    let run = run_is is_ascii_lowercase bytes s rest each no in
    let ends : may_follow (drop (length bytes) (bytes ++ s ∷ rest)) ≡ true =
    ap may_follow (drop_front bytes (s ∷ rest)) ∙ follows s rest is in
    let xs = bytes ++ s ∷ rest in
    ap (λ (n : ℕ). token (Word (take_while is_ascii_lowercase xs)) n xs) len
    ∙ (ap (λ (may : Bool). cond may (Lexeme (Word (take_while is_ascii_lowercase xs)) (length bytes))
    (Wrong (length bytes))) ends
    ∙ ap (λ (l : List ℕ). Lexeme (Word l) (length bytes)) run)

pub words :
    (b : ℕ) (letters : List ℕ) (s : ℕ) → Each is_ascii_lowercase (b ∷ letters) → is_separator s ≡ true
    → Spells ((b ∷ letters) ++ s ∷ []) (Word (b ∷ letters) ∷ [])
words b letters s each is =
    spelled b letters s (Word (b ∷ letters)) is
    (λ rest. letter_piece b (letters ++ s ∷ rest) each.0 ∙ word_at (b ∷ letters) s rest each is)

-- ---- strings

quote_piece : (behind : List ℕ) → piece true (34 ∷ behind) ≡ string_piece behind
unfolding piece
quote_piece behind = refl

string_at : (bytes : List ℕ) (s : ℕ) (rest : List ℕ) → Each is_in_string bytes → is_separator s ≡ true
    → string_piece (bytes ++ 34 ∷ s ∷ rest) ≡ Lexeme (Text bytes) (length bytes + 2)
unfolding string_piece
string_at bytes s rest each is =
    let len = run_len is_in_string bytes 34 (s ∷ rest) each refl in
    let behind : drop (length bytes) (bytes ++ 34 ∷ s ∷ rest) ≡ 34 ∷ s ∷ rest = drop_front bytes (34 ∷ s ∷ rest) in
    let front : take (length bytes) (bytes ++ 34 ∷ s ∷ rest) ≡ bytes = take_front bytes (34 ∷ s ∷ rest) in
    rw len (rw behind (rw (follows s rest is) (ap (λ (l : List ℕ). Lexeme (Text l) (length bytes + 2)) front)))

pub strings :
    (bytes : List ℕ) (s : ℕ) → Each is_in_string bytes → is_separator s ≡ true
    → Spells (34 ∷ (bytes ++ 34 ∷ s ∷ [])) (Text bytes ∷ [])
strings bytes s each is =
    let flat : (t : List ℕ) → (bytes ++ 34 ∷ []) ++ t ≡ bytes ++ 34 ∷ t = λ t. append_assoc bytes (34 ∷ []) t in
    let long : length (bytes ++ 34 ∷ []) ≡ length bytes + 1 = length-append bytes (34 ∷ []) in
    let two : length bytes + 2 ≡ suc (length (bytes ++ 34 ∷ [])) = omega arith in
    subst (λ (l : List ℕ). Spells (34 ∷ l) (Text bytes ∷ [])) (flat (s ∷ []))
    (spelled 34 (bytes ++ 34 ∷ []) s (Text bytes) is (λ rest.
    quote_piece ((bytes ++ 34 ∷ []) ++ s ∷ rest)
    ∙ (ap string_piece (flat (s ∷ rest)) ∙ (string_at bytes s rest each is ∙ ap (Lexeme (Text bytes)) two))))

-- ---- parts

pub parts :
    (one other : List ℕ) (items more : List Item) → Spells one items → Spells other more
    → Spells (one ++ other) (items ++ more)
parts one other items more a b =
    let place : (at : ℕ) → at + length one + length other ≡ at + length (one ++ other) =
    λ at. (let l = length-append one other in omega arith) in
    record {
      items_are = λ at rest.
          ap (λ (l : List ℕ). items_of (cut true at 0 l).tokens) (append_assoc one other rest)
          ∙ (a.items_are at (other ++ rest)
          ∙ (ap (λ (l : List Item). items ++ l) (b.items_are (at + length one) rest
          ∙ ap (λ (k : ℕ). more ++ items_of (cut true k 0 rest).tokens) (place at))
          ∙ sym (append_assoc items more (items_of (cut true (at + length (one ++ other)) 0 rest).tokens))));
      ending = λ at rest.
          ap (λ (l : List ℕ). (cut true at 0 l).ending) (append_assoc one other rest)
          ∙ (a.ending at (other ++ rest)
          ∙ (b.ending (at + length one) rest ∙ ap (λ (k : ℕ). (cut true k 0 rest).ending) (place at)));
    }

pub nothing : Spells [] []
nothing =
    let same : (at : ℕ) → at ≡ at + 0 = λ at. omega arith in
    record {
      items_are = λ at rest. ap (λ (k : ℕ). items_of (cut true k 0 rest).tokens) (same at);
      ending = λ at rest. ap (λ (k : ℕ). (cut true k 0 rest).ending) (same at);
    }

-- a part for each element
pub each_part : {A B : Type 0} (text : A → List ℕ) (items : B → List Item) (f : A → B) (xs : List A)
    → All (λ x. Spells (text x) (items (f x))) xs → Spells (flat_map text xs) (flat_map items (map f xs))
each_part {A} text items f [] spelled' = nothing
each_part {A} text items f (x ∷ xs) spelled' =
    let P : A → Type 0 = λ x. Spells (text x) (items (f x)) in
    parts (text x) (flat_map text xs) (items (f x)) (flat_map items (map f xs)) (All-head P x xs spelled')
    (each_part text items f xs (All-tail P x xs spelled'))

at_end : (at : ℕ) → cut true at 0 [] ≡ ends (AtEnd at)
unfolding cut
at_end at = refl

pub whole : (bytes : List ℕ) (items : List Item) → mark_len bytes ≡ 0 → Spells bytes items → IsWhole (scan bytes true) items
whole bytes items none spells =
    let start : scan bytes true ≡ cut true 0 0 (bytes ++ []) =
    ap (λ (k : ℕ). cut true 0 k bytes) none ∙ ap (λ (l : List ℕ). cut true 0 0 l) (sym (append-nil bytes)) in
    record {
      items_are =
          ap (λ (t : Scan). items_of t.tokens) start
          ∙ (spells.items_are 0 []
          ∙ (ap (λ (t : Scan). items ++ items_of t.tokens) (at_end (0 + length bytes)) ∙ append-nil items));
      at = 0 + length bytes;
      ending =
          ap (λ (t : Scan). t.ending) start
          ∙ (spells.ending 0 [] ∙ ap (λ (t : Scan). t.ending) (at_end (0 + length bytes)));
    }
