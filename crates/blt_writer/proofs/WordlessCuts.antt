-- A text without words is cut alike whether words may stand in it or not.
use Rattle.std.proofs.Common.{◌≡◌, ◌⊎◌, ℕ, ◌+◌, ◌-◌, zero, suc, Bool, true, false, cond, List, [], ◌∷◌, refl}
use Rattle.std.proofs.Common.{ap, subst, ◌∙◌, inl, inr, ◌==◌}
use Rattle.std.specs.Char.{is_ascii_digit, is_ascii_lowercase}
use Rattle.std.specs.List.{take_while, prefix_len}
use Rattle.std.specs.Prelude.{drop}
use Rattle.input_text.specs.Token.{Item, Word, AtEnd, Scan, with_front}
use Rattle.input_text.specs.Scan.{is_separator, may_follow, Piece, Gap, Lexeme, Wrong, Unclosed, word_piece}
use Rattle.input_text.specs.Scan.{piece, beginning, cut}
use Rattle.input_text.specs.Refusal.{items_of}

abbrev NoWord : Item → Type 0
NoWord (Word letters) = ⊥
NoWord item = Unit {0}

abbrev pub NoWords : List Item → Type 0
NoWords [] = Unit {0}
NoWords (item ∷ items) = NoWord item × NoWords items

-- where a piece depends on words, it is one, or nothing that may stand there
abbrev AlikeBut : Piece → Piece → Type 0
AlikeBut without with_words =
    (without ≡ with_words)
    ⊎ (((letters : List ℕ) × (n : ℕ) × (with_words ≡ Lexeme (Word letters) n)) ⊎ ((n : ℕ) × (with_words ≡ Wrong n)))

branch : (c : Bool) (p q r : Piece) → AlikeBut q r → AlikeBut (cond c p q) (cond c p r)
branch true p q r alike = inl refl
branch false p q r alike = alike

word_alike : (may : Bool) (letters : List ℕ) (n : ℕ) → AlikeBut (Wrong 0) (cond may (Lexeme (Word letters) n) (Wrong n))
word_alike true letters n = inr (inl (letters, n, refl))
word_alike false letters n = inr (inr (n, refl))

letters_alike : (lower : Bool) (bytes : List ℕ) → AlikeBut (Wrong 0) (cond lower (word_piece bytes) (Wrong 0))
unfolding word_piece
letters_alike true bytes =
    word_alike (may_follow (drop (prefix_len is_ascii_lowercase bytes) bytes))
    (take_while is_ascii_lowercase bytes) (prefix_len is_ascii_lowercase bytes)
letters_alike false bytes = inl refl

pieces_alike : (b : ℕ) (behind : List ℕ) → AlikeBut (piece false (b ∷ behind)) (piece true (b ∷ behind))
unfolding piece
pieces_alike b behind =
    branch (is_separator b) _ _ _
    (branch (b == 35) _ _ _
    (branch (is_ascii_digit b) _ _ _
    (branch (b == 45) _ _ _
    (branch (b == 34) _ _ _ (letters_alike (is_ascii_lowercase b) (b ∷ behind))))))

-- the same piece, where what is after it is cut alike
same_beginning :
    (at end : ℕ) (p : Piece) (without with_words : ℕ → Scan)
    → ((n : ℕ) → NoWords (items_of (with_words n).tokens) → (with_words n).ending ≡ AtEnd end → without n ≡ with_words n)
    → NoWords (items_of (beginning at p with_words).tokens) → (beginning at p with_words).ending ≡ AtEnd end
    → beginning at p without ≡ beginning at p with_words
same_beginning at end (Gap n) without with_words alike none ended = alike n none ended
same_beginning at end (Lexeme item n) without with_words alike none ended =
    ap (λ (s : Scan). with_front (record { at = at; item = item }) s) (alike n none.1 ended)
same_beginning at end (Wrong n) without with_words alike none ended = refl
same_beginning at end (Unclosed n) without with_words alike none ended = refl

-- a piece that is a word, or nothing, ends no text without words
same_piece :
    (at end : ℕ) (p q : Piece) (with_words : ℕ → Scan) → AlikeBut p q
    → NoWords (items_of (beginning at q with_words).tokens) → (beginning at q with_words).ending ≡ AtEnd end → p ≡ q
same_piece at end p q with_words (inl same) none ended = same
same_piece at end p q with_words (inr (inl (letters, n, is))) none ended =
    absurd (subst (λ (r : Piece). NoWords (items_of (beginning at r with_words).tokens)) is none).0
same_piece at end p q with_words (inr (inr (n, is))) none ended =
    let wrong = subst (λ (r : Piece). (beginning at r with_words).ending ≡ AtEnd end) is ended in absurd cc

-- A text in which no word stands, and which has no fault, is cut alike.
pub cut_alike :
    (bytes : List ℕ) (at skip end : ℕ) → NoWords (items_of (cut true at skip bytes).tokens)
    → (cut true at skip bytes).ending ≡ AtEnd end → cut false at skip bytes ≡ cut true at skip bytes
unfolding cut
cut_alike [] at skip end none ended = refl
cut_alike (b ∷ behind) at (suc skip) end none ended = cut_alike behind (at + 1) skip end none ended
cut_alike (b ∷ behind) at zero end none ended =
    let with_words : ℕ → Scan = λ n. cut true (at + 1) (n - 1) behind in
    let without : ℕ → Scan = λ n. cut false (at + 1) (n - 1) behind in
    let same : piece false (b ∷ behind) ≡ piece true (b ∷ behind) =
    same_piece at end (piece false (b ∷ behind)) (piece true (b ∷ behind)) with_words (pieces_alike b behind) none ended in
    ap (λ (p : Piece). beginning at p without) same
    ∙ same_beginning at end (piece true (b ∷ behind)) without with_words
    (λ n. cut_alike behind (at + 1) (n - 1) end) none ended
