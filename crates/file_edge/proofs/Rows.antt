-- The words of a command, one more at a time.
use Rattle.std.proofs.Common.{◌≡◌, ℕ, zero, suc, ◌+◌, ◌-◌, ◌<◌, Bool, true, false, List, [], ◌∷◌, ◌++◌, length, map, take}
use Rattle.std.proofs.Common.{refl, sym, ◌∙◌, ap, append_assoc, arith}
use Rattle.std.specs.Prelude.{cond, filter, get_or, ltb, not, ◌&&◌, ◌||◌, ◌==◌}
use Rattle.std.proofs.lemmas.List.{map-append, take_more, append-nil}
use Rattle.std.proofs.lemmas.Bool.{lt-ltb}
use Rattle.std.proofs.lemmas.List.Elements.{filter-append}
use Rattle.std.proofs.lemmas.List.Sums.{fold-append}
use Rattle.file_edge.specs.Words.{files_of, has_value, words_of, in_a_row, is_file_at, names_file}

-- one word more is in a row with the last one before it
row_more :
    (words : List (List ℕ)) (before word : List ℕ)
    → in_a_row ((words ++ before ∷ []) ++ word ∷ []) ≡ in_a_row (words ++ before ∷ []) ++ (before, word) ∷ []
row_more [] before word = refl
row_more (first ∷ []) before word = refl
row_more (first ∷ next ∷ words) before word =
    ap (λ (l : List (List ℕ × List ℕ)). (first, next) ∷ l) (row_more (next ∷ words) before word)

-- and is kept or not by itself
kept_more :
    (keeps : List ℕ × List ℕ → Bool) (pairs : List (List ℕ × List ℕ)) (pair : List ℕ × List ℕ)
    → map (λ p. p.1) (filter keeps (pairs ++ pair ∷ []))
    ≡ map (λ p. p.1) (filter keeps pairs) ++ map (λ p. p.1) (filter keeps (pair ∷ []))
kept_more keeps pairs pair =
    ap (map (λ p. p.1)) (filter-append keeps pairs (pair ∷ []))
    ∙ map-append (λ p. p.1) (filter keeps pairs) (filter keeps (pair ∷ []))

-- The first word is kept whatever it is.
first_kept : (words : List (List ℕ)) (before word : List ℕ)
    → take 1 ((words ++ before ∷ []) ++ word ∷ []) ≡ take 1 (words ++ before ∷ [])
first_kept [] before word = refl
first_kept (first ∷ words) before word = refl

file_more :
    (words : List (List ℕ)) (before word : List ℕ) → names_file (before, word) ≡ true
    → (files_of ((words ++ before ∷ []) ++ word ∷ []) ≡ files_of (words ++ before ∷ []) ++ word ∷ [])
    × (words_of ((words ++ before ∷ []) ++ word ∷ []) ≡ words_of (words ++ before ∷ []))
file_more words before word is =
    let rows = row_more words before word in
    let front = words ++ before ∷ [] in
    let files : filter names_file ((before, word) ∷ []) ≡ (before, word) ∷ [] = cc in
    let others : filter (λ pair. not (names_file pair)) ((before, word) ∷ []) ≡ [] = cc in (
      ap (λ r. map (λ p. p.1) (filter names_file r)) rows
          ∙ (kept_more names_file (in_a_row front) (before, word)
          ∙ ap (λ f. files_of front ++ map (λ p. p.1) f) files),
      (λ i. first_kept words before word i ++ (ap (λ r. map (λ p. p.1) (filter (λ pair. not (names_file pair)) r)) rows
          ∙ (kept_more (λ pair. not (names_file pair)) (in_a_row front) (before, word)
          ∙ (ap (λ f. map (λ p. p.1) (filter (λ pair. not (names_file pair)) (in_a_row front)) ++ map (λ p. p.1) f) others
          ∙ append-nil (map (λ p. p.1) (filter (λ pair. not (names_file pair)) (in_a_row front)))))) i),
    )

word_more :
    (words : List (List ℕ)) (before word : List ℕ) → names_file (before, word) ≡ false
    → (files_of ((words ++ before ∷ []) ++ word ∷ []) ≡ files_of (words ++ before ∷ []))
    × (words_of ((words ++ before ∷ []) ++ word ∷ []) ≡ words_of (words ++ before ∷ []) ++ word ∷ [])
word_more words before word is =
    let rows = row_more words before word in
    let front = words ++ before ∷ [] in
    let kept = map (λ p. p.1) (filter (λ pair. not (names_file pair)) (in_a_row front)) in
    let files : filter names_file ((before, word) ∷ []) ≡ [] = cc in
    let others : filter (λ pair. not (names_file pair)) ((before, word) ∷ []) ≡ (before, word) ∷ [] = cc in (
      ap (λ r. map (λ p. p.1) (filter names_file r)) rows
          ∙ (kept_more names_file (in_a_row front) (before, word)
          ∙ (ap (λ f. files_of front ++ map (λ p. p.1) f) files ∙ append-nil (files_of front))),
      (λ i. first_kept words before word i ++ (ap (λ r. map (λ p. p.1) (filter (λ pair. not (names_file pair)) r)) rows
          ∙ (kept_more (λ pair. not (names_file pair)) (in_a_row front) (before, word)
          ∙ ap (λ f. kept ++ map (λ p. p.1) f) others)) i)
          ∙ sym (append_assoc (take 1 front) kept (word ∷ [])),
    )

-- ---- at a place

-- the words up to this one, and the one before it
cut_here :
    (words : List (List ℕ)) (at : ℕ) → 0 < at → at < length words
    → take (at + 1) words ≡ (take (at - 1) words ++ get_or words (at - 1) [] ∷ []) ++ get_or words at [] ∷ []
cut_here words at some inside =
    let front : take at words ≡ take (at - 1) words ++ get_or words (at - 1) [] ∷ [] =
    ap (λ n. take n words) (omega (arith, some)) ∙ take_more words (at - 1) [] (omega (arith, some, inside)) in
    take_more words at [] inside ∙ ap (λ f. f ++ get_or words at [] ∷ []) front

front_here :
    (words : List (List ℕ)) (at : ℕ) → 0 < at → at < length words
    → take at words ≡ take (at - 1) words ++ get_or words (at - 1) [] ∷ []
front_here words at some inside =
    ap (λ n. take n words) (omega (arith, some)) ∙ take_more words (at - 1) [] (omega (arith, some, inside))

pub file_here :
    (words : List (List ℕ)) (at : ℕ) → 0 < at → at < length words
    → names_file (get_or words (at - 1) [], get_or words at []) ≡ true
    → (files_of (take (at + 1) words) ≡ files_of (take at words) ++ get_or words at [] ∷ [])
    × (words_of (take (at + 1) words) ≡ words_of (take at words))
file_here words at some inside is =
    let more = file_more (take (at - 1) words) (get_or words (at - 1) []) (get_or words at []) is in
    let here = cut_here words at some inside in
    let front = front_here words at some inside in (
      ap files_of here ∙ (more.0 ∙ ap (λ f. files_of f ++ get_or words at [] ∷ []) (sym front)),
      ap words_of here ∙ (more.1 ∙ ap words_of (sym front)),
    )

pub word_here :
    (words : List (List ℕ)) (at : ℕ) → 0 < at → at < length words
    → names_file (get_or words (at - 1) [], get_or words at []) ≡ false
    → (files_of (take (at + 1) words) ≡ files_of (take at words))
    × (words_of (take (at + 1) words) ≡ words_of (take at words) ++ get_or words at [] ∷ [])
word_here words at some inside is =
    let more = word_more (take (at - 1) words) (get_or words (at - 1) []) (get_or words at []) is in
    let here = cut_here words at some inside in
    let front = front_here words at some inside in (
      ap files_of here ∙ (more.0 ∙ ap files_of (sym front)),
      ap words_of here ∙ (more.1 ∙ ap (λ f. words_of f ++ get_or words at [] ∷ []) (sym front)),
    )

pub first_here :
    (words : List (List ℕ)) → 0 < length words
    → (files_of (take 1 words) ≡ []) × (words_of (take 1 words) ≡ get_or words 0 [] ∷ [])
first_here [] inside = absurd (omega (arith, inside))
first_here (word ∷ words) inside = (refl, refl)

-- what is put where is what the words up to here say
pub put_here :
    (words : List (List ℕ)) (at : ℕ) (word : List ℕ) (is_file : Bool) (kept files kept_then files_then : List (List ℕ))
    → at < length words → word ≡ get_or words at [] → is_file ≡ is_file_at words at
    → kept ≡ words_of (take at words) → files ≡ files_of (take at words)
    → kept_then ≡ kept ++ cond is_file [] (word ∷ []) → files_then ≡ files ++ cond is_file (word ∷ []) []
    → (kept_then ≡ words_of (take (at + 1) words)) × (files_then ≡ files_of (take (at + 1) words))
put_here words zero word is_file kept files kept_then files_then inside same test of_kept of_files puts putf =
    let first = first_here words inside in
    let none : is_file ≡ false = test in (
      puts
          ∙ ((λ i. of_kept i ++ cond (none i) [] (same i ∷ [])) ∙ sym first.1),
      putf
          ∙ ((λ i. of_files i ++ cond (none i) (same i ∷ []) []) ∙ sym first.0),
    )
put_here words (suc n) word is_file kept files kept_then files_then inside same test of_kept of_files puts putf =
    by (names_file (get_or words (suc n - 1) [], get_or words (suc n) [])) refl
  where
    here_is : ltb 0 (suc n) ≡ true
    here_is = lt-ltb 0 (suc n) (omega arith)

    by :
        (t : Bool) → names_file (get_or words (suc n - 1) [], get_or words (suc n) []) ≡ t
        → (kept_then ≡ words_of (take (suc n + 1) words)) × (files_then ≡ files_of (take (suc n + 1) words))
    by true is =
        let here = file_here words (suc n) (omega arith) inside is in
        let yes : is_file ≡ true = test ∙ (λ i. here_is i && is i) in (
          puts
              ∙ ((λ i. of_kept i ++ cond (yes i) [] (same i ∷ [])) ∙ (append-nil (words_of (take (suc n) words)) ∙ sym here.1)),
          putf
              ∙ ((λ i. of_files i ++ cond (yes i) (same i ∷ []) []) ∙ sym here.0),
        )
    by false is =
        let here = word_here words (suc n) (omega arith) inside is in
        let no : is_file ≡ false = test ∙ (λ i. here_is i && is i) in (
          puts
              ∙ ((λ i. of_kept i ++ cond (no i) [] (same i ∷ [])) ∙ sym here.1),
          putf
              ∙ ((λ i. of_files i ++ cond (no i) (same i ∷ []) []) ∙ (append-nil (files_of (take (suc n) words)) ∙ sym here.0)),
        )

-- ---- bytes

pub value_more :
    (word : List ℕ) (n byte : ℕ) → n < length word → get_or word n 0 ≡ byte
    → has_value (take (n + 1) word) ≡ (has_value (take n word) || (byte == 61))
value_more word n byte inside same =
    ap has_value (take_more word n 0 inside)
    ∙ (fold-append (λ found b. found || (b == 61)) false (take n word) (get_or word n 0 ∷ [])
    ∙ ap (λ b. has_value (take n word) || (b == 61)) same)
