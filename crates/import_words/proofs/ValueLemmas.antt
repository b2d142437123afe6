-- The values of an option among pairs.
use Rattle.std.proofs.Common.{◌≡◌, ◌+◌, ◌<◌, ◌≤◌, ap, arith, ℕ, zero, suc, Bool, true, false, cond, Option}
use Rattle.std.proofs.Common.{Some, None, List, [], ◌∷◌, length, map, take, get_or, sym}
use Rattle.std.specs.Prelude.{is_some}
use Rattle.std.specs.List.{filter}
use Rattle.std.specs.Borrow.{Bor}
use Rattle.std.proofs.lemmas.Bool.{true≢false}
use Rattle.meek_words.specs.Numerals.{Word}
use Rattle.import_words.specs.Options.{same_option}
use Rattle.import_words.specs.Pairs.{Said, values_of}
use Rattle.import_words.specs.Values.{pairs_in, said_in, words_in}
use Rattle.import_words.specs.declared.import_option.ImportOption.{ImportOption}
use Rattle.import_words.specs.declared.pair.Pair.{Pair}

pub some_word : (found : Option (Bor Word)) → is_some found ≡ true → 1 ≤ length (words_in found)
some_word (Some word) is = omega arith
some_word None is = absurd (true≢false (sym is))

length_kept :
    (b : Bool) (said : Said) (rest : List Said)
    → length (map (λ (s : Said). s.value) (cond b (said ∷ rest) rest))
    ≡ cond b 1 0 + length (map (λ (s : Said). s.value) rest)
length_kept true said rest = omega arith
length_kept false said rest = omega arith

once_more : (b : Bool) (m n : ℕ) → 1 ≤ cond b 1 0 + m → 1 ≤ n → (1 ≤ m → 2 ≤ n) → 2 ≤ cond b 1 0 + n
once_more true m n some one more = omega arith
once_more false m n some one more = omega (arith, more (omega arith))

module _ (option : ImportOption) where
  abbrev count : List Pair → ℕ
  count pairs = length (values_of option (pairs_in pairs))

  count-cons :
      (pair : Pair) (pairs : List Pair)
      → count (pair ∷ pairs) ≡ cond (same_option option pair.option) 1 0 + count pairs
  count-cons pair pairs = length_kept (same_option option pair.option) (said_in pair)
      (filter (λ (s : Said). same_option option s.option) (pairs_in pairs))

  values_once :
      (pairs : List Pair) (i : ℕ) (d : Pair) → i < length pairs
      → same_option option (get_or pairs i d).option ≡ true → 1 ≤ count pairs
  values_once [] i d within same = absurd (omega arith)
  values_once (pair ∷ pairs) zero d within same =
      omega (arith, count-cons pair pairs, ap {B = ℕ} (λ b. cond b 1 0) same)
  values_once (pair ∷ pairs) (suc i) d within same =
      omega (arith, count-cons pair pairs, values_once pairs i d (omega arith) same)

  -- a value before a place, and one there
  pub values_twice :
      (pairs : List Pair) (i : ℕ) (d : Pair) → i < length pairs
      → 1 ≤ length (values_of option (pairs_in (take i pairs)))
      → same_option option (get_or pairs i d).option ≡ true
      → 2 ≤ length (values_of option (pairs_in pairs))
  values_twice [] i d within some same = absurd (omega arith)
  values_twice (pair ∷ pairs) zero d within some same = absurd (omega arith)
  values_twice (pair ∷ pairs) (suc i) d within some same =
      omega (
        arith,
        count-cons pair pairs,
        once_more (same_option option pair.option) (count (take i pairs))
            (count pairs)
            (omega (arith, some, count-cons pair (take i pairs))) (values_once pairs i d (omega arith) same)
            (λ before. values_twice pairs i d (omega arith) before same),
      )
