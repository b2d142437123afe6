-- Words that are an option and a list.
use Rattle.std.proofs.Common.{◌≡◌, ℕ, List, [], ◌∷◌, length, get_or, refl, sym, subst, ◌∙◌, arith}
use Rattle.std.specs.Prelude.{codes, Bool, true, false, not, nat_eq, Result, Ok, Err, IfOk}
use Rattle.std.specs.Cmp.Lexicographic.{pointwise}
use Rattle.std.proofs.lemmas.Slice.Eq.{bytes_eq-Decides}
use Rattle.meek_words.specs.Numerals.{Word, IsLotList}
use Rattle.meek_words.specs.declared.words_stop.WordsStop.{WordsStop}
use Rattle.meek_words.specs.declared.words_stop.WordsStop.TheVariants.{BadWords, NoMemory}
use Rattle.tool_edge.specs.Words.{TakesLots, IsAsked}

-- a list of two elements
pub two_items :
    {X : Type 0} (xs : List X) (x y : X) → length xs ≡ 2 → x ≡ get_or xs 0 x → y ≡ get_or xs 1 y
    → xs ≡ x ∷ y ∷ []
two_items [] x y two first second = absurd (omega arith)
two_items (a ∷ []) x y two first second = absurd (omega arith)
two_items (a ∷ b ∷ []) x y two first second = cc
two_items (a ∷ b ∷ d ∷ xs) x y two first second = absurd (omega arith)

-- a test that did not find two words unlike
not_unlike : (b : Bool) → not b ≡ false → b ≡ true
not_unlike true is = refl
not_unlike false is = cc

pub alike : (xs ys : List ℕ) → not (pointwise nat_eq xs ys) ≡ false → xs ≡ ys
alike xs ys is = (bytes_eq-Decides xs ys).0 (not_unlike (pointwise nat_eq xs ys) is)

same_word : (one other : Word) → codes "--lots" ∷ one ∷ [] ≡ codes "--lots" ∷ other ∷ [] → one ≡ other
same_word one other same = cc

-- the list after the option
pub asked_of_list :
    (words : List Word) (word : Word) (result : Result (List ℕ) WordsStop) → words ≡ codes "--lots" ∷ word ∷ []
    → IfOk result (IsLotList word) → (result ≡ Err BadWords → (lots : List ℕ) → IsLotList word lots → ⊥)
    → IsAsked TakesLots words result
asked_of_list words word (Ok lots) is list none = (word, is, list)
asked_of_list words word (Err BadWords) is list none =
    λ lots taken. none refl lots (subst (λ (w : Word). IsLotList w lots) (same_word taken.0 word (sym taken.1 ∙ is)) taken.2)
asked_of_list words word (Err NoMemory) is list none = tt
