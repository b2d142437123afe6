-- Words that are an option and a number.
use Rattle.std.proofs.Common.{◌≡◌, ℕ, List, [], ◌∷◌, length, get_or, refl, sym, subst, ap, ◌∙◌, arith}
use Rattle.std.specs.Prelude.{Bool, true, false, not, nat_eq, Result, Ok, Err, IfOk}
use Rattle.std.specs.Cmp.Lexicographic.{pointwise}
use Rattle.std.proofs.lemmas.Slice.Eq.{bytes_eq-Decides}
use Rattle.meek_words.specs.Numerals.{Word, IsNumeralUpTo, number_of}
use Rattle.meek_words.specs.declared.words_stop.WordsStop.{WordsStop}
use Rattle.meek_words.specs.declared.words_stop.WordsStop.TheVariants.{BadWords, NoMemory}
use Rattle.number_word.specs.Number.{Says}
use Rattle.tool_edge.specs.Words.{IsAsked}
use Rattle.number_word.specs.Taken.{TakesNumber, HaveOneNumber}

-- a list of two elements
pub two_items :
    {X : Type 0} (xs : List X) (x y : X) → length xs ≡ 2 → x ≡ get_or xs 0 x → y ≡ get_or xs 1 y → xs ≡ x ∷ y ∷ []
two_items [] x y two first second = absurd (omega arith)
two_items (a ∷ []) x y two first second = absurd (omega arith)
two_items (a ∷ b ∷ []) x y two first second = cc
two_items (a ∷ b ∷ d ∷ xs) x y two first second = absurd (omega arith)

-- a test that did not find two words unlike
not_unlike : (b : Bool) → not b ≡ false → b ≡ true
not_unlike true is = refl
not_unlike false is = cc

pub alike : (xs ys : List ℕ) → not (pointwise nat_eq xs ys) ≡ false → xs ≡ ys
alike xs ys is = (bytes_eq-Decides xs ys).0 (not_unlike (pointwise nat_eq xs ys) is)

pub unlike : (xs ys : List ℕ) → not (pointwise nat_eq xs ys) ≡ true → ¬ (xs ≡ ys)
unlike xs ys is same =
    let equal : pointwise nat_eq xs ys ≡ true = (bytes_eq-Decides xs ys).1 same in
    let none : not true ≡ true = ap not (sym equal) ∙ is in
    absurd (cc)

-- words that begin with another option have no number after this one
pub other_option :
    (option : Word) (greatest : ℕ) (words : List Word) (first second : Word) → words ≡ first ∷ second ∷ []
    → ¬ (first ≡ option) → (n : ℕ) → ¬ TakesNumber option greatest words n
other_option option greatest words first second is other n taken =
    other (ap (λ (ws : List Word). get_or ws 0 []) (sym is ∙ taken.1))

same_word : (option one other : Word) → option ∷ one ∷ [] ≡ option ∷ other ∷ [] → one ≡ other
same_word option one other same = ap (λ (ws : List Word). get_or ws 1 []) same

-- the number after the option
pub asked_of_number :
    (option : Word) (greatest : ℕ) (words : List Word) (word given : Word) (result : Result ℕ WordsStop)
    → words ≡ option ∷ word ∷ [] → given ≡ word → IfOk result (Says greatest given)
    → (result ≡ Err BadWords → ¬ IsNumeralUpTo greatest given) → IsAsked (TakesNumber option greatest) words result
asked_of_number option greatest words word given (Ok n) is same says none =
    (word, is, subst (λ (w : Word). Says greatest w n) same says)
asked_of_number option greatest words word given (Err BadWords) is same says none =
    λ n taken. none refl
    (subst (λ (w : Word). IsNumeralUpTo greatest w) (same_word option taken.0 word (sym taken.1 ∙ is) ∙ sym same) taken.2.0)
asked_of_number option greatest words word given (Err NoMemory) is same says none = tt

pub one_number : HaveOneNumber
one_number option greatest words one other (word, is, says) (again, also, said) =
    says.1 ∙ (ap number_of (same_word option word again (sym is ∙ also)) ∙ sym said.1)
