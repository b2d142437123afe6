-- Words that are different, and words that stand in a list.
use Rattle.std.proofs.Common.{zero, suc, ◌≡◌, ◌≢◌, ◌<◌, ◌+◌, ◌∙◌, sym, subst, arith, ℕ, true, false, List, ◌∷◌, length, take, get_or, inl, inr}
use Rattle.std.specs.Prelude.{nat_eq}
use Rattle.std.specs.List.{Contains}
use Rattle.std.specs.Cmp.Lexicographic.{pointwise}
use Rattle.std.proofs.lemmas.Bool.{false≢true}
use Rattle.std.proofs.lemmas.List.{take_more}
use Rattle.std.proofs.lemmas.List.Elements.{Contains-push_cases, Contains-get_or}
use Rattle.std.proofs.lemmas.List.Quantifiers.{all_pairs_push}
use Rattle.std.proofs.lemmas.Slice.Eq.{bytes_eq-Decides}
use Rattle.meek_words.specs.Numerals.{Word}
use Rattle.import_words.specs.Labels.{AreDifferent}

pub alike : (xs ys : Word) → pointwise nat_eq xs ys ≡ true → xs ≡ ys
alike xs ys is = (bytes_eq-Decides xs ys).0 is

pub unlike : (xs ys : Word) → pointwise nat_eq xs ys ≡ false → xs ≢ ys
unlike xs ys is same = false≢true (sym is ∙ (bytes_eq-Decides xs ys).1 same)

-- a word that is none of the first ones, and unlike the next
pub none_more :
    (words : List Word) (i : ℕ) (word d : Word) → i < length words → ¬ (Contains (take i words) word)
    → get_or words i d ≢ word → ¬ (Contains (take (i + 1) words) word)
none_more words i word d within none unlike has =
    elim (Contains-push_cases (take i words) (get_or words i d) word
    (subst (λ (ws : List Word). Contains ws word) (take_more words i d within) has)) [
      | inl before ↦ none before
      | inr here ↦ unlike here
    ]

-- different words and one more that is none of them
pub different_more :
    (words : List Word) (i : ℕ) (word : Word) → i < length words → AreDifferent (take i words)
    → get_or words i word ≡ word → ¬ (Contains (take i words) word) → AreDifferent (take (i + 1) words)
different_more words i word within different here none =
    subst AreDifferent (sym (take_more words i word within))
    (all_pairs_push (λ (a b : Word). a ≢ b) (take i words) (get_or words i word) different
    (λ k d inside same. none (subst (λ (w : Word). Contains (take i words) w) (same ∙ here)
    (Contains-get_or (take i words) k d inside))))

-- a word before different ones is one more where it is none of them
module _ (word : Word) (words : List Word) where
  pub not_apart : Contains words word → ¬ (AreDifferent (word ∷ words))
  not_apart has different = different 0 (suc has.0) word (omega arith) (omega (arith, has.1)) (sym has.2)

  pub behind : AreDifferent (word ∷ words) → AreDifferent words
  behind different i j d before within = different (suc i) (suc j) d (omega arith) (omega arith)

  pub apart : ¬ (Contains words word) → AreDifferent words → AreDifferent (word ∷ words)
  apart none different i zero d before within = absurd (omega arith)
  apart none different zero (suc j) d before within =
      λ same. none (subst (λ (w : Word). Contains words w) (sym same)
      (Contains-get_or words j d (omega arith)))
  apart none different (suc i) (suc j) d before within = different i j d (omega arith) (omega arith)
