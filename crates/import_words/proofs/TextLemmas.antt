-- Texts as they are borrowed from words.
use Rattle.std.proofs.Common.{take, ◌++◌, [], ◌∷◌, ◌+◌, ◌∙◌, ap, ◌≡◌, ◌<◌, ℕ, List, length, get_or, subst, sym, arith, All}
use Rattle.std.specs.Borrow.{Bor}
use Rattle.std.proofs.lemmas.List.{get_or-map, length-map, map-append, take_more}
use Rattle.std.proofs.lemmas.List.Elements.{All-push, All-same}
use Rattle.meek_words.specs.Numerals.{Word}
use Rattle.import_words.specs.Values.{texts_in}

-- what holds of each text holds of the one at a place
pub text_at :
    (P : Word → Type 0) (texts : List (Bor Word)) (i : ℕ) (d : Bor Word) → i < length texts
    → All P (texts_in texts) → P (get_or texts i d).now
text_at P texts i d within all =
    subst P (get_or-map (λ (t : Bor Word). t.now) texts i d d.now within)
    (all i d.now (omega (arith, within, length-map texts (λ (t : Bor Word). t.now))))

module _ (texts : List (Bor Word)) (i : ℕ) (d : Bor Word) (within : i < length texts) where
  texts_more : texts_in (take (i + 1) texts) ≡ texts_in (take i texts) ++ (get_or texts i d).now ∷ []
  texts_more =
      ap texts_in (take_more texts i d within)
      ∙ map-append (λ (t : Bor Word). t.now) (take i texts) (get_or texts i d ∷ [])

  -- words that are the texts so far, with the next one after them
  pub pushed :
      (old new : List Word) (word : Word) → new ≡ old ++ word ∷ [] → old ≡ texts_in (take i texts)
      → word ≡ (get_or texts i d).now
      → new ≡ texts_in (take (i + 1) texts)
  pushed old new word is same here = is ∙ (λ j. same j ++ here j ∷ []) ∙ sym texts_more

  pub all_more :
      (P : Word → Type 0) → All P (texts_in (take i texts)) → P (get_or texts i d).now
      → All P (texts_in (take (i + 1) texts))
  all_more P before here =
      All-same P (texts_in (take (i + 1) texts)) (texts_in (take i texts) ++ (get_or texts i d).now ∷ [])
      texts_more
      (All-push P (texts_in (take i texts)) (get_or texts i d).now before here)
