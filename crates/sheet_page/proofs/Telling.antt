-- Sentences as they are written, and their items.
use Rattle.std.proofs.Common.{◌≡◌, ◌∙◌, refl, sym, ap, ℕ, List, [], ◌∷◌, ◌++◌, map, append-nil}
use Rattle.std.specs.Prelude.{Bool, true, false, if◌then◌else◌, codes}
use Rattle.std.specs.Char.{is_ascii}
use Rattle.std.specs.List.{flat_map, list_all}
use Rattle.page_tree.specs.Print.{shown, opening, closing, printed}
use Rattle.sheet_words.specs.Manner.{said, told}
use Rattle.sheet_page.specs.Told.{isolated_text, item, items, spoken, voiced_text}
use Rattle.sheet_page.specs.Trees.{all, each, isolated, words}
use Rattle.sheet_page.proofs.Printing.{printed-followed}

-- a text of a sentence
spoken_text : (text : List ℕ) → voiced_text text ≡ printed (spoken text)
spoken_text text = by (list_all is_ascii text)
  where
    by : (b : Bool) → (if b then shown text else isolated_text text) ≡ printed (if b then words text else isolated text)
    by true = sym (append-nil (shown text))
    by false =
        let front = opening (codes "bdi") [] in
        let end = closing (codes "bdi") in
        ap (λ (l : List ℕ). front ++ (l ++ end)) (sym (append-nil (shown text)))
        ∙ ap (λ (l : List ℕ). front ++ ((shown text ++ []) ++ l)) (sym (append-nil end))

-- the texts of a sentence
said_words : (texts : List (List ℕ)) → said items texts ≡ printed (all (map spoken texts))
unfolding said
said_words [] = refl
said_words (text ∷ texts) =
    ap (λ (l : List ℕ). l ++ said items texts) (spoken_text text)
    ∙ ap (λ (l : List ℕ). printed (spoken text) ++ l) (said_words texts)
    ∙ sym (printed-followed (spoken text) (all (map spoken texts)))

told_item : (texts : List (List ℕ)) → told items texts ≡ printed (item texts)
told_item texts =
    let front = opening (codes "li") [] in
    let end = closing (codes "li") in
    ap (λ (l : List ℕ). front ++ (l ++ end)) (said_words texts)
    ∙ ap (λ (l : List ℕ). front ++ (printed (all (map spoken texts)) ++ l)) (sym (append-nil end))

pub told_items : (sentences : List (List (List ℕ))) → flat_map (told items) sentences ≡ printed (each item sentences)
told_items [] = refl
told_items (texts ∷ sentences) =
    ap (λ (l : List ℕ). l ++ flat_map (told items) sentences) (told_item texts)
    ∙ ap (λ (l : List ℕ). printed (item texts) ++ l) (told_items sentences)
    ∙ sym (printed-followed (item texts) (each item sentences))
