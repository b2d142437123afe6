-- What a page says of the end of its day.
use Rattle.std.proofs.Common.{◌≡◌, ◌∙◌, refl, ap, ℕ, suc, List, [], ◌∷◌, ◌++◌, map, length, append-nil}
use Rattle.std.specs.Prelude.{Option, Some, None, codes, decimal, is_some}
use Rattle.std.specs.List.{flat_map, range_with_len}
use Rattle.std.proofs.lemmas.List.{map-append}
use Rattle.std.proofs.lemmas.List.Concat.{flat_map_single}
use Rattle.batch_core.specs.declared.batch.Batch.{Batch}
use Rattle.batch_core.specs.Book.{BookState, empty, last_batch}
use Rattle.batch_core.specs.Histories.{after_all}
use Rattle.page_tree.specs.Trees.{Trees, Nothing, followed}
use Rattle.day_text.specs.declared.batch_end.BatchEnd.{BatchEnd}
use Rattle.day_text.specs.End.{batch_end, end_of, if_any}
use Rattle.sheet_page.specs.PageReading.{along, text_in}
use Rattle.sheet_page.specs.Trees.{each}
use Rattle.sheet_page.proofs.PageWalks.{behind_nothing, found, found_each, found_followed}
use Rattle.day_page.specs.EndPart.{batch_item, fate, struck_item}
use Rattle.day_page.specs.Freezes.{freeze_parts}
use Rattle.day_page.specs.Laws.{PagesSayTheirEnd, batch_said, batches_said, counts_said, fate_said, struck_said}
use Rattle.day_page.proofs.DayWalks.{below_main, no_sections}

abbrev listed : Trees → List (List ℕ)
listed = found text_in (codes "li") []

fate_is : {X : Type 0} (standing : Option X) → fate (is_some standing) ≡ fate_said standing
fate_is None = refl
fate_is (Some ballots) = refl

module _ (book : BookState) where
  abbrev ends_at : ℕ → List BatchEnd
  ends_at number = if_any (batch_end number (book.batches number))

  abbrev said_at : ℕ → List (List ℕ)
  said_at number = batch_said number (book.batches number)

  batch_items : (numbers : List ℕ) → listed (each batch_item (flat_map ends_at numbers)) ≡ flat_map said_at numbers
  batch_items [] = refl
  batch_items (number ∷ numbers) = by (book.batches number) (batch_items numbers)
    where
      by :
          (batch : Option Batch) → listed (each batch_item (flat_map ends_at numbers)) ≡ flat_map said_at numbers
          → listed (each batch_item (if_any (batch_end number batch) ++ flat_map ends_at numbers))
          ≡ batch_said number batch ++ flat_map said_at numbers
      by None others = others
      by (Some batch) others =
          let more = flat_map ends_at numbers in
          let item = batch_item (record { number = number; revision = batch.revision; stands = is_some batch.standing }) in
          found_followed text_in (codes "li") [] item (each batch_item more)
          ∙ ap (λ l. (codes "Batch " ++ (decimal number ++ (l ++ (decimal batch.revision ++ (codes "." ++ [])))))
          ∷ listed (each batch_item more)) (fate_is batch.standing)
          ∙ ap (λ ls. batch_said number (Some batch) ++ ls) others

  as_many : (numbers : List ℕ) → length (flat_map ends_at numbers) ≡ length (flat_map said_at numbers)
  as_many [] = refl
  as_many (number ∷ numbers) = by (book.batches number) (as_many numbers)
    where
      by :
          (batch : Option Batch) → length (flat_map ends_at numbers) ≡ length (flat_map said_at numbers)
          → length (if_any (batch_end number batch) ++ flat_map ends_at numbers)
          ≡ length (batch_said number batch ++ flat_map said_at numbers)
      by None others = others
      by (Some batch) others = ap (λ n. suc n) others

struck_items : (struck : List ℕ) → listed (each struck_item struck) ≡ map struck_said struck
struck_items struck = found_each text_in (codes "li") [] struck_item struck ∙ flat_map_single struck_said struck

pub ends_said : PagesSayTheirEnd
ends_said places v =
    let calls = length v.history in
    let book = after_all empty v.history in
    let end = end_of book in
    let batches = each batch_item end.batches in
    let struck = each struck_item end.struck in
    let them = along (codes "li" ∷ []) (followed batches (followed struck Nothing)) in
    let freezes = followed (freeze_parts places calls v.sheets) Nothing in
    let items = codes "section" ∷ codes "ul" ∷ codes "li" ∷ [] in
    record {
      titles =
          ap (map text_in) (below_main (codes "section" ∷ codes "h2" ∷ []) places v)
          ∙ ap (λ l. codes "Calls" ∷ codes "What stands in the end" ∷ l) (no_sections text_in (codes "h2" ∷ []) places calls v.sheets);
      counts =
          ap (map text_in) (below_main (codes "section" ∷ codes "p" ∷ []) places v)
          ∙ ap (λ l. counts_said (length end.batches) (length end.struck) ∷ l) (no_sections text_in (codes "p" ∷ []) places calls v.sheets)
          ∙ ap (λ n. counts_said n (length book.struck) ∷ []) (as_many book (range_with_len 1 last_batch));
      items =
          ap (map text_in) (below_main items places v)
          ∙ map-append text_in (them ++ []) (along items freezes)
          ∙ ap (λ l. map text_in (them ++ []) ++ l) (no_sections text_in (codes "ul" ∷ codes "li" ∷ []) places calls v.sheets)
          ∙ append-nil (map text_in (them ++ []))
          ∙ ap (map text_in) (append-nil them)
          ∙ found_followed text_in (codes "li") [] batches (followed struck Nothing)
          ∙ ap (λ l. l ++ listed (followed struck Nothing)) (batch_items book (range_with_len 1 last_batch))
          ∙ ap (λ l. batches_said book ++ l) (ap listed (behind_nothing struck) ∙ struck_items book.struck);
    }
