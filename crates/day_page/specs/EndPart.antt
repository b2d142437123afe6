-- What is in the end of a day, on a page.
use Rattle.std.specs.Prelude.{ℕ, Bool, true, false, List, [], ◌∷◌, codes, decimal, length}
use Rattle.page_tree.specs.Trees.{Trees}
use Rattle.day_text.specs.declared.batch_end.BatchEnd.{BatchEnd}
use Rattle.day_text.specs.End.{DayEndList}
use Rattle.sheet_page.specs.Trees.{each, el, words}

-- what became of a batch
abbrev pub fate : (stands : Bool) → List ℕ
fate true = codes " stands at revision "
fate false = codes " was withdrawn, at revision "

-- a batch that was entered, with its last revision
abbrev pub batch_item : BatchEnd → Trees
batch_item b =
    el (codes "li") [] (
    words (codes "Batch ") ∷ words (decimal b.number) ∷ words (fate b.stands) ∷ words (decimal b.revision) ∷ words (codes ".") ∷ []
    )

abbrev pub struck_item : (candidate : ℕ) → Trees
struck_item candidate = el (codes "li") [] (words (codes "Candidate ") ∷ words (decimal candidate) ∷ words (codes " was struck.") ∷ [])

abbrev pub end_title : Trees
end_title = el (codes "h2") [] (words (codes "What stands in the end") ∷ [])

-- how many batches were entered, and how many candidates were struck
abbrev pub end_counts : (batches struck : ℕ) → Trees
end_counts batches struck =
    el (codes "p") [] (
    words (codes "Batches that were entered: ") ∷ words (decimal batches) ∷ words (codes ". Candidates who were struck: ")
    ∷ words (decimal struck) ∷ words (codes ".") ∷ []
    )

abbrev pub end_list : List BatchEnd → (struck : List ℕ) → Trees
end_list batches struck = el (codes "ul") [] (each batch_item batches ∷ each struck_item struck ∷ [])

abbrev pub stands_part : List BatchEnd → (struck : List ℕ) → Trees
stands_part batches struck =
    el (codes "section") [] (end_title ∷ end_counts (length batches) (length struck) ∷ end_list batches struck ∷ [])

abbrev pub end_part : DayEndList → Trees
end_part end = stands_part end.batches end.struck
