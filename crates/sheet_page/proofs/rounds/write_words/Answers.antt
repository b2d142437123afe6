use Rattle.std.proofs.Common.{[], ◌∷◌, List}
use Rattle.std.specs.Prelude.{ℕ, codes}
use Rattle.page_tree.specs.Trees.{Trees}
use Rattle.sheet_page.specs.Html.{meaning, hopeful_means, keep_value_means, on_no_candidate_means, iterations_mean}
use Rattle.sheet_page.specs.Trees.{all}
use Rattle.sheet_page.proofs.Printing.{wrapped}
use Rattle.sheet_page.proofs.Pens.{later, renamed}
use Rattle.sheet_page.proofs.rounds.write_words.Goals as goal

abbrev one : (word meant : List ℕ) → Trees
one word meant = all (meaning word meant [])

pub returns : goal.returns
returns g c =
    renamed (wrapped (codes "dl") [] (
    one (codes "Hopeful") hopeful_means ∷ one (codes "Keep value") keep_value_means
    ∷ one (codes "On no candidate") on_no_candidate_means ∷ one (codes "In the iterations") iterations_mean ∷ []))
    (later c.open.ensures (later c.write_meaning.ensures (later c.write_meaning-2.ensures (later c.write_meaning-3.ensures
    (later c.write_meaning-4.ensures c.close.ensures)))))
