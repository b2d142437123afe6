use Rattle.std.proofs.Common.{rules, ◌≡◌, ℕ, List, [], sym, ap, subst}
use Rattle.std.specs.List.Sorted.{IsPermutation}
use Rattle.std.proofs.lemmas.List.Sorted.{IsPermutation-refl}
use Rattle.plain_ballots.specs.Ballots.{plain}
use Rattle.batch_core.specs.declared.entry.Entry.{Entry}
use Rattle.batch_core.specs.Book.{empty, standing}
use Rattle.batch_core.specs.Histories.{after_all}
use Rattle.ranking_trie.specs.BallotBag.{BallotBag}
use Rattle.shard_book.proofs.StandingLemmas.{none_stand}
use Rattle.shard_book.proofs.book.ShardBook.new.Goals as goal

nothing_stands :
    (ballots : List (List ℕ)) (es : List Entry) → ballots ≡ [] → es ≡ []
    → IsPermutation ballots (plain (standing (after_all empty es)))
nothing_stands ballots es no_ballots no_entries =
    subst (λ (l : List Entry). IsPermutation ballots (plain (standing (after_all empty l)))) (sym no_entries)
    (subst (λ (l : List (List ℕ)). IsPermutation l (plain (standing empty))) (sym no_ballots)
    (subst (λ l. IsPermutation [] (plain l)) (sym none_stand) (IsPermutation-refl [])))

pub invariant_of-result : goal.invariant_of-result
invariant_of-result c =
    let ballots : c.new-3.result.ballots ≡ [] = ap (λ (b : BallotBag). b.ballots) c.new-3.ensures in (
      search rules,
      search rules,
      search rules,
      nothing_stands c.new-3.result.ballots c.new-2.result.items ballots c.new-2.ensures,
    )
