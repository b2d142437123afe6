use Rattle.std.proofs.Common.{[]}
use Rattle.ranking_trie.proofs.FormLemmas.{in_order, undone, same_form}
use Rattle.ranking_trie.proofs.laws.one_bag_has_one_form.Goals as goal

pub returns : goal.returns
returns c = record {
  order = in_order;
  unique = λ xs ys a b same. undone xs ys [] a b same;
  undone = undone;
  form = λ f g a b same. same_form 0 0 f g a b same;
}
