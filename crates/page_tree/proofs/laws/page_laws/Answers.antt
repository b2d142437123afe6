use Rattle.page_tree.proofs.TextLemmas.{read-shown, plain-shown}
use Rattle.page_tree.proofs.TagLemmas.{elements-nest}
use Rattle.page_tree.proofs.laws.page_laws.Goals as goal

pub returns-clause-texts : goal.returns-clause-texts
returns-clause-texts c = read-shown

pub returns-clause-plain : goal.returns-clause-plain
returns-clause-plain c = plain-shown

pub returns-clause-elements : goal.returns-clause-elements
returns-clause-elements c = elements-nest
