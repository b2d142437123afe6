use Rattle.std.proofs.Common.{refl, arith}
use Rattle.std.proofs.lemmas.List.{get_or-replicate}
use Rattle.ballot_table.specs.declared.held.Held.TheVariants.{Nobody}
use Rattle.ballot_table.proofs.HeldLemmas.{none_held}
use Rattle.ballot_table.proofs.holders.Holders.new.Goals as goal

pub invariant_of-result : goal.invariant_of-result
invariant_of-result c = (omega arith, λ k behind within. get_or-replicate 250 k Nobody Nobody within)

pub returns : goal.returns
returns c = none_held _ refl refl (λ k inside. get_or-replicate 250 k Nobody Nobody inside)
