use Rattle.std.proofs.Common.{ℕ, List, All, subst, ◌∙◌}
use Rattle.std.proofs.lemmas.List.{take_all}
use Rattle.std.proofs.lemmas.List.Elements.{All-more}
use Rattle.candidate_roll.specs.declared.limits.TheConstants.{MOST_NAME_BYTES}
use Rattle.candidate_roll.specs.Name.{IsName}
use Rattle.blt_import.proofs.writing.are_named.Goals as goal

pub loop-name-preserved : goal.loop-name-preserved
loop-name-preserved c =
    All-more (IsName MOST_NAME_BYTES) c.args.names.now c.loop-name.name-index c.name-item.result c.loop-name-test.true
    c.loop-name.invariant
    (subst (IsName MOST_NAME_BYTES) (c.bytes-bytes.ensures.value ∙ c.name-item.is) c.bytes-bytes.ensures.name)

pub returns : goal.returns
returns c =
    subst (λ (names : List (List ℕ)). All (IsName MOST_NAME_BYTES) names)
    (take_all c.loop-name.name-index c.args.names.now c.loop-name-test.false) c.loop-name.invariant
