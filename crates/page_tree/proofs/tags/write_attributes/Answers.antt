use Rattle.std.proofs.Common.{◌∙◌, ap, subst, ℕ, List}
use Rattle.std.specs.List.{flat_map}
use Rattle.std.proofs.lemmas.List.{take_all}
use Rattle.page_tree.specs.declared.attribute.Attribute.{Attribute as Given}
use Rattle.page_tree.specs.Print.{attribute_text}
use Rattle.page_tree.specs.Given.{as_given}
use Rattle.piece_text.specs.Writing.{Wrote, Writes}
use Rattle.piece_text.proofs.Written.{wrote_nothing, wrote_more, stopped_at, flat_map-map}
use Rattle.page_tree.proofs.tags.write_attributes.Goals as goal

pub loop-attribute-init : goal.loop-attribute-init
loop-attribute-init g c = wrote_nothing _ _ _

pub loop-attribute-preserved : goal.loop-attribute-preserved
loop-attribute-preserved g c =
    wrote_more (λ a. attribute_text (as_given a)) c.args.attributes.now c.loop-attribute.attribute-index _
    c.loop-attribute-test.true c.loop-attribute.invariant c.in_ok-write_attribute.ensures

pub returns-in_err-write_attribute : goal.returns-in_err-write_attribute
returns-in_err-write_attribute g c =
    subst (λ (l : List ℕ). Writes g.K.Sink.written g.K.Sink.faults c.args.sink.now c.write_attribute.new.sink
    l c.from_residual.result)
    (flat_map-map attribute_text as_given c.args.attributes.now)
    (stopped_at (λ a. attribute_text (as_given a)) c.args.attributes.now c.loop-attribute.attribute-index _
    c.from_residual.result c.from_residual.ensures.0 c.loop-attribute-test.true c.loop-attribute.invariant
    c.in_err-write_attribute.ensures)

pub returns : goal.returns
returns g c =
    let whole =
    ap (flat_map (λ (a : Given). attribute_text (as_given a)))
    (take_all c.loop-attribute.attribute-index c.args.attributes.now c.loop-attribute-test.false)
    ∙ flat_map-map attribute_text as_given c.args.attributes.now in
    subst (λ (l : List ℕ). Wrote g.K.Sink.written g.K.Sink.faults c.args.sink.now c.loop-attribute.sink l)
    whole c.loop-attribute.invariant
