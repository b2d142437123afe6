use Rattle.std.proofs.Common.{take}
use Rattle.std.specs.List.{flat_map}
use Rattle.page_tree.specs.Print.{attribute_text}
use Rattle.page_tree.specs.Given.{as_given}
use Rattle.piece_text.specs.Writing.{Wrote}
use Rattle.page_tree.proofs.tags.write_attributes.Given as goal

abbrev pub invariant-loop-attribute : goal.invariant-loop-attribute
invariant-loop-attribute g l =
    Wrote g.K.Sink.written g.K.Sink.faults l.initial.sink l.sink
    (flat_map (λ a. attribute_text (as_given a)) (take l.attribute-index l.attributes))
