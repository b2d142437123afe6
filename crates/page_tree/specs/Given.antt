-- Attributes as a caller gives them.
use Rattle.std.specs.Prelude.{List, map}
use Rattle.page_tree.specs.declared.attribute.Attribute.{Attribute as Given}
use Rattle.page_tree.specs.Trees.{Attribute}

-- an attribute that is given as borrowed bytes
abbrev pub as_given : Given → Attribute
as_given attribute = record { name = attribute.name.now; value = attribute.value.now }

abbrev pub given : List Given → List Attribute
given attributes = map as_given attributes
