-- The texts of a sentence, by what is in them.
use Rattle.std.specs.Prelude.{ℕ, List, decimal}
use Rattle.sheet_words.specs.declared.part.Part.{Part}
use Rattle.sheet_words.specs.declared.part.Part.TheVariants.{Words, Number}

abbrev pub part_text : Part → List ℕ
part_text (Words bytes) = bytes.now
part_text (Number n) = decimal n
