-- How an input or words are refused. 10 ends a line.
use Rattle.std.specs.Prelude.{ℕ, List, [], ◌∷◌, ◌++◌, codes, decimal}
use Rattle.input_text.specs.FaultWords.{kind_word}
use Rattle.input_text.specs.declared.fault_kind.FaultKind.TheVariants.{TooLong}
use Rattle.input_text.specs.declared.input_fault.InputFault.{InputFault}

-- How inputs are refused: the line of each fault, and the fault of an input of more bytes than may be read.
pub record Refusals (F : Type 0) : Type 0 where
  pub line : F → List ℕ
  pub too_long : (most : ℕ) → F

-- ---- the faults of files

-- the kind and the place of an input's fault
abbrev pub fault_line : InputFault → List ℕ
fault_line fault = codes "refused " ++ kind_word fault.kind ++ codes " at " ++ decimal fault.at ++ 10 ∷ []

-- more bytes than may be read, where the first of them too many stands
abbrev pub too_long : (most : ℕ) → InputFault
too_long most = record { kind = TooLong; at = most }

abbrev pub file_refusals : Refusals InputFault
file_refusals = record { line = fault_line; too_long = too_long }

-- ---- words

-- words that ask for nothing
abbrev pub words_line : List ℕ
words_line = codes "refused BadWords" ++ 10 ∷ []
