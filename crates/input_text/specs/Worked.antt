-- A text worked by hand.
use Rattle.std.specs.Prelude.{◌≡◌, ℕ, List, [], ◌∷◌, true, false, codes}
use Rattle.input_text.specs.declared.fault_kind.FaultKind.TheVariants.{BadByte}
use Rattle.input_text.specs.Token.{Number, Minus, Text, Word, AtEnd, AtFault}
use Rattle.input_text.specs.Scan.{scan}

-- The text of two numbers, a string, a word and a number past 32 bits. Where it may have no words, it ends at the word.
abbrev pub mixed : List ℕ
mixed = codes " 12 -03 \"a b\"#c\nend 4294967296"

pub record Cuts : Type 0 where
  pub with_words : scan mixed true ≡ record {
    tokens = record { at = 1; item = Number 12 }
        ∷ record { at = 4; item = Minus 3 }
        ∷ record { at = 8; item = Text (codes "a b") }
        ∷ record { at = 16; item = Word (codes "end") }
        ∷ record { at = 20; item = Number 4294967295 }
        ∷ [];
    ending = AtEnd 30;
  }
  pub without : scan mixed false ≡ record {
    tokens = record { at = 1; item = Number 12 }
        ∷ record { at = 4; item = Minus 3 }
        ∷ record { at = 8; item = Text (codes "a b") }
        ∷ [];
    ending = AtFault (record { kind = BadByte; at = 16 });
  }
