-- The tokens of a text, with their places.
use Rattle.std.specs.Prelude.{ℕ, List, [], ◌∷◌}
use Rattle.input_text.specs.declared.input_fault.InputFault.{InputFault}

-- what a token says; a string without its quotes
pub data Item : Type 0 where
  Number : (n : ℕ) → Item
  Minus : (n : ℕ) → Item
  Text : (bytes : List ℕ) → Item
  Word : (letters : List ℕ) → Item

-- a token and the place of its first byte
pub record Placed : Type 0 where
  pub at : ℕ
  pub item : Item

-- how a text ends: at its length, or at the first fault
pub data Ending : Type 0 where
  AtEnd : (at : ℕ) → Ending
  AtFault : (fault : InputFault) → Ending

-- a text cut into tokens
pub record Scan : Type 0 where
  pub tokens : List Placed
  pub ending : Ending

abbrev pub ends : Ending → Scan
ends ending = record { tokens = []; ending = ending }

abbrev pub with_front : Placed → Scan → Scan
with_front token scan = record { tokens = token ∷ scan.tokens; ending = scan.ending }
