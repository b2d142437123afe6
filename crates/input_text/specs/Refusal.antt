-- Why a text is refused, and what it says. A relation tells which items are a file, with its value, and a table what an
-- item leads to where something is expected.
use Rattle.std.specs.Prelude.{◌≡◌, ℕ, List, [], ◌∷◌, ◌++◌, map, Ok, Err, ◌⊎◌}
use Rattle.input_text.specs.declared.fault_kind.FaultKind.TheVariants.{Ended}
use Rattle.input_text.specs.declared.input_fault.InputFault.{InputFault}
use Rattle.input_text.specs.Token.{Item, Placed, AtEnd, AtFault, Scan}
use Rattle.input_text.specs.Judged.{Judged, after}

abbrev pub items_of : List Placed → List Item
items_of tokens = map (λ token. token.item) tokens

module _ {V : Type 0} (IsFile : List Item → V → Type 0) where
  -- some continuation of the items is a file
  abbrev pub IsOpen : List Item → Type 0
  IsOpen items = (more : List Item) × (value : V) × IsFile (items ++ more) value

  -- the text has no fault, and its tokens are a file
  pub record IsAccepted (text : Scan) (value : V) : Type 0 where
    pub at : ℕ
    pub ending : text.ending ≡ AtEnd at
    pub file : IsFile (items_of text.tokens) value

  -- The front of the text is a file, and this rest is after it.
  pub record IsFrontOf (text : Scan) (value : V) (rest : Scan) : Type 0 where
    pub front : List Placed
    pub tokens : text.tokens ≡ front ++ rest.tokens
    pub ending : text.ending ≡ rest.ending
    pub file : IsFile (items_of front) value

  module _ {S : Type 0} (table : S → Item → Judged S) (start : S) where
    -- The first token by which the list stops being open decides: its place, and its judgement by what the table expects
    -- after the list before it.
    pub record ByToken (text : Scan) (fault : InputFault) : Type 0 where
      pub front : List Placed
      pub token : Placed
      pub behind : List Placed
      pub split : text.tokens ≡ front ++ token ∷ behind
      pub open_before : IsOpen (items_of front)
      pub not_open : ¬ IsOpen (items_of front ++ token.item ∷ [])
      pub expected : S
      pub is_expected : after table start (items_of front) ≡ Ok expected
      pub kind : table expected token.item ≡ Err fault.kind
      pub place : fault.at ≡ token.at

    -- Otherwise the fault at which the text ends.
    pub record ByEnding (text : Scan) (fault : InputFault) : Type 0 where
      pub open_before : IsOpen (items_of text.tokens)
      pub ending : text.ending ≡ AtFault fault

    -- Otherwise, where the list is no file, that the text has ended.
    pub record ByLength (text : Scan) (fault : InputFault) : Type 0 where
      pub open_before : IsOpen (items_of text.tokens)
      pub at : ℕ
      pub ending : text.ending ≡ AtEnd at
      pub no_file : (value : V) → ¬ IsFile (items_of text.tokens) value
      pub fault_is : fault ≡ record { kind = Ended; at = at }

    -- Otherwise there is none.
    abbrev pub IsRefusal : Scan → InputFault → Type 0
    IsRefusal text fault = ByToken text fault ⊎ (ByEnding text fault ⊎ ByLength text fault)

    -- No front of the text is a file, and the text is refused as one.
    pub record IsFrontRefusal (text : Scan) (fault : InputFault) : Type 0 where
      pub no_front : (value : V) (rest : Scan) → ¬ IsFrontOf text value rest
      pub refused : IsRefusal text fault
