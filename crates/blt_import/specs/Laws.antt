-- What holds of inputs and what is written of them.
use Rattle.std.specs.Prelude.{◌≡◌, ℕ, List, map, Some, Ok, IsPermutation}
use Rattle.table_text.specs.Reading as text
use Rattle.ballot_table.specs.declared.table_asked.TableAsked.{TableAsked}
use Rattle.ballot_table.specs.Imported.{Headed, headed, separator, texts_in}
use Rattle.import_words.specs.declared.asked.Asked.{Asked}
use Rattle.import_words.specs.declared.output.Output.TheVariants.{Blt}
use Rattle.blt_import.specs.Forms.{Table, TableForm, form_of}
use Rattle.blt_import.specs.Owed.{OwesText}

-- One text at most is owed for an input, as it is asked for.
abbrev pub TablesHaveOneText : Type 0
TablesHaveOneText =
    (asked : Asked) (input one other : List ℕ) → OwesText asked input one → OwesText asked input other → one ≡ other

-- an input is read as records that are a head, whose columns have these names, and rows that say this
pub record HasRecords (asked : TableAsked) (input : List ℕ) (head : List (List ℕ)) (below : List (List (List ℕ))) : Type 0
  where
    pub byte : ℕ
    pub separated : separator asked.separator input ≡ Ok byte
    pub parts : Headed
    pub records : headed asked.heads (text.read_text byte input).rows ≡ Some parts
    pub head_is : parts.names ≡ head
    pub below_is : map texts_in parts.below ≡ below

-- Tables of one head with the same records below it, in whatever order, have one ballot file.
abbrev pub RecordsHaveOneText : Type 0
RecordsHaveOneText =
    (asked : Asked) (form : TableForm) (one other : List ℕ) (head : List (List ℕ)) (below moved : List (List (List ℕ)))
    (text_of_one text_of_other : List ℕ) → form_of asked ≡ Table form → asked.output ≡ Blt
    → HasRecords form.table one head below → HasRecords form.table other head moved → IsPermutation below moved
    → OwesText asked one text_of_one → OwesText asked other text_of_other → text_of_one ≡ text_of_other
