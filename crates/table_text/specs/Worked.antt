-- Tables worked by hand.
use Rattle.std.specs.Prelude.{◌≡◌, ℕ, List, [], ◌∷◌, ◌++◌, Ok, Err, codes}
use Rattle.table_text.specs.declared.text_kind.TextKind.{TextKind}
use Rattle.table_text.specs.declared.text_kind.TextKind.TheVariants.{BadByte, BadQuote, EmptyLine, Ended, UnclearSeparator}
use Rattle.table_text.specs.Reading.{Ending, AtEnd, AtFault, read_text, texts_of}
use Rattle.table_text.specs.Separator.{separator_of}

abbrev pub refused : TextKind → (at row column : ℕ) → Ending
refused kind at row column = AtFault (record { kind = kind; at = at; row = row; column = column })

abbrev pub by_comma : List ℕ → Ending
by_comma text = (read_text 44 text).ending

-- Each fault has its place, its row and its column.
pub record Refusals : Type 0 where
  pub nothing : by_comma [] ≡ refused Ended 0 1 1
  pub open_quote : by_comma (codes "Ann,Ben\n1,\"2") ≡ refused Ended 12 2 2
  pub behind_quote : by_comma (codes "Ann,Ben\n1,\"2\"x\n") ≡ refused BadQuote 13 2 2
  pub inner_quote : by_comma (codes "Ann,B\"en\n") ≡ refused BadQuote 5 1 2
  pub lone_return : by_comma (codes "Ann,Ben" ++ 13 ∷ codes "1,2" ++ 13 ∷ []) ≡ refused BadByte 7 1 2
  pub empty_line : by_comma (codes "Ann,Ben\n1,2\n\n") ≡ refused EmptyLine 12 3 1
  pub control_byte : by_comma (0xFF ∷ 0xFE ∷ 0x41 ∷ 0 ∷ []) ≡ refused BadByte 3 1 1
  pub mark_alone : by_comma (0xEF ∷ 0xBB ∷ 0xBF ∷ []) ≡ refused Ended 3 1 1

-- a byte order mark, a separator and a doubled quote within quotes, lines that end with two bytes, and no end of the last
abbrev pub mixed : List ℕ
mixed = 0xEF ∷ 0xBB ∷ 0xBF ∷ codes "Name,\"Ann, \"\"A\"\"\"" ++ 13 ∷ 10 ∷ codes "1,\"\"" ++ 13 ∷ 10 ∷ codes ",2"

pub record Table : Type 0 where
  pub is : read_text 44 mixed ≡ record {
    rows = record {
      row = 1;
      at = 3;
      end = 20;
      fields = record { at = 3; bytes = codes "Name" } ∷ record { at = 8; bytes = codes "\"Ann, \"\"A\"\"\"" } ∷ [];
    } ∷ record {
      row = 2;
      at = 22;
      end = 26;
      fields = record { at = 22; bytes = codes "1" } ∷ record { at = 24; bytes = codes "\"\"" } ∷ [];
    } ∷ record {
      row = 3;
      at = 28;
      end = 30;
      fields = record { at = 28; bytes = [] } ∷ record { at = 29; bytes = codes "2" } ∷ [];
    } ∷ [];
    ending = AtEnd;
  }
  pub texts : texts_of (read_text 44 mixed).rows
      ≡ (codes "Name" ∷ codes "Ann, \"A\"" ∷ []) ∷ (codes "1" ∷ [] ∷ []) ∷ ([] ∷ codes "2" ∷ []) ∷ []
  pub other_separator : texts_of (read_text 59 (codes "Ann;Ben,jr\n1;2\n")).rows
      ≡ (codes "Ann" ∷ codes "Ben,jr" ∷ []) ∷ (codes "1" ∷ codes "2" ∷ []) ∷ []

-- The head tells the separator.
pub record Separators : Type 0 where
  pub unclear : separator_of (codes "Ann;Ben,jr\n") ≡ Err (record { kind = UnclearSeparator; at = 7; row = 1; column = 2 })
  pub within_quotes : separator_of (codes "Ann;\"Ben,jr\"\n") ≡ Ok 59
  pub in_later_rows : separator_of (codes "Ann;Ben\n1,2\n") ≡ Ok 59
  pub tabs : separator_of (codes "Ann" ++ 9 ∷ codes "Ben") ≡ Ok 9
  pub none : separator_of (codes "Ann\n1;\n") ≡ Ok 44
  pub no_bar : separator_of (codes "Ann|Ben\n") ≡ Ok 44
  pub behind_a_return : separator_of (codes "Ann,Ben" ++ 13 ∷ codes ";") ≡ Ok 44
