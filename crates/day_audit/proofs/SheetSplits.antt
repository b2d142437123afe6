-- Whatever has the form of a sheet is cut off from any bytes after it, since of its lines the last alone is `end`.
use Rattle.std.proofs.Common.{◌≡◌, ℕ, ◌+◌, List, ◌++◌, codes, sym, ap, subst, ◌∙◌, take_at, drop_at}
use Rattle.sheet_text.specs.Lines.{ended, text_of_lines}
use Rattle.sheet_reader.specs.Form.{IsPrintable}
use Rattle.sheet_reader.specs.Values.{SheetList, lines_of}
use Rattle.sheet_check.specs.Input.{IsSplit}
use Rattle.day_text.proofs.SheetCuts.{text_push}
use Rattle.day_text.proofs.SheetLines.{front_of, lines_are, front_inner}
use Rattle.day_audit.specs.Laws.{SheetsAreSplit}
use Rattle.day_audit.proofs.FirstEnds.{IsOverFirst, last_line, lines_more}

-- the lines of a sheet, the last of them apart
pub sheet_is :
    (places : ℕ) (v : SheetList)
    → text_of_lines (lines_of places v) ≡ text_of_lines (front_of places v) ++ ended (codes "end")
sheet_is places v =
    ap (λ (lines : List (List ℕ)). text_of_lines lines) (lines_are places v) ∙ text_push (front_of places v) (codes "end")

-- a sheet ends a text after which anything may come
abbrev Anything : List ℕ → Type 0
Anything rest = Unit {0}

sheet_first :
    (places : ℕ) (v : SheetList) (file : List ℕ) → IsPrintable places v
    → IsOverFirst Anything (text_of_lines (front_of places v) ++ ended (codes "end")) file
unfolding text_of_lines
sheet_first places v file printable =
    lines_more Anything (front_of places v) (ended (codes "end")) file (front_inner places v printable)
    (last_line Anything file tt)

split_first : (sheet file : List ℕ) → IsOverFirst Anything sheet file → IsSplit (sheet ++ file) sheet file
split_first sheet file first = record {
  at = first.at;
  first = record {
    stands = first.over.stands;
    none_before = λ k below is. first.none_before k below (record { stands = is; follows = tt });
  };
  sheet_is = sym (take_at sheet file (first.at + 4) (sym first.long));
  file_is = sym (drop_at sheet file (first.at + 4) (sym first.long));
}

pub sheets_split : SheetsAreSplit
sheets_split places sheet file v form =
    split_first sheet file
    (subst (λ (t : List ℕ). IsOverFirst Anything t file) (sym (form.text ∙ sheet_is places v))
    (sheet_first places v file form.in_range))
