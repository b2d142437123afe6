-- The calls of a day as a table on a page: a row for each, in the words of the text of the day.
use Rattle.std.specs.Prelude.{ℕ, List, [], ◌∷◌, codes, decimal}
use Rattle.batch_core.specs.declared.entry.Entry.{Entry}
use Rattle.day_lines.specs.EntryText.{call_text, caller_text, numbered, reply_text}
use Rattle.page_tree.specs.Trees.{Attribute, Trees}
use Rattle.sheet_page.specs.RoundTable.{column_attributes, line_head}
use Rattle.sheet_page.specs.Trees.{at, each, el, words}

-- ---- the head

abbrev pub column_head : (name : List ℕ) → Trees
column_head name = el (codes "th") column_attributes (words name ∷ [])

abbrev pub call_heads : Trees
call_heads =
    el (codes "thead") [] (
    el (codes "tr") [] (
    column_head (codes "Number") ∷ column_head (codes "Who") ∷ column_head (codes "Call") ∷ column_head (codes "Answer") ∷ []
    ) ∷ []
    )

-- ---- the calls

abbrev pub plain_cell : (text : List ℕ) → Trees
plain_cell text = el (codes "td") [] (words text ∷ [])

-- a call: its number, who called, what was called, and what was answered
abbrev pub call_row : (number : ℕ) → (caller call reply : List ℕ) → Trees
call_row number caller call reply =
    el (codes "tr") [] (line_head (decimal number) ∷ plain_cell caller ∷ plain_cell call ∷ plain_cell reply ∷ [])

-- the n-th call
abbrev pub entry_row : (n : ℕ) → Entry → Trees
entry_row n e = call_row n (caller_text e.caller) (call_text e.call) (reply_text e.reply)

abbrev pub call_rows : List Entry → Trees
call_rows history = el (codes "tbody") [] (each (λ e. entry_row e.0 e.1) (numbered history) ∷ [])

-- ---- the whole part

abbrev pub call_table : List Entry → Trees
call_table history = el (codes "table") [] (call_heads ∷ call_rows history ∷ [])

-- a frame in which the table moves, also by the keys
abbrev pub calls_frame_attributes : List Attribute
calls_frame_attributes =
    at (codes "tabindex") (codes "0") ∷ at (codes "role") (codes "region") ∷ at (codes "aria-label") (codes "Calls") ∷ []

abbrev pub calls_frame : List Entry → Trees
calls_frame history = el (codes "div") calls_frame_attributes (call_table history ∷ [])

abbrev pub calls_title : Trees
calls_title = el (codes "h2") [] (words (codes "Calls") ∷ [])

abbrev pub calls_part : List Entry → Trees
calls_part history = el (codes "section") [] (calls_title ∷ calls_frame history ∷ [])
