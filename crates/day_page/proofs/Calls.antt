-- What is written of each call, one after another.
use Rattle.std.proofs.Common.{◌≡◌, ◌∙◌, ap, sym, ℕ, ◌+◌, ◌≤◌, List, get_or, length, take, arith}
use Rattle.std.specs.Prelude.{Some, slice_get}
use Rattle.std.specs.List.{flat_map}
use Rattle.std.proofs.lemmas.List.FromFn.{get_or-enumerate_from, length-enumerate_from}
use Rattle.std.proofs.lemmas.Option.{get_or_from_slice_get, slice_get_within}
use Rattle.batch_core.specs.declared.entry.Entry.{Entry}
use Rattle.byte_edge.specs.declared.sink.Sink.{Ghosts}
use Rattle.sheet_page.specs.declared.pen.Pen.{Pen}
use Rattle.sheet_page.specs.Prints.{Prints}
use Rattle.sheet_page.proofs.Pens.{item_more, items_all}
use Rattle.day_lines.specs.EntryText.{numbered}

-- the call at a place, with its number
pub call_at :
    (history : List Entry) (i : ℕ) (e : Entry) → slice_get history i ≡ Some e
    → get_or (numbered history) i (i + 1, e) ≡ (i + 1, e)
call_at history i e is =
    let below = slice_get_within history i e is in
    let at = get_or-enumerate_from 1 history i (i + 1, e) below in
    let same = get_or_from_slice_get history i e e is in
    let number : 1 + i ≡ i + 1 = omega arith in
    at ∙ ap (λ (x : Entry). (1 + i, x)) same ∙ ap (λ (n : ℕ). (n, e)) number

module _ {places : ℕ} {S : Type 0} {k : Ghosts S} (g : ℕ × Entry → List ℕ) (history : List Entry) (i : ℕ) where
  -- one call more
  pub call_more :
      {p q r : Pen places S} (e : Entry) → slice_get history i ≡ Some e
      → Prints k p q (flat_map g (take i (numbered history))) → Prints k q r (g (i + 1, e))
      → Prints k p r (flat_map g (take (i + 1) (numbered history)))
  call_more {p} {q} {r} e is done next =
      item_more g (numbered history) i (i + 1, e) (sym (call_at history i e is))
      (omega (arith, slice_get_within history i e is, length-enumerate_from 1 history)) done next

  -- all calls
  pub calls_all :
      {p r : Pen places S} → length history ≤ i → Prints k p r (flat_map g (take i (numbered history)))
      → Prints k p r (flat_map g (numbered history))
  calls_all past done =
      items_all g (numbered history) i (omega (arith, past, length-enumerate_from 1 history)) done
