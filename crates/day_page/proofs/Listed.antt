-- Items of a list of JSON, one after another.
use Rattle.std.proofs.Common.{◌≡◌, ◌∙◌, ap, sym, subst, ℕ, ◌+◌, ◌<◌, ◌≤◌, List, [], ◌∷◌, ◌++◌, arith}
use Rattle.std.proofs.Common.{append-nil, append_assoc, get_or, length, map, take}
use Rattle.std.specs.Prelude.{Some, slice_get}
use Rattle.std.specs.List.{flat_map}
use Rattle.std.proofs.lemmas.List.{length-map, length-take-le, map-append, take_all, take_more}
use Rattle.std.proofs.lemmas.List.Concat.{flat_map-append}
use Rattle.std.proofs.lemmas.List.FromFn.{length-enumerate_from}
use Rattle.std.proofs.lemmas.Option.{slice_get_within}
use Rattle.batch_core.specs.declared.entry.Entry.{Entry}
use Rattle.byte_edge.specs.declared.sink.Sink.{Ghosts}
use Rattle.day_lines.specs.EntryText.{numbered}
use Rattle.sheet_page.specs.declared.pen.Pen.{Pen}
use Rattle.sheet_page.specs.Json.{comma_at}
use Rattle.sheet_page.specs.Prints.{Prints}
use Rattle.sheet_page.proofs.Pens.{later}
use Rattle.day_page.specs.DayJson.{listed}
use Rattle.day_page.proofs.Calls.{call_at}

-- one piece more
listed_push :
    (pieces : List (List ℕ)) (piece : List ℕ)
    → listed (pieces ++ piece ∷ []) ≡ listed pieces ++ (comma_at (length pieces) ++ piece)
listed_push [] piece = append-nil piece
listed_push (first ∷ pieces) piece =
    let behind = flat_map (λ (other : List ℕ). 44 ∷ other) pieces in
    ap (λ (l : List ℕ). first ++ l) (flat_map-append (λ (other : List ℕ). 44 ∷ other) pieces (piece ∷ [])
    ∙ ap (λ (l : List ℕ). behind ++ 44 ∷ l) (append-nil piece))
    ∙ sym (append_assoc first behind (44 ∷ piece))

items_listed :
    {X : Type 0} (g : X → List ℕ) (xs : List X) (i : ℕ) (d : X) → i < length xs
    → listed (map g (take (i + 1) xs)) ≡ listed (map g (take i xs)) ++ (comma_at i ++ g (get_or xs i d))
items_listed {X} g xs i d below =
    let item = g (get_or xs i d) in
    let front = map g (take i xs) in
    let long : length front ≡ i = length-map (take i xs) g ∙ length-take-le i xs (omega (arith, below)) in
    ap (λ (l : List X). listed (map g l)) (take_more xs i d below)
    ∙ ap listed (map-append g (take i xs) (get_or xs i d ∷ []))
    ∙ listed_push front item
    ∙ ap (λ (n : ℕ). listed front ++ (comma_at n ++ item)) long

-- one item more
pub listed_more :
    {places : ℕ} {S X : Type 0} {k : Ghosts S} {p q r : Pen places S} (g : X → List ℕ) (xs : List X) (i : ℕ)
    (d : X) → i < length xs → Prints k p q (listed (map g (take i xs)))
    → Prints k q r (comma_at i ++ g (get_or xs i d)) → Prints k p r (listed (map g (take (i + 1) xs)))
listed_more {k} {p} {r} g xs i d below done next =
    subst (λ (l : List ℕ). Prints k p r l) (sym (items_listed g xs i d below)) (later done next)

-- one item more, which is x
pub listed_item :
    {places : ℕ} {S X : Type 0} {k : Ghosts S} {p q r : Pen places S} (g : X → List ℕ) (xs : List X) (i : ℕ)
    (x : X) → x ≡ get_or xs i x → i < length xs → Prints k p q (listed (map g (take i xs)))
    → Prints k q r (comma_at i ++ g x) → Prints k p r (listed (map g (take (i + 1) xs)))
listed_item {k} {q} {r} g xs i x is below done next =
    listed_more g xs i x below done (subst (λ y. Prints k q r (comma_at i ++ g y)) is next)

-- all items
pub listed_all :
    {places : ℕ} {S X : Type 0} {k : Ghosts S} {p r : Pen places S} (g : X → List ℕ) (xs : List X) (i : ℕ)
    → length xs ≤ i → Prints k p r (listed (map g (take i xs))) → Prints k p r (listed (map g xs))
listed_all {X = X} {k} {p} {r} g xs i past done =
    subst (λ (l : List X). Prints k p r (listed (map g l))) (take_all i xs past) done

module _ {places : ℕ} {S : Type 0} {k : Ghosts S} (g : ℕ × Entry → List ℕ) (history : List Entry) (i : ℕ) where
  -- one call more
  pub call_listed :
      {p q r : Pen places S} (e : Entry) → slice_get history i ≡ Some e
      → Prints k p q (listed (map g (take i (numbered history)))) → Prints k q r (comma_at i ++ g (i + 1, e))
      → Prints k p r (listed (map g (take (i + 1) (numbered history))))
  call_listed e is done next =
      listed_item g (numbered history) i (i + 1, e) (sym (call_at history i e is))
      (omega (arith, slice_get_within history i e is, length-enumerate_from 1 history)) done next

  -- all calls
  pub calls_listed :
      {p r : Pen places S} → length history ≤ i → Prints k p r (listed (map g (take i (numbered history))))
      → Prints k p r (listed (map g (numbered history)))
  calls_listed past done =
      listed_all g (numbered history) i (omega (arith, past, length-enumerate_from 1 history)) done
