-- What is written of the sheets of a day, the office's own first, and of values one by one.
use Rattle.std.proofs.Common.{◌≡◌, ◌∙◌, ap, sym, ℕ, ◌+◌, ◌-◌, ◌<◌, List, ◌++◌, drop, get_or, length, take}
use Rattle.std.specs.List.{flat_map}
use Rattle.std.proofs.lemmas.List.Concat.{flat_map-append}
use Rattle.std.proofs.lemmas.Option.{get_or_from_slice_get, slice_get-get_or}
use Rattle.byte_edge.specs.declared.sink.Sink.{Ghosts}
use Rattle.sheet_page.specs.declared.pen.Pen.{Pen}
use Rattle.sheet_page.specs.Prints.{Prints}
use Rattle.sheet_page.proofs.Pens.{item_more}
use Rattle.day_page.specs.Lists.{own_first}

-- the own one, and after it the others
pub own_then_others :
    {X : Type 0} (g : X → List ℕ) (items own others : List X) → own ≡ drop (length items - 1) items
    → others ≡ take (length items - 1) items
    → flat_map g own ++ flat_map g others ≡ flat_map g (own_first items)
own_then_others {X} g items own others is_own is_others =
    ap (λ (l : List X). flat_map g l ++ flat_map g others) is_own
    ∙ ap (λ (l : List X). flat_map g (drop (length items - 1) items) ++ flat_map g l) is_others
    ∙ sym (flat_map-append g (drop (length items - 1) items) (take (length items - 1) items))

-- one value more of a list that is gone through by value
pub value_more :
    {places : ℕ} {S X : Type 0} {k : Ghosts S} {p q r : Pen places S} (g : X → List ℕ) (xs : List X) (i : ℕ)
    (d : X)
    → i < length xs → Prints k p q (flat_map g (take i xs)) → Prints k q r (g (get_or xs i d))
    → Prints k p r (flat_map g (take (i + 1) xs))
value_more g xs i d below done next =
    let here = get_or xs i d in
    item_more g xs i here (sym (get_or_from_slice_get xs i here here (slice_get-get_or xs i d below))) below
    done next
