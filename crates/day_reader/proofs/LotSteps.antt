-- The lots of a day, one number after another, and the marks of the candidates that have had theirs.
use Rattle.std.proofs.Common.{◌≡◌, ◌≢◌, ℕ, ◌<◌, ◌≤◌, ◌==◌, List, [], ◌∷◌, ◌++◌, length, Bool, true, false}
use Rattle.std.proofs.Common.{refl, sym, ◌∙◌, ap, subst, arith, Ok, Err, set, inl, inr, get_or-set_other}
use Rattle.std.specs.Prelude.{Result, ◌||◌, ◌-◌, IfOk, IfErr}
use Rattle.std.specs.List.{list_any}
use Rattle.std.proofs.lemmas.Bool.{eq-eqb, ne_eqb, le-leb, lt-leb}
use Rattle.std.proofs.lemmas.Bool.Decides.{eqb_tells}
use Rattle.std.proofs.lemmas.Grind.{get_or-set_at}
use Rattle.std.proofs.lemmas.List.Folds.{list_any-append}
use Rattle.lot_order.specs.Flags.{mark_at}
use Rattle.input_text.specs.Range.{IsIn}
use Rattle.input_text.specs.declared.fault_kind.FaultKind.{FaultKind}
use Rattle.input_text.specs.declared.fault_kind.FaultKind.TheVariants.{BadLots}
use Rattle.input_text.specs.declared.input_fault.InputFault.{InputFault}
use Rattle.input_text.specs.declared.input_stop.InputStop.{InputStop}
use Rattle.input_text.specs.declared.input_stop.InputStop.TheVariants as stop
use Rattle.input_text.specs.Token.{Item, Number, Minus, Text, Word, Scan, with_front}
use Rattle.input_text.specs.Judged.{reads}
use Rattle.input_text.specs.Reads.{Stops, as_number, Reads}
use Rattle.input_text.proofs.Judgements.{accepted, same_kind}
use Rattle.input_text.proofs.Reading.{goes_on, ends_with, refused_at, stops}
use Rattle.day_reader.specs.DayTable.{at_lot}

module _ (candidates : ℕ) (lots : List ℕ) (old new : Scan) where
  -- ---- the next token

  no_lot : (item : Item) (kind : FaultKind) → as_number item ≡ Err kind → at_lot candidates lots item ≡ Err kind
  no_lot (Number n) kind e = absurd (accepted e)
  no_lot (Minus n) kind e = ap Err (same_kind e)
  no_lot (Text bytes) kind e = ap Err (same_kind e)
  no_lot (Word letters) kind e = ap Err (same_kind e)

  -- no number is there
  pub lot_stops :
      (fault : InputFault) → Stops as_number old fault new
      → reads (at_lot candidates) lots old ≡ Err (record { fault = fault; rest = new })
  lot_stops fault is = stops (at_lot candidates) lots old new as_number fault no_lot is

  module _ (n at : ℕ) (given : old ≡ with_front (record { at = at; item = Number n }) new) where
    -- ---- a number, where it ends the lots, is refused, or is one lot more

    -- 0 ends the lots of all candidates
    pub lots_end : n ≡ 0 → length lots ≡ candidates → reads (at_lot candidates) lots old ≡ Ok (lots, new)
    lots_end none all =
        ends_with (at_lot candidates) lots old new _ lots given
        (rw (eq-eqb n 0 none, eq-eqb (length lots) candidates all) refl)

    -- what is said of a text that is refused at this number
    abbrev IsBad : Type 0
    IsBad =
        reads (at_lot candidates) lots old ≡ Err (record { fault = record { kind = BadLots; at = at }; rest = new })

    bad_lot : at_lot candidates lots (Number n) ≡ Err BadLots → IsBad
    bad_lot refuses = refused_at (at_lot candidates) lots old new _ BadLots given refuses

    -- 0 is before all candidates have had their lots
    pub lots_missing : n ≡ 0 → length lots ≢ candidates → IsBad
    lots_missing none few = bad_lot (rw (eq-eqb n 0 none, ne_eqb (length lots) candidates few) refl)

    -- no candidate has this number
    pub above : (n ≡ 0 → ⊥) → candidates < n → IsBad
    above some greater = bad_lot (rw (ne_eqb n 0 some, lt-leb n candidates greater) refl)

    -- the candidate has had a lot
    pub again : (n ≡ 0 → ⊥) → n ≤ candidates → list_any (λ c. c == n) lots ≡ true → IsBad
    again some within twice = bad_lot (rw (ne_eqb n 0 some, le-leb n candidates within, twice) refl)

    -- the next candidate in the order
    pub one_more :
        (n ≡ 0 → ⊥) → n ≤ candidates → list_any (λ c. c == n) lots ≡ false
        → reads (at_lot candidates) lots old ≡ reads (at_lot candidates) (lots ++ n ∷ []) new
    one_more some within once =
        goes_on (at_lot candidates) lots old new _ (lots ++ n ∷ []) given
        (rw (ne_eqb n 0 some, le-leb n candidates within, once) refl)

-- ---- marks of the candidates

-- A candidate is marked exactly where it is among the lots.
abbrev pub Marks : ℕ → List Bool → List ℕ → Type 0
Marks candidates stood lots = (c : ℕ) → 1 ≤ c → c ≤ candidates → mark_at stood (c - 1) ≡ list_any (λ d. d == c) lots

with_itself : (b : Bool) → true ≡ (b || (true || false))
with_itself true = refl
with_itself false = refl

with_nothing : (b : Bool) → b ≡ (b || (false || false))
with_nothing true = refl
with_nothing false = refl

-- the marks with one candidate more among the lots
pub one_marked_more :
    (candidates : ℕ) (stood : List Bool) (lots : List ℕ) (n : ℕ) → IsIn candidates n → length stood ≡ candidates
    → Marks candidates stood lots → Marks candidates (set stood (n - 1) true) (lots ++ n ∷ [])
one_marked_more candidates stood lots n is same marks c some within =
    let before : Bool = list_any (λ d. d == c) lots in
    let all = list_any-append (λ d. d == c) lots (n ∷ []) in
    elim (eqb_tells n c) [
      | inl here ↦ get_or-set_at stood (n - 1) (c - 1) true false (omega (arith, here.1)) (omega (arith, is, same))
          ∙ with_itself before ∙ ap (λ (b : Bool). before || (b || false)) (sym here.0) ∙ sym all
      | inr other ↦ get_or-set_other stood (n - 1) (c - 1) true false (λ e. other.1 (omega (arith, e, is, some)))
          ∙ marks c some within ∙ with_nothing before ∙ ap (λ (b : Bool). before || (b || false)) (sym other.0)
          ∙ sym all
    ]

-- ---- where the lots end

-- the lots as the code has them
pub lots_read :
    (candidates : ℕ) (start rest : Scan) (lots : List ℕ) (result : Result (List ℕ) InputStop)
    → reads (at_lot candidates) [] start ≡ Ok (lots, rest) → IfOk result (λ found. found ≡ lots)
    → IfErr result (λ why. why ≡ stop.NoMemory) → Reads (at_lot candidates) [] (λ (found : List ℕ). found) start result rest
lots_read candidates start rest lots (Ok found) is same memory = is ∙ ap (λ (l : List ℕ). Ok (l, rest)) (sym same)
lots_read candidates start rest lots (Err why) is same memory =
    subst (λ (w : InputStop). Reads (at_lot candidates) [] (λ (found : List ℕ). found) start (Err w) rest) (sym memory) tt
