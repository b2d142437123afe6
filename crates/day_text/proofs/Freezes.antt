-- The lines of freezes, one call after another.
use Rattle.std.proofs.Common.{◌≡◌, ℕ, suc, ◌+◌, ◌<◌, Bool, true, false, cond, List, [], ◌∷◌, ◌++◌, length, take, get_or}
use Rattle.std.proofs.Common.{filter, map, refl, sym, ap, ◌∙◌, arith, append_assoc}
use Rattle.std.specs.Prelude.{slice_get, Some}
use Rattle.std.specs.List.{enumerate_from}
use Rattle.std.proofs.lemmas.Grind.{take_at_read}
use Rattle.std.proofs.lemmas.List.{append-nil, length-take-le}
use Rattle.std.proofs.lemmas.Option.{slice_get-get_or}
use Rattle.batch_core.specs.declared.entry.Entry.{Entry}
use Rattle.day_reader.specs.Call.{is_freeze}

-- the numbers of the lines of freezes, where the first call has this number
abbrev pub freezes_from : ℕ → List Entry → List ℕ
freezes_from n history =
    map (λ (e : ℕ × Entry). e.0) (filter (λ (e : ℕ × Entry). is_freeze e.1.call) (enumerate_from n history))

-- this number, where the call is a freeze
abbrev pub place_of : ℕ → Bool → List ℕ
place_of n is = cond is (n ∷ []) []

pub freezes_cons :
    (n : ℕ) (e : Entry) (history : List Entry)
    → freezes_from n (e ∷ history) ≡ place_of n (is_freeze e.call) ++ freezes_from (n + 1) history
freezes_cons n e history = by (is_freeze e.call)
  where
    by :
        (t : Bool)
        → map (λ (e : ℕ × Entry). e.0)
        (cond t ((n, e) ∷ filter (λ (e : ℕ × Entry). is_freeze e.1.call) (enumerate_from (n + 1) history))
        (filter (λ (e : ℕ × Entry). is_freeze e.1.call) (enumerate_from (n + 1) history)))
        ≡ place_of n t ++ freezes_from (n + 1) history
    by true = refl
    by false = refl

freezes_push :
    (n : ℕ) (history : List Entry) (e : Entry)
    → freezes_from n (history ++ e ∷ []) ≡ freezes_from n history ++ place_of (n + length history) (is_freeze e.call)
freezes_push n [] e =
    freezes_cons n e []
    ∙ (append-nil (place_of n (is_freeze e.call))
    ∙ ap (λ (k : ℕ). place_of k (is_freeze e.call)) {x = n} {y = n + 0} (omega arith))
freezes_push n (x ∷ history) e =
    freezes_cons n x (history ++ e ∷ [])
    ∙ (ap (λ (l : List ℕ). place_of n (is_freeze x.call) ++ l)
    (freezes_push (n + 1) history e
    ∙ ap (λ (k : ℕ). freezes_from (n + 1) history ++ place_of k (is_freeze e.call)) {x = n + 1 + length history}
    {y = n + suc (length history)} (omega arith))
    ∙ (sym (append_assoc (place_of n (is_freeze x.call)) (freezes_from (n + 1) history)
    (place_of (n + suc (length history)) (is_freeze e.call)))
    ∙ ap (λ (l : List ℕ). l ++ place_of (n + suc (length history)) (is_freeze e.call)) (sym (freezes_cons n x history))))

-- the freezes among the first calls, with one call more
pub freezes_next :
    (history : List Entry) (at : ℕ) (e : Entry) → at < length history → slice_get history at ≡ Some e
    → freezes_from 1 (take (at + 1) history) ≡ freezes_from 1 (take at history) ++ place_of (at + 1) (is_freeze e.call)
freezes_next history at e below got =
    let same : get_or history at e ≡ e = some_same (sym (slice_get-get_or history at e below) ∙ got) in
    let long : length (take at history) ≡ at = length-take-le at history (omega (arith, below)) in
    ap (λ (h : List Entry). freezes_from 1 h) ((take_at_read history at e below).1
    ∙ ap (λ (x : Entry). take at history ++ x ∷ []) same)
    ∙ (freezes_push 1 (take at history) e
    ∙ ap (λ (k : ℕ). freezes_from 1 (take at history) ++ place_of k (is_freeze e.call)) {x = 1 + length (take at history)}
    {y = at + 1} (omega (arith, long)))
  where
    some_same : {x y : Entry} → Some x ≡ Some y → x ≡ y
    some_same is = cc

-- with a freeze, and with another call
pub one_freeze :
    (history : List Entry) (at : ℕ) (e : Entry) (places new : List ℕ) (is : Bool) → at < length history
    → slice_get history at ≡ Some e → places ≡ freezes_from 1 (take at history) → is ≡ is_freeze e.call
    → new ≡ places ++ place_of (at + 1) is → new ≡ freezes_from 1 (take (at + 1) history)
one_freeze history at e places new is below got so_far tells pushed =
    pushed
    ∙ ((λ i. so_far i ++ place_of (at + 1) (tells i)) ∙ sym (freezes_next history at e below got))
