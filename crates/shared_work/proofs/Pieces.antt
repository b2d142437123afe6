-- What comes of pieces of work, each at its place.
use Rattle.std.proofs.Common.{◌≡◌, ℕ, zero, suc, ◌<◌, ◌++◌, List, [], ◌∷◌, Option, None, Some, IfSome, length, map, All, Any}
use Rattle.std.proofs.Common.{take, drop, slice_index_or, refl, sym, ap, ◌∙◌, subst, arith}
use Rattle.std.specs.Prelude.{Result, Ok, Err, IfOk}
use Rattle.std.specs.List.{AllZip}
use Rattle.std.proofs.lemmas.List.{take_at}
use Rattle.std.proofs.lemmas.List.Elements.{All-nil, All-head, All-tail, All-cons}
use Rattle.shared_work.specs.declared.slot.Slot.{Slot}

module _ {W X : Type 0} where
  abbrev pub works : List (Slot W X) → List (Option W)
  works slots = map (λ (s : Slot W X). s.work) slots

  abbrev pub dones : List (Slot W X) → List (Option X)
  dones slots = map (λ (s : Slot W X). s.done) slots

  wait :
      (P : W → Type 0) (work : List W) (slots : List (Slot W X)) → works slots ≡ map Some work
      → All P work → All (λ (s : Slot W X). IfSome s.work P) slots
  wait P [] [] is all = All-nil (λ (s : Slot W X). IfSome s.work P)
  wait P [] (s ∷ ss) is all = absurd (cc is)
  wait P (w ∷ ws) [] is all = absurd (cc is)
  wait P (w ∷ ws) (s ∷ ss) is all =
      let here : s.work ≡ Some w = cc is in
      let there : works ss ≡ map Some ws = cc is in
      All-cons (λ (s : Slot W X). IfSome s.work P) s ss
      (subst (λ (o : Option W). IfSome o P) (sym here) (All-head P w ws all))
      (wait P ws ss there (All-tail P w ws all))

  -- what holds of each piece holds of those that wait in slots
  pub all_wait :
      (P : W → Type 0) (work : List W) (slots seen : List (Slot W X)) → works slots ≡ map Some work → seen ≡ slots
      → All P work → All (λ (s : Slot W X). IfSome s.work P) seen
  all_wait P work slots seen is same all =
      subst (All (λ (s : Slot W X). IfSome s.work P)) (sym same) (wait P work slots is all)

  module _ (R : W → Option X → Type 0) where
    -- what came of the piece that a slot had is so related to it
    abbrev pub IsServed : Slot W X → Slot W X → Type 0
    IsServed old new = IfSome old.work (λ piece. R piece new.done)

    abbrev pub AreServed : List (Slot W X) → List (Slot W X) → Type 0
    AreServed old new = (i : ℕ) (d : Slot W X) → i < length old → IsServed (slice_index_or old i d) (slice_index_or new i d)

    served :
        (w : W) (o n : Slot W X) (came : Option X) → o.work ≡ Some w → n.done ≡ came → IsServed o n → R w came
    served w o n came work done is =
        subst (R w) done (subst (λ (p : Option W). IfSome p (λ piece. R piece n.done)) work is)

    are_of :
        (work : List W) (old new : List (Slot W X)) (done : List X) → works old ≡ map Some work
        → length new ≡ length old → map Some done ≡ dones new → AreServed old new
        → AllZip (λ w x. R w (Some x)) work done
    are_of [] [] [] [] waited many left each = tt
    are_of [] [] [] (x ∷ xs) waited many left each = absurd (cc left)
    are_of [] [] (n ∷ ns) done waited many left each = absurd (omega (arith, many))
    are_of [] (o ∷ os) new done waited many left each = absurd (cc waited)
    are_of (w ∷ ws) [] new done waited many left each = absurd (cc waited)
    are_of (w ∷ ws) (o ∷ os) [] done waited many left each = absurd (omega (arith, many))
    are_of (w ∷ ws) (o ∷ os) (n ∷ ns) [] waited many left each = absurd (cc left)
    are_of (w ∷ ws) (o ∷ os) (n ∷ ns) (x ∷ xs) waited many left each =
        let work : o.work ≡ Some w = cc waited in
        let works' : works os ≡ map Some ws = cc waited in
        let done : n.done ≡ Some x = sym {A = Option X} (cc left) in
        let dones' : map Some xs ≡ dones ns = cc left in (
          served w o n (Some x) work done (each 0 o (omega arith)),
          are_of ws os ns xs works' (omega (arith, many)) dones' (λ i d lt. each (suc i) d (omega (arith, lt))),
        )

    none_of :
        (work : List W) (old new : List (Slot W X)) (k : ℕ) (s : Slot W X) → works old ≡ map Some work
        → length new ≡ length old → AreServed old new → k < length new → slice_index_or new k s ≡ s → s.done ≡ None
        → Any (λ w. R w None) work
    none_of work old [] k s waited many each inside at none = absurd (omega (arith, inside))
    none_of work [] (n ∷ ns) k s waited many each inside at none = absurd (omega (arith, many))
    none_of [] (o ∷ os) (n ∷ ns) k s waited many each inside at none = absurd (cc waited)
    none_of (w ∷ ws) (o ∷ os) (n ∷ ns) zero s waited many each inside at none =
        let work : o.work ≡ Some w = cc waited in
        let done : n.done ≡ None = ap (λ (x : Slot W X). x.done) at ∙ none in
        (0, w, omega arith, refl, served w o n None work done (each 0 o (omega arith)))
    none_of (w ∷ ws) (o ∷ os) (n ∷ ns) (suc k) s waited many each inside at none =
        let works' : works os ≡ map Some ws = cc waited in
        let (j, v, below, here, nothing) =
        none_of ws os ns k s works' (omega (arith, many)) (λ i d lt. each (suc i) d (omega (arith, lt)))
        (omega (arith, inside)) at none in
        (suc j, v, omega (arith, below), here, nothing)

    -- what workers left in a list that had room for it
    left_whole :
        (slots old new : List (Slot W X)) (len : ℕ) → old ≡ slots → length new ≡ length old → length slots ≡ len
        → take len (new ++ drop (length new) slots) ≡ new
    left_whole slots old new len same many size =
        take_at new (drop (length new) slots) len (many ∙ (ap length same ∙ size))

    pub all_of :
        (work : List W) (slots old new : List (Slot W X)) (len : ℕ) (done : List X) → works slots ≡ map Some work
        → old ≡ slots → length new ≡ length old → length slots ≡ len
        → map Some done ≡ dones (take len (new ++ drop (length new) slots)) → AreServed old new
        → AllZip (λ w x. R w (Some x)) work done
    all_of work slots old new len done waited same many size left each =
        are_of work old new done (ap works same ∙ waited) many
        (left ∙ ap dones (left_whole slots old new len same many size)) each

    pub nothing_of :
        (work : List W) (slots old new : List (Slot W X)) (len : ℕ) → works slots ≡ map Some work
        → old ≡ slots → length new ≡ length old → length slots ≡ len
        → Any (λ (s : Slot W X). s.done ≡ None) (take len (new ++ drop (length new) slots)) → AreServed old new
        → Any (λ w. R w None) work
    nothing_of work slots old new len waited same many size none each =
        let (k, s, inside, at, done) =
        subst (Any (λ (s : Slot W X). s.done ≡ None)) (left_whole slots old new len same many size) none in
        none_of work old new k s (ap works same ∙ waited) many each inside at done

-- what follows of a value follows of a result that may have one
pub of_ok : {T E : Type 0} (P Q : T → Type 0) (given : Result T E) → IfOk given P → ((t : T) → P t → Q t) → IfOk given Q
of_ok P Q (Ok t) holds then = then t holds
of_ok P Q (Err e) holds then = tt
