-- What is expected after the parts of an order, and the candidates in them, as they are read.
use Rattle.std.proofs.Common.{◌≡◌, ℕ, ◌+◌, Bool, true, false, List, [], ◌∷◌, ◌++◌, map, fold, take, length}
use Rattle.std.proofs.Common.{Option, Some, None, Result, Ok, Err, refl, ap, sym, ◌∙◌, subst}
use Rattle.std.specs.List.{filter_map, cons_option, last_or, enumerate_from}
use Rattle.std.specs.Option.{option_map}
use Rattle.std.proofs.lemmas.List.{append-nil, append_assoc, map_push, length_push, take_at}
use Rattle.preflib_text.specs.declared.expected.Expected.{Expected}
use Rattle.preflib_text.specs.declared.expected.Expected.TheVariants.{Count, BehindCount, Item, BehindItem}
use Rattle.preflib_text.specs.declared.expected.Expected.TheVariants.{Number as AtNumber, BehindNumber}
use Rattle.preflib_text.specs.declared.order_stop.Misplaced.{Misplaced}
use Rattle.preflib_text.specs.declared.pref_fault.PrefFault.{PrefFault}
use Rattle.preflib_text.specs.Faults.{Line, in_line, first_of}
use Rattle.preflib_text.specs.Orders.{braced, in_braces, behind, expected, number_in, listed, part_fault, fault_behind}
use Rattle.preflib_text.specs.Orders.{parts_of, order_fault}
use Rattle.preflib_text.specs.Parts.{Part, Number, Colon, Comma, Open, Close, End, Placed, parts}
use Rattle.preflib_text.specs.Standing.{Stand, starting, next, next_by, standing_fault, unless_misplaced, read}
use Rattle.preflib_text.proofs.PartLemmas.{last_push}

-- the candidate that a part is, if it is one
abbrev one_number : Part → List ℕ
one_number part = cons_option (number_in part) []

pub braces_push : (inside : Bool) (xs : List Part) (p : Part) → fold braced inside (xs ++ p ∷ []) ≡ braced (fold braced inside xs) p
braces_push inside [] p = refl
braces_push inside (x ∷ xs) p = braces_push (braced inside x) xs p

one_more : (o : Option ℕ) (p : Part) (some other : List ℕ) → some ≡ other ++ one_number p
    → cons_option o some ≡ cons_option o other ++ one_number p
one_more None p some other is = is
one_more (Some n) p some other is = ap (λ rest. n ∷ rest) is

numbers_push : (xs : List Part) (p : Part)
    → filter_map number_in (xs ++ p ∷ []) ≡ filter_map number_in xs ++ one_number p
numbers_push [] (Number n) = refl
numbers_push [] p = refl
numbers_push (x ∷ xs) p = one_more (number_in x) p _ _ (numbers_push xs p)

-- no part changes how many candidates there are
same_candidates : (e : Expected) (s : Stand) (at : ℕ) (p : Part) → (next_by e s at p).candidates ≡ s.candidates
same_candidates Count s at (Number n) = refl
same_candidates BehindCount s at Colon = refl
same_candidates Item s at (Number n) = refl
same_candidates Item s at Open = refl
same_candidates BehindItem s at Comma = refl
same_candidates AtNumber s at (Number n) = refl
same_candidates BehindNumber s at Comma = refl
same_candidates BehindNumber s at Close = refl
same_candidates e s at p = refl

module _ (room n : ℕ) (s : Stand) (at : ℕ) where
  abbrev IsSound : Expected → Part → Type 0
  IsSound e p = part_fault room n s.listed e p ≡ None

  -- what is expected after a part that may stand after an item's parts
  behind_more : (b : Bool) (l : Option Part) (p : Part) → behind b l ≡ s.expected → IsSound (behind b l) p
      → behind (braced b p) (Some p) ≡ (next_by (behind b l) s at p).expected
  behind_more true (Some (Number m)) Comma is sound = refl
  behind_more true (Some (Number m)) Close is sound = refl
  behind_more true (Some (Number m)) p is sound = absurd (cc sound)
  behind_more true l (Number m) is sound = refl
  behind_more true l p is sound = absurd (cc sound)
  behind_more false None (Number m) is sound = refl
  behind_more false None Open is sound = refl
  behind_more false None p is sound = absurd (cc sound)
  behind_more false (Some Comma) (Number m) is sound = refl
  behind_more false (Some Comma) Open is sound = refl
  behind_more false (Some Comma) p is sound = absurd (cc sound)
  behind_more false (Some l) Comma is sound = refl
  behind_more false (Some l) End is sound = is
  behind_more false (Some l) p is sound = absurd (cc sound)

  -- the candidates after it
  listed_behind : (b : Bool) (l : Option Part) (p : Part) → IsSound (behind b l) p
      → (next_by (behind b l) s at p).listed ≡ s.listed ++ one_number p
  listed_behind true (Some (Number m)) Comma sound = sym (append-nil s.listed)
  listed_behind true (Some (Number m)) Close sound = sym (append-nil s.listed)
  listed_behind true (Some (Number m)) p sound = absurd (cc sound)
  listed_behind true l (Number m) sound = refl
  listed_behind true l p sound = absurd (cc sound)
  listed_behind false None (Number m) sound = refl
  listed_behind false None Open sound = sym (append-nil s.listed)
  listed_behind false None p sound = absurd (cc sound)
  listed_behind false (Some Comma) (Number m) sound = refl
  listed_behind false (Some Comma) Open sound = sym (append-nil s.listed)
  listed_behind false (Some Comma) p sound = absurd (cc sound)
  listed_behind false (Some l) Comma sound = sym (append-nil s.listed)
  listed_behind false (Some l) End sound = sym (append-nil s.listed)
  listed_behind false (Some l) p sound = absurd (cc sound)

  -- with one more part it is as it is read
  abbrev IsNext : Expected → List Part → Part → Type 0
  IsNext e before p =
      (expected (before ++ p ∷ []) ≡ (next_by e s at p).expected)
      × (listed (before ++ p ∷ []) ≡ (next_by e s at p).listed)

  next_by_parts : (before : List Part) (p : Part) → expected before ≡ s.expected → listed before ≡ s.listed
      → IsSound (expected before) p → IsNext (expected before) before p
  next_by_parts [] (Number m) e l sound = (refl, l)
  next_by_parts [] p e l sound = absurd (cc sound)
  next_by_parts (c ∷ []) Colon e l sound = (refl, l)
  next_by_parts (c ∷ []) p e l sound = absurd (cc sound)
  next_by_parts (c ∷ d ∷ items) p e l sound = (
    ap (λ b. behind b (last_or None (items ++ p ∷ []))) (braces_push false items p)
        ∙ ap (behind (braced (in_braces items) p)) (last_push None items p)
        ∙ behind_more (in_braces items) (last_or None items) p e sound,
    numbers_push items p ∙ ap (λ xs. xs ++ one_number p) l
        ∙ sym (listed_behind (in_braces items) (last_or None items) p sound),
  )

  next_parts : (before : List Part) (p : Part) → expected before ≡ s.expected → listed before ≡ s.listed
      → IsSound s.expected p → IsNext s.expected before p
  next_parts before p e l sound =
      subst (λ x. IsNext x before p) e (next_by_parts before p e l (subst (λ x. IsSound x p) (sym e) sound))

module _ (line : Line) (room n : ℕ) where
  -- what is read of an order, and its first fault
  abbrev Agrees : Option PrefFault → Result Stand Misplaced → Type 0
  Agrees fault (Ok s) = fault ≡ None
  Agrees fault (Err m) = fault ≡ Some (in_line line m.kind m.at)

  abbrev fault_of : List Placed → ℕ × Placed → Option PrefFault
  fault_of placed p =
      option_map (λ kind. in_line line kind p.1.at) (fault_behind room n (parts_of (take p.0 placed)) p.1.part)

  abbrev faults_from : List Placed → ℕ → List Placed → List (Option PrefFault)
  faults_from placed i rest = map (fault_of placed) (enumerate_from i rest)

  agree : (rest before placed : List Placed) (s : Stand) → placed ≡ before ++ rest
      → expected (parts_of before) ≡ s.expected → listed (parts_of before) ≡ s.listed → s.candidates ≡ n
      → Agrees (first_of (faults_from placed (length before) rest)) (read room s rest)
  agree [] before placed s is e l c = refl
  agree (p ∷ ps) before placed s is e l c =
      let front : take (length before) placed ≡ before =
      ap (take (length before)) is ∙ take_at before (p ∷ ps) (length before) refl in
      let fault : fault_behind room n (parts_of (take (length before) placed)) p.part ≡ standing_fault room s p.part =
      ap (λ xs. fault_behind room n (parts_of xs) p.part) front
      ∙ ap (λ xs. part_fault room n xs (expected (parts_of before)) p.part) l
      ∙ ap (λ x. part_fault room n s.listed x p.part) e
      ∙ ap (λ k. part_fault room k s.listed s.expected p.part) (sym c) in
      let further = next s p.at p.part in
      let others = faults_from placed (length before + 1) ps in
      let put = map_push (λ (q : Placed). q.part) before p in
      subst (λ f. Agrees (first_of (option_map (λ kind. in_line line kind p.at) f ∷ others))
      (unless_misplaced (standing_fault room s p.part) p.at (read room further ps))) (sym fault)
      (elim (standing_fault room s p.part)
      as (λ o. standing_fault room s p.part ≡ o
      → Agrees (first_of (option_map (λ kind. in_line line kind p.at) o ∷ others))
      (unless_misplaced o p.at (read room further ps))) [
        | None ↦ λ sound.
            let real : part_fault room n s.listed s.expected p.part ≡ None =
            ap (λ k. part_fault room k s.listed s.expected p.part) (sym c) ∙ sound in
            let more = next_parts room n s p.at (parts_of before) p.part e l real in
            subst (λ k. Agrees (first_of (faults_from placed k ps)) (read room further ps)) (length_push before p)
            (agree ps (before ++ p ∷ []) placed further (is ∙ sym (append_assoc before (p ∷ []) ps))
            (ap expected put ∙ more.0) (ap listed put ∙ more.1) (same_candidates s.expected s p.at p.part ∙ c))
        | Some kind ↦ λ found. refl
      ] refl)

  -- An order has the first fault that is read, or none where it is read to its end.
  order_agrees : Agrees (order_fault room n line) (read room (starting n) (parts line.bytes))
  order_agrees = agree (parts line.bytes) [] (parts line.bytes) (starting n) refl refl refl refl

  pub read_sound : (s : Stand) → read room (starting n) (parts line.bytes) ≡ Ok s → order_fault room n line ≡ None
  read_sound s is = subst (Agrees (order_fault room n line)) is order_agrees

  pub read_misplaced : (m : Misplaced) → read room (starting n) (parts line.bytes) ≡ Err m
      → order_fault room n line ≡ Some (in_line line m.kind m.at)
  read_misplaced m is = subst (Agrees (order_fault room n line)) is order_agrees
