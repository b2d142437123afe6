-- The metadata at the front of lines.
use Rattle.std.proofs.Common.{◌≡◌, ℕ, ◌+◌, true, false, cond, List, [], ◌∷◌, ◌++◌, map, take, drop, length}
use Rattle.std.proofs.Common.{Option, Some, None, All, refl, ap, sym, ◌∙◌, subst}
use Rattle.std.specs.List.{enumerate_from, slice_get}
use Rattle.std.specs.Option.{option_map_or}
use Rattle.std.proofs.lemmas.List.{append_assoc, append-nil, length_push, take_at}
use Rattle.std.proofs.lemmas.List.Elements.{All-head, All-tail}
use Rattle.std.proofs.lemmas.List.Sums.{take_while-cons}
use Rattle.preflib_text.specs.declared.pref_fault.PrefFault.{PrefFault}
use Rattle.preflib_text.specs.Asked.{Asked}
use Rattle.preflib_text.specs.Ballots.{is_metadata}
use Rattle.preflib_text.specs.Faults.{Line, first_of}
use Rattle.preflib_text.specs.Heading.{front, behind}
use Rattle.preflib_text.specs.Refusals.{metadata_fault, metadata_faults}

abbrev pub AreMetadata : List Line → Type 0
AreMetadata lines = All (λ line. is_metadata line ≡ true) lines

-- the first of what is after others without a fault
pub first_behind : (before rest : List (Option PrefFault)) → first_of before ≡ None
    → first_of (before ++ rest) ≡ first_of rest
first_behind [] rest none = refl
first_behind (None ∷ before) rest none = first_behind before rest none
first_behind (Some fault ∷ before) rest none = absurd (cc none)

module _ (asked : Asked) where
  -- faults of lines after these
  abbrev faults_behind : (before rest : List Line) → List (Option PrefFault)
  faults_behind before [] = []
  faults_behind before (line ∷ lines) = metadata_fault asked before line ∷ faults_behind (before ++ line ∷ []) lines

  abbrev faults_from : List Line → ℕ → List Line → List (Option PrefFault)
  faults_from all i rest = map (λ (at : ℕ × Line). metadata_fault asked (take at.0 all) at.1) (enumerate_from i rest)

  same_behind : (rest before all : List Line) → all ≡ before ++ rest
      → faults_from all (length before) rest ≡ faults_behind before rest
  same_behind [] before all is = refl
  same_behind (l ∷ ls) before all is =
      let here : take (length before) all ≡ before =
      ap (take (length before)) is ∙ take_at before (l ∷ ls) (length before) refl in
      ap (λ xs. metadata_fault asked xs l ∷ faults_from all (length before + 1) ls) here
      ∙ ap (λ rest. metadata_fault asked before l ∷ rest)
      (ap (λ k. faults_from all k ls) (sym (length_push before l))
      ∙ same_behind ls (before ++ l ∷ []) all (is ∙ sym (append_assoc before (l ∷ []) ls)))

  same_faults : (lines : List Line) → metadata_faults asked lines ≡ faults_behind [] lines
  same_faults lines = same_behind lines [] lines refl

  parted_behind : (middle back before : List Line)
      → faults_behind before (middle ++ back) ≡ faults_behind before middle ++ faults_behind (before ++ middle) back
  parted_behind [] back before = ap (λ xs. faults_behind xs back) (sym (append-nil before))
  parted_behind (l ∷ ls) back before =
      ap (λ rest. metadata_fault asked before l ∷ rest)
      (parted_behind ls back (before ++ l ∷ [])
      ∙ ap (λ xs. faults_behind (before ++ l ∷ []) ls ++ faults_behind xs back) (append_assoc before (l ∷ []) ls))

  -- the faults of some lines and of one after them
  parted : (before back : List Line) (line : Line) → metadata_faults asked (before ++ line ∷ back)
      ≡ metadata_faults asked before ++ metadata_fault asked before line ∷ faults_behind (before ++ line ∷ []) back
  parted before back line =
      same_faults (before ++ line ∷ back) ∙ parted_behind before (line ∷ back) []
      ∙ ap (λ fs. fs ++ faults_behind before (line ∷ back)) (sym (same_faults before))

  -- one more line has no fault
  pub sound_push : (before : List Line) (line : Line) → first_of (metadata_faults asked before) ≡ None
      → metadata_fault asked before line ≡ None → first_of (metadata_faults asked (before ++ line ∷ [])) ≡ None
  sound_push before line none sound =
      ap first_of (parted before [] line)
      ∙ first_behind (metadata_faults asked before) (metadata_fault asked before line ∷ []) none
      ∙ ap (λ f. first_of (f ∷ [])) sound

  -- the first line at fault
  pub faulty_line : (before rest : List Line) (line : Line) (fault : PrefFault)
      → first_of (metadata_faults asked before) ≡ None → metadata_fault asked before line ≡ Some fault
      → first_of (metadata_faults asked (before ++ line ∷ rest)) ≡ Some fault
  faulty_line before rest line fault none is =
      let others = faults_behind (before ++ line ∷ []) rest in
      ap first_of (parted before rest line)
      ∙ first_behind (metadata_faults asked before) (metadata_fault asked before line ∷ others) none
      ∙ ap (λ f. first_of (f ∷ others)) is

-- ---- the front

front_cons : (l : Line) (ls : List Line) → front (l ∷ ls) ≡ cond (is_metadata l) (l ∷ front ls) []
front_cons l ls = take_while-cons is_metadata l ls

pub front_behind : (before rest : List Line) → AreMetadata before → front (before ++ rest) ≡ before ++ front rest
front_behind [] rest all = refl
front_behind (l ∷ ls) rest all =
    let first = All-head (λ line. is_metadata line ≡ true) l ls all in
    let others = front_behind ls rest (All-tail (λ line. is_metadata line ≡ true) l ls all) in
    front_cons l (ls ++ rest) ∙ ap (λ b. cond b (l ∷ front (ls ++ rest)) []) first ∙ ap (λ xs. l ∷ xs) others

no_front : (rest : List Line) → option_map_or is_metadata (slice_get rest 0) false ≡ false → front rest ≡ []
no_front [] none = refl
no_front (l ∷ ls) none = front_cons l ls ∙ ap (λ b. cond b (l ∷ front ls) []) none

-- all metadata are read where another line is next, or none
pub whole_front : (before rest : List Line) → AreMetadata before
    → option_map_or is_metadata (slice_get rest 0) false ≡ false → front (before ++ rest) ≡ before
whole_front before rest all none =
    front_behind before rest all ∙ ap (λ xs. before ++ xs) (no_front rest none) ∙ append-nil before

pub one_more : (before rest : List Line) (line : Line) → AreMetadata before → is_metadata line ≡ true
    → front (before ++ line ∷ rest) ≡ before ++ line ∷ front rest
one_more before rest line all is =
    front_behind before (line ∷ rest) all
    ∙ ap (λ xs. before ++ xs) (front_cons line rest ∙ ap (λ b. cond b (line ∷ front rest) []) is)

pub drop_front : (before rest : List Line) → drop (length before) (before ++ rest) ≡ rest
drop_front [] rest = refl
drop_front (l ∷ ls) rest = drop_front ls rest

-- the front and what is after it are all
pub front_and_behind : (lines : List Line) → front lines ++ behind lines ≡ lines
front_and_behind [] = refl
front_and_behind (l ∷ ls) =
    subst (λ (f : List Line). f ++ drop (length f) (l ∷ ls) ≡ l ∷ ls) (sym (front_cons l ls))
    (elim (is_metadata l) as (λ b. cond b (l ∷ front ls) [] ++ drop (length (cond b (l ∷ front ls) [])) (l ∷ ls) ≡ l ∷ ls) [
      | true ↦ ap (λ xs. l ∷ xs) (front_and_behind ls)
      | false ↦ refl
    ])
