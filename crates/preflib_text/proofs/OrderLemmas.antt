-- Where orders have no fault.
use Rattle.std.proofs.Common.{◌≡◌, ℕ, ◌+◌, cond, List, [], ◌∷◌, ◌++◌, map, replicate}
use Rattle.std.proofs.Common.{Option, Some, None, All, refl, ap, ◌∙◌}
use Rattle.std.specs.List.{enumerate_from}
use Rattle.std.specs.Option.{option_map}
use Rattle.std.proofs.lemmas.List.Elements.{All-nil, All-cons, All-head, All-tail}
use Rattle.ballot_marks.specs.Ballot.{Judged, judged, effective, end_way, ranks_of, ranked, unless_refused}
use Rattle.ballot_marks.specs.declared.choice.Treat.{Treat}
use Rattle.ballot_marks.specs.declared.way.Way.{Way}
use Rattle.ballot_marks.specs.declared.way.Way.TheVariants.{Ranked, Passed, Cut, Refused}
use Rattle.preflib_text.specs.declared.pref_fault.PrefFault.{PrefFault}
use Rattle.preflib_text.specs.Ballots.{treating, plain_of, ballots}
use Rattle.preflib_text.specs.Faults.{Line}
use Rattle.preflib_text.specs.Items.{Order, order_of, count_of, items, marks_of}
use Rattle.preflib_text.specs.Refusals.{is_refused, mark_fault, parts_fault, whole_fault}
use Rattle.preflib_text.proofs.Options.{IsNothing, or_none, none_or, mapped, joined, parted}

-- marks that are not refused have a ranking
kept : (way : Option Way) (ranks : List ℕ) (fault : PrefFault) → cond (is_refused way) (Some fault) None ≡ None
    → unless_refused way ranks ≡ Some ranks
kept None ranks fault is = refl
kept (Some Ranked) ranks fault is = refl
kept (Some Passed) ranks fault is = refl
kept (Some Cut) ranks fault is = refl
kept (Some (Refused why)) ranks fault is = absurd (cc is)

-- marks that have one are not refused
not_refused : (way : Option Way) (ranks some : List ℕ) (fault : PrefFault) → unless_refused way ranks ≡ Some some
    → cond (is_refused way) (Some fault) None ≡ None
not_refused None ranks some fault is = refl
not_refused (Some Ranked) ranks some fault is = refl
not_refused (Some Passed) ranks some fault is = refl
not_refused (Some Cut) ranks some fault is = refl
not_refused (Some (Refused why)) ranks some fault is = absurd (cc is)

-- lines stay what they are beside what is said of each
pub lines_beside : {X : Type 0} (h : ℕ × Line → ℕ) (f : Line → X) (n : ℕ) (ls : List Line)
    → map (λ (r : ℕ × Line). f r.1) (map (λ (at : ℕ × Line). (h at, at.1)) (enumerate_from n ls)) ≡ map f ls
lines_beside h f n [] = refl
lines_beside h f n (l ∷ ls) = ap (λ rest. f l ∷ rest) (lines_beside h f (n + 1) ls)

module _ (equal : Treat) where
  -- an order has a ranking
  abbrev Fits : Order → Type 0
  Fits order = (some : List (List ℕ)) × (plain_of equal order ≡ Some some)

  abbrev judged_in : Line → List Judged
  judged_in line = judged (treating equal) (marks_of (items line))

  fits : (line : Line) → mark_fault equal line ≡ None → Fits (order_of line)
  fits line is =
      let js = judged_in line in (
        replicate (count_of line) (ranks_of (effective js)),
        ap (option_map (replicate (count_of line))) (kept (end_way js) (ranks_of (effective js)) _ is),
      )

  not_faulty : (line : Line) → Fits (order_of line) → mark_fault equal line ≡ None
  not_faulty line some =
      let js = judged_in line in
      let from = mapped (replicate (count_of line)) (ranked (treating equal) (marks_of (items line))) some.0 some.1 in
      not_refused (end_way js) (ranks_of (effective js)) from.0 _ from.1

  module _ (n : ℕ) where
    -- a line with the room that it has
    abbrev form : ℕ × Line → Option PrefFault
    form r = parts_fault r.0 n r.1

    abbrev order : ℕ × Line → Order
    order r = order_of r.1

    -- orders without a fault have a sound form and ballots
    pub sound_orders : (rs : List (ℕ × Line)) → All IsNothing (map (whole_fault equal n) rs)
        → All IsNothing (map form rs) × ((all : List (List ℕ)) × (ballots equal (map order rs) ≡ Some all))
    sound_orders [] all = (All-nil IsNothing, ([], refl))
    sound_orders (r ∷ rs) all =
        let faults = map (whole_fault equal n) rs in
        let both = or_none (form r) (mark_fault equal r.1) (All-head IsNothing (whole_fault equal n r) faults all) in
        let one = fits r.1 both.1 in
        let rest = sound_orders rs (All-tail IsNothing (whole_fault equal n r) faults all) in (
          All-cons IsNothing (form r) (map form rs) both.0 rest.0,
          (
            one.0 ++ rest.1.0,
            ap (λ o. joined o (ballots equal (map order rs))) one.1 ∙ ap (joined (Some one.0)) rest.1.1,
          ),
        )

    -- orders of a sound form that have ballots have no fault
    pub whole_orders : (rs : List (ℕ × Line)) (all : List (List ℕ)) → All IsNothing (map form rs)
        → ballots equal (map order rs) ≡ Some all → All IsNothing (map (whole_fault equal n) rs)
    whole_orders [] all sound is = All-nil IsNothing
    whole_orders (r ∷ rs) all sound is =
        let parts = parted (plain_of equal (order r)) (ballots equal (map order rs)) all is in
        All-cons IsNothing (whole_fault equal n r) (map (whole_fault equal n) rs)
        (none_or (form r) (mark_fault equal r.1) (All-head IsNothing (form r) (map form rs) sound)
        (not_faulty r.1 (parts.front, parts.first_is)))
        (whole_orders rs parts.back (All-tail IsNothing (form r) (map form rs) sound) parts.rest_is)
