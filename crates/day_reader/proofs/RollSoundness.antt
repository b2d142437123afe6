-- What the table of day files accepts of the roll, the title and the lots is a front part of a day file.
use Rattle.std.proofs.Common.{◌≡◌, ℕ, ◌≤◌, false, List, [], ◌∷◌, ◌++◌, length, map, refl, sym, ◌∙◌, ap, subst}
use Rattle.std.proofs.Common.{arith, inl, inr, append_assoc, nat_le, ◌==◌, Ok, Err}
use Rattle.std.specs.List.{list_any}
use Rattle.std.proofs.lemmas.Bool.{leb-true, eqb-true}
use Rattle.std.proofs.lemmas.List.{map-append}
use Rattle.std.proofs.lemmas.List.Elements.{All-head}
use Rattle.std.proofs.lemmas.List.Sums.{sum_by-cons}
use Rattle.plain_ballots.specs.declared.ballot_line.BallotLine.{BallotLine}
use Rattle.candidate_roll.specs.Roll.{RollList}
use Rattle.input_text.specs.Range.{IsIn}
use Rattle.input_text.specs.Token.{Item, Number}
use Rattle.blt_reader.specs.Poll.{Poll}
use Rattle.blt_reader.specs.Blt.{AreLines, IsBlt}
use Rattle.input_text.specs.Judged.{Judged, Progress, GoesOn, Ends, carried}
use Rattle.blt_reader.specs.BltTable as blt
use Rattle.blt_reader.specs.Front as blt_front
use Rattle.blt_reader.specs.Said.{of_a_roll}
use Rattle.input_text.proofs.Judgements.{refused, same_value, passed, went, not_zero}
use Rattle.day_reader.specs.declared.keyword.Keyword.{Keyword}
use Rattle.day_reader.specs.declared.keyword.Keyword.TheVariants as key
use Rattle.day_reader.specs.declared.day.Day.{Day}
use Rattle.day_reader.specs.Keyword.{word}
use Rattle.day_reader.specs.Day.{AreDifferent}
use Rattle.day_reader.specs.DayTable.{at_lot_number, at_lot, Expected, InRoll, BehindTitle, Lot}
use Rattle.day_reader.specs.DayTable.{BehindLots}
use Rattle.day_reader.specs.DayTable.{behind_title}
use Rattle.day_reader.specs.Front.{IsBehind, IsFront, IsFileFront}
use Rattle.day_reader.specs.Shared.{Shared}
use Rattle.day_reader.proofs.SharedParts.{roll_goes_on}
use Rattle.day_reader.proofs.DifferentNumbers.{no_numbers, one_number_more}

-- ---- one item more

-- The items with this one after them are a front part for this progress.
abbrev pub Goes : List Item → Item → Progress Expected Day → Type 0
Goes items x next = IsFileFront next (items ++ x ∷ [])

-- what an item was found to lead to is what the table says
pub arrives :
    {found next : Progress Expected Day} (items : List Item) (x : Item)
    → ◌≡◌ {A = Judged (Progress Expected Day)} (Ok found) (Ok next) → Goes items x found → Goes items x next
arrives items x same goes = subst (Goes items x) (same_value same) goes

-- an item more after the roll
pub behind_more :
    (roll : RollList) {part more : List Item} (items : List Item) (x : Item) → IsBehind roll part items
    → more ≡ part ++ x ∷ [] → IsBehind roll more (items ++ x ∷ [])
behind_more roll {part} items x is spelled = record {
  roll_items = is.roll_items;
  spelled =
      ap (λ (l : List Item). l ++ x ∷ []) is.spelled ∙ append_assoc is.roll_items part (x ∷ [])
      ∙ ap (λ (l : List Item). is.roll_items ++ l) (sym spelled);
  is_roll = is.is_roll;
}

-- ---- the roll

-- where no ballots may stand there are no lines
none_allowed : (candidates : ℕ) (lines : List BallotLine) → AreLines candidates 0 lines → lines ≡ []
none_allowed candidates [] are = refl
none_allowed candidates (line ∷ lines) are =
    let some = All-head (λ (l : BallotLine). 1 ≤ l.count) line lines are.counted in
    absurd (omega (arith, some, are.bounded, sum_by-cons (λ (l : BallotLine). l.count) line lines))

without_lines :
    (items : List Item) (poll : Poll) → IsBlt 0 items poll → IsBlt 0 items (record { roll = poll.roll; lines = [] })
without_lines items poll is =
    subst (λ (lines : List BallotLine). IsBlt 0 items (record { roll = poll.roll; lines = lines }))
    (none_allowed (length poll.roll.names) poll.lines is.up_to_title.lines) is

-- what the table of ballot files makes of an item of the roll
pub roll_goes :
    Shared → (expected : blt.Expected) (next : Progress Expected Day) (x : Item) (items : List Item)
    (judged : Judged (Progress blt.Expected Poll)) → blt_front.IsFront 0 expected items
    → blt.at_token of_a_roll expected x ≡ judged
    → carried (λ more. InRoll more) (λ poll. BehindTitle poll.roll) judged ≡ Ok next → Goes items x next
roll_goes shared expected next x items (Ok (GoesOn more)) front judged e =
    arrives items x e (roll_goes_on shared (GoesOn expected) (GoesOn more) x items front judged)
roll_goes shared expected next x items (Ok (Ends poll)) front judged e =
    arrives items x e
    (without_lines (items ++ x ∷ []) poll (roll_goes_on shared (GoesOn expected) (Ends poll) x items front judged))
roll_goes shared expected next x items (Err kind) front judged e = absurd (refused e)

-- the word `lots` after the title
pub title_goes :
    (roll : RollList) (next : Progress Expected Day) (items : List Item) (keyword : Keyword)
    → IsBlt 0 items (record { roll = roll; lines = [] }) → behind_title roll keyword ≡ Ok next
    → Goes items (word keyword) next
title_goes roll next items key.Lots is e =
    arrives items (word key.Lots) e
    (no_numbers (length roll.names), record { roll_items = items; spelled = refl; is_roll = is })
title_goes roll next items keyword is e = absurd (refused e)

-- ---- the lots

-- After these lots of different candidates.
module _ (roll : RollList) (lots : List ℕ) (items : List Item) (are : AreDifferent (length roll.names) lots)
    (is : IsBehind roll (word key.Lots ∷ map Number lots) items) where
  abbrev LotFront : Progress (List ℕ) (List ℕ) → List Item → Type 0
  LotFront (GoesOn more) items = IsFront (Lot roll more) items
  LotFront (Ends all) items = IsFront (BehindLots roll all) items

  -- 0 ends the lots, where each candidate has had one
  lots_are_all : (n : ℕ) → n ≡ 0 → length lots ≡ length roll.names → LotFront (Ends lots) (items ++ Number n ∷ [])
  lots_are_all n none all = (
    record { numbers = are; all = all },
    behind_more roll items (Number n) is
        (ap (λ (k : ℕ). word key.Lots ∷ map Number lots ++ Number k ∷ []) (sym none)),
  )

  -- a candidate that has had no lot has the next one
  one_lot_more :
      (n : ℕ) → IsIn (length roll.names) n → list_any (λ c. c == n) lots ≡ false
      → LotFront (GoesOn (lots ++ n ∷ [])) (items ++ Number n ∷ [])
  one_lot_more n within new = (
    one_number_more (length roll.names) lots n are within new,
    behind_more roll items (Number n) is
        (ap (λ (l : List Item). word key.Lots ∷ l) (map-append Number lots (n ∷ []))),
  )

  lot_number_goes :
      (next : Progress (List ℕ) (List ℕ)) (n : ℕ) → at_lot_number (length roll.names) lots n ≡ Ok next
      → LotFront next (items ++ Number n ∷ [])
  lot_number_goes next n e = elim (went (n == 0) _ _ (Ok next) e) [
    | inl none ↦ (
        let all = passed (length lots == length roll.names) (Ends lots) next _ none.1 in
        subst (λ p. LotFront p (items ++ Number n ∷ [])) all.1
        (lots_are_all n (eqb-true n 0 none.0) (eqb-true (length lots) (length roll.names) all.0))
        )
    | inr some ↦ elim (went (nat_le n (length roll.names)) _ _ (Ok next) some.1) [
      | inr above ↦ absurd (refused above.1)
      | inl within ↦ elim (went (list_any (λ c. c == n) lots) _ _ (Ok next) within.1) [
        | inl again ↦ absurd (refused again.1)
        | inr new ↦ subst (λ p. LotFront p (items ++ Number n ∷ [])) (same_value new.1) (one_lot_more n
            (record { least = not_zero n some.0; most = leb-true n (length roll.names) within.0 }) new.0)
      ]
    ]
  ]

  lot_goes :
      (next : Progress (List ℕ) (List ℕ)) (x : Item) → at_lot (length roll.names) lots x ≡ Ok next
      → LotFront next (items ++ x ∷ [])
  lot_goes next (Number n) e = lot_number_goes next n e
  lot_goes next x e = absurd (refused e)

  -- what the table of lots makes of an item
  pub lots_go :
      (next : Progress Expected Day) (x : Item) (judged : Judged (Progress (List ℕ) (List ℕ)))
      → at_lot (length roll.names) lots x ≡ judged
      → carried (λ more. Lot roll more) (λ all. BehindLots roll all) judged ≡ Ok next → Goes items x next
  lots_go next x (Ok (GoesOn more)) judged e = arrives items x e (lot_goes (GoesOn more) x judged)
  lots_go next x (Ok (Ends all)) judged e = arrives items x e (lot_goes (Ends all) x judged)
  lots_go next x (Err kind) judged e = absurd (refused e)
