-- A day file begins with a number, and so not with the line of a sheet.
use Rattle.std.proofs.Common.{◌≡◌, ℕ, true, List, [], ◌∷◌, ◌++◌, drop, codes, refl, sym, ap, subst, ◌∙◌}
use Rattle.std.proofs.Common.{take-append-drop}
use Rattle.input_text.specs.Token.{Item, Number, Word}
use Rattle.input_text.specs.Refusal.{items_of}
use Rattle.input_text.specs.Scan.{scan, cut, piece, word_piece}
use Rattle.day_reader.specs.declared.day.Day.{Day}
use Rattle.day_reader.specs.Day.{IsDay}
use Rattle.day_lines.specs.Owed.{SaysDay}
use Rattle.day_audit.specs.Input.{GoesOn}

-- the first item is a number
abbrev IsNumberFirst : List Item → Type 0
IsNumberFirst [] = ⊥
IsNumberFirst (Number n ∷ items) = Unit {0}
IsNumberFirst (item ∷ items) = ⊥

-- with more items after them
number_kept : (xs ys zs : List Item) → zs ≡ xs ++ ys → IsNumberFirst xs → IsNumberFirst zs
number_kept [] ys zs is first = absurd first
number_kept (Number n ∷ xs) ys zs is first = subst IsNumberFirst (sym is) tt
number_kept (item ∷ xs) ys zs is first = absurd first

number_first : (items : List Item) (day : Day) → IsDay items day → IsNumberFirst items
number_first items day is =
    number_kept is.roll_items _ items is.spelled
    (number_kept is.roll.front _ is.roll_items is.roll.spelled (subst IsNumberFirst (sym is.roll.up_to_title.spelled) tt))

-- the first item of a text that begins so is a word
word_first :
    (rest : List ℕ)
    → items_of (scan (codes "sheet " ++ rest) true).tokens
    ≡ Word (codes "sheet") ∷ items_of (cut true 6 0 rest).tokens
unfolding cut piece word_piece
word_first rest = refl

pub no_sheet : (file : List ℕ) (day : Day) → SaysDay file day → ¬ GoesOn file
no_sheet file day says on =
    let rest : List ℕ = drop 6 file in
    let whole : file ≡ codes "sheet " ++ rest =
    sym (take-append-drop 6 file) ∙ ap (λ (t : List ℕ). t ++ rest) on in
    subst IsNumberFirst (ap (λ (t : List ℕ). items_of (scan t true).tokens) whole ∙ word_first rest)
    (number_first (items_of (scan file true).tokens) day says.file)
