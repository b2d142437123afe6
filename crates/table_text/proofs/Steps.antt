-- One byte after another.
use Rattle.std.proofs.Common.{◌≡◌, ℕ, ◌+◌, List, [], ◌∷◌, true, false, ◌==◌, refl}
use Rattle.std.proofs.lemmas.Bool.{false≢true}
use Rattle.table_text.specs.declared.mark.Mark.{Mark}
use Rattle.table_text.specs.declared.mark.Mark.TheVariants as marks
use Rattle.table_text.specs.Reading.{Field, Reading, Part, Front, Plain, BehindQuote, Stand, by_mark, mark}
use Rattle.table_text.specs.Reading.{moved, read}
use Rattle.table_text.specs.Reader.{in_field, closes}
use Rattle.table_text.proofs.Marks.{mark-no_quote, closes-no_quote}

-- at the end, a separator or a line end
abbrev pub Parted : (separator : ℕ) → List ℕ → Type 0
Parted s [] = Unit {0}
Parted s (b ∷ rest) = closes (mark s b rest) ≡ true

-- not at a quote
abbrev pub NotQuoted : List ℕ → Type 0
NotQuoted [] = Unit {0}
NotQuoted (b ∷ rest) = (b == 34) ≡ false

pub parted-not_quoted : (s : ℕ) (bytes : List ℕ) → Parted s bytes → NotQuoted bytes
parted-not_quoted s [] is = tt
parted-not_quoted s (b ∷ rest) is = closes-no_quote s b rest is

module _ (row start : ℕ) (fields : List Field) (from : ℕ) (bytes : List ℕ) where
  abbrev stand : Part → Stand
  stand part = in_field row start fields from bytes part

  front_moves :
      (at b : ℕ) (m : Mark) (next : Stand → Reading) → (m ≡ marks.Quote → ⊥)
      → moved (stand Front) at b (by_mark Front m) next ≡ moved (stand Plain) at b (by_mark Plain m) next
  front_moves at b marks.Quote next unlike = absurd (unlike refl)
  front_moves at b marks.Parts next unlike = refl
  front_moves at b marks.Feeds next unlike = refl
  front_moves at b marks.Returns next unlike = refl
  front_moves at b marks.Wrong next unlike = refl
  front_moves at b marks.Inner next unlike = refl

  behind_moves :
      (at b : ℕ) (m : Mark) (next : Stand → Reading) → closes m ≡ true
      → moved (stand BehindQuote) at b (by_mark BehindQuote m) next
      ≡ moved (stand Plain) at b (by_mark Plain m) next
  behind_moves at b marks.Quote next is = absurd (false≢true is)
  behind_moves at b marks.Parts next is = refl
  behind_moves at b marks.Feeds next is = refl
  behind_moves at b marks.Returns next is = refl
  behind_moves at b marks.Wrong next is = absurd (false≢true is)
  behind_moves at b marks.Inner next is = absurd (false≢true is)

  -- a field that does not begin with a quote is one without quotes
  pub front_plain :
      (s at : ℕ) (rest : List ℕ) → NotQuoted rest
      → read s (in_field row start fields from bytes Front) at rest
      ≡ read s (in_field row start fields from bytes Plain) at rest
  unfolding read
  front_plain s at [] unlike = refl
  front_plain s at (b ∷ rest) unlike =
      front_moves at b (mark s b rest) (λ next. read s next (at + 1) rest) (mark-no_quote s b rest unlike)

  -- after its closing quote a field ends as one without quotes
  pub behind_plain :
      (s at : ℕ) (rest : List ℕ) → Parted s rest
      → read s (in_field row start fields from bytes BehindQuote) at rest
      ≡ read s (in_field row start fields from bytes Plain) at rest
  unfolding read
  behind_plain s at [] is = refl
  behind_plain s at (b ∷ rest) is = behind_moves at b (mark s b rest) (λ next. read s next (at + 1) rest) is
