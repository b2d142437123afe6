-- What is after the title: strings that are passed over, and the word `lots`.
use Rattle.std.proofs.Common.{◌≡◌, ℕ, List, [], refl, sym, ◌∙◌, ap, Ok, Err}
use Rattle.std.specs.Prelude.{Result}
use Rattle.candidate_roll.specs.Roll.{RollList}
use Rattle.input_text.specs.declared.fault_kind.FaultKind.TheVariants.{WordExpected}
use Rattle.input_text.specs.declared.input_fault.InputFault.{InputFault}
use Rattle.input_text.specs.declared.what.What.{What}
use Rattle.input_text.specs.declared.what.What.TheVariants as code
use Rattle.input_text.specs.Token.{Item, Scan, with_front}
use Rattle.input_text.specs.Reader.{said}
use Rattle.input_text.specs.Judged.{Judged, then_on, GoesOn, reads}
use Rattle.input_text.specs.Reads.{IsEnded}
use Rattle.input_text.proofs.Reading.{goes_on, refused_at, ended_so}
use Rattle.day_reader.specs.declared.keyword.Keyword.{Keyword}
use Rattle.day_reader.specs.declared.keyword.Keyword.TheVariants as key
use Rattle.day_reader.specs.Keyword.{word, as_keyword}
use Rattle.day_reader.specs.DayTable.{BehindTitle, Lot, behind_title, at_token}
use Rattle.day_reader.specs.Reads.{Leads, IsLotsWord}
use Rattle.day_reader.proofs.Keywords.{reads_word}
use Rattle.day_reader.proofs.Steps.{word_leads}

-- a text that ends after the title is refused at its end
pub title_ends :
    (roll : RollList) (old new : Scan) (fault : InputFault) → IsEnded old fault new
    → reads at_token (BehindTitle roll) old ≡ Err (record { fault = fault; rest = new })
title_ends roll old new fault is = ended_so at_token (BehindTitle roll) old new fault is

-- What the next token of these bytes says, from its first byte up to where it stops.
module _ (roll : RollList) (old new : Scan) (bytes : List ℕ) (at begin stop : ℕ) where
  abbrev IsNext : What → Type 0
  IsNext what = old ≡ with_front (record { at = at; item = said bytes begin stop what }) new

  -- a string is passed over
  pub string_passed :
      (what : What) → IsNext what → what ≡ code.Text
      → reads at_token (BehindTitle roll) old ≡ reads at_token (BehindTitle roll) new
  unfolding at_token
  string_passed what next is =
      goes_on at_token (BehindTitle roll) old new (record { at = at; item = said bytes begin stop code.Text })
      (BehindTitle roll)
      (next ∙ ap (λ (w : What). with_front (record { at = at; item = said bytes begin stop w }) new) is) refl

  -- any token but a string is judged as a word
  judged_as_word :
      (what : What) → (what ≡ code.Text → ⊥)
      → at_token (BehindTitle roll) (said bytes begin stop what)
      ≡ then_on (as_keyword (said bytes begin stop what)) (behind_title roll)
  unfolding at_token
  judged_as_word (code.Number n) not = refl
  judged_as_word (code.Minus n) not = refl
  judged_as_word code.Text not = absurd (not refl)
  judged_as_word code.Word not = refl

  -- the word `lots` leads to the lots, and any other token is refused
  pub title_word :
      (what : What) (result : Result (Unit {0}) InputFault) → IsNext what → (what ≡ code.Text → ⊥)
      → IsLotsWord (said bytes begin stop what) at result
      → Leads (reads at_token (BehindTitle roll) old) result (λ _. reads at_token (Lot roll []) new) new
  unfolding at_token
  title_word what (Ok done) next not is =
      word_leads at_token (BehindTitle roll) (behind_title roll) old new key.Lots at refl
      (next ∙ ap (λ (i : Item). with_front (record { at = at; item = i }) new) is) (GoesOn (Lot roll [])) refl
  title_word what (Err fault) next not is =
      refused_at at_token (BehindTitle roll) old new (record { at = at; item = said bytes begin stop what })
      WordExpected next (judged_as_word what not ∙ is.1 roll)
      ∙ ap (λ (why : InputFault). Err (record { fault = why; rest = new })) (sym is.0)

not_lots : (roll : RollList) (keyword : Keyword) → (keyword ≡ key.Lots → ⊥) → behind_title roll keyword ≡ Err WordExpected
not_lots roll key.Lots not = absurd (not refl)
not_lots roll keyword not = refl

-- another word than `lots` may not stand after the title
pub another_word :
    (item : Item) (keyword : Keyword) → item ≡ word keyword → (keyword ≡ key.Lots → ⊥) → (roll : RollList)
    → then_on (as_keyword item) (behind_title roll) ≡ Err WordExpected
another_word item keyword is not roll =
    ap (λ (j : Judged Keyword). then_on j (behind_title roll)) (ap as_keyword is ∙ reads_word keyword)
    ∙ not_lots roll keyword not
