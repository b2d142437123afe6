-- Strings and texts of JSON, and the part of a promise, worked by hand.
use Rattle.std.specs.Prelude.{◌≡◌, Bool, true, false, [], ◌∷◌, ◌++◌, codes}
use Rattle.meek_rule.specs.Row.{Row}
use Rattle.meek_rule.specs.declared.step.Step.TheVariants.{Elected, Defeat}
use Rattle.page_tree.specs.Escaping.{escaped}
use Rattle.page_tree.specs.Print.{printed}
use Rattle.sheet_reader.specs.Values.{SheetList}
use Rattle.count_promise.specs.Worked.{all_hopeful, nobody, row_of, sheet_of, third_defeated}
use Rattle.sheet_page.specs.JsonGrammar.{Json, Text, Whole, Truth, IsTextOf}
use Rattle.sheet_page.specs.JsonText.{escape}
use Rattle.sheet_page.specs.JsonValues.{array, object}
use Rattle.sheet_page.specs.Promised.{promise_part}
use Rattle.sheet_page.specs.SentenceLaws.{lots_said, promise_lines}

-- Control bytes stand by their numbers, with digits of base 16 in small letters. A quote and a backslash stand
-- after a backslash; a slash and the byte 127 stand as they are.
pub record WorkedStrings : Type 0 where
  pub controls : escaped escape (0 ∷ 9 ∷ 10 ∷ 26 ∷ 31 ∷ []) ≡ codes "\\u0000\\u0009\\u000a\\u001a\\u001f"
  pub others : escaped escape (codes "a/b \"c\" \\d" ++ 127 ∷ []) ≡ codes "a/b \\\"c\\\" \\\\d" ++ 127 ∷ []

-- a list, and a text of a quote, a backslash and a slash
abbrev pub worked_value : Json
worked_value =
    object ((codes "list", array (Whole 10 ∷ Truth false ∷ array [] ∷ [])) ∷ (codes "marks", Text (codes "\"\\/")) ∷ [])

-- An object and lists are written with commas between two. A string may have a slash after a backslash, though none of a sheet has. No comma
-- is after the last of a list, and no zero before a number.
pub record WorkedTexts : Type 0 where
  pub whole : IsTextOf worked_value (codes "{\"list\":[10,false,[]],\"marks\":\"\\\"\\\\\\/\"}")
  pub no_comma_at_the_end : ¬ IsTextOf (array (Whole 1 ∷ [])) (codes "[1,]")
  pub no_zero_before : ¬ IsTextOf (Whole 1) (codes "01")

-- two seats and 13 ballots, and no iteration
abbrev pub no_iterations : SheetList
no_iterations = record { title = codes "T"; seats = 2; ballots = 13; names = []; rows = []; last = [] }

-- three candidates for two seats in an iteration
abbrev pub one_row : Row → SheetList
one_row row = record (sheet_of (row ∷ [])) { names = codes "Ann Archer" ∷ codes "Ben Baker" ∷ codes "Cid Carter" ∷ [] }

-- the second and others are tied, and it is defeated
abbrev pub second_falls : (others : Bool) → Row
second_falls others =
    row_of 4 all_hopeful (3000000000 ∷ 1000000000 ∷ 1000000000 ∷ []) 4000000000 0 nobody (others ∷ true ∷ true ∷ []) (Defeat 2)

-- The part of the promise at nine places, and at eight; whom lots chose for defeat, of two and of three, and for a seat; and a defeat with a vote of
-- surplus, which leaves no bound.
pub record WorkedPart : Type 0 where
  pub nine :
      printed (promise_part 9 no_iterations)
      ≡ codes "<section><h2>What this count promises</h2>"
      ++ codes "<p>Anybody can work this out from the sheet: docs/FORMATS.md says how, under What one count promises.</p>"
      ++ codes "<ul><li>No lot decided anything.</li>"
      ++ codes "<li>Any voters who rank the same candidates, in any order, above all others who run, and are at least k quotas of 4.333333334 votes and 0.000000000 votes more, have k of these candidates elected, or all of these who run where they are fewer than k.</li></ul></section>"
  pub eight : printed (promise_part 8 no_iterations) ≡ []
  pub of_two :
      promise_lines 9 (one_row (second_falls false))
      ≡ codes "Round 4, iteration 1: a lot decided that Ben Baker (2) is defeated, and not Cid Carter (3)."
      ∷ codes "Any voters who rank the same candidates, in any order, above all others who run, and are at least k quotas of 1.666666667 votes and 0.000000000 votes more, have k of these candidates elected, or all of these who run where they are fewer than k." ∷ []
  pub of_three :
      lots_said (one_row (second_falls true))
      ≡ codes "Round 4, iteration 1: a lot decided that Ben Baker (2) is defeated, and not Ann Archer (1), and not Cid Carter (3)." ∷ []
  pub seat :
      lots_said (one_row (row_of 1 all_hopeful (5000000000 ∷ 5000000000 ∷ 4000000000 ∷ []) 4000000000 1000000000 (false ∷ true ∷ false ∷ []) nobody Elected))
      ≡ codes "Round 1, iteration 1: a lot decided that Ben Baker (2) is elected, and not Ann Archer (1)." ∷ []
  pub none :
      promise_lines 9 (one_row (third_defeated 3 1000000000))
      ≡ codes "No lot decided anything."
      ∷ (codes "Not promised: in round 3, iteration 1, Cid Carter (3) was defeated while 1.000000000 votes of surplus were not passed on. "
      ++ codes "So voters who rank the same candidates, in any order, above all others who run, may have fewer of these elected than they have quotas of 3.333333334 votes.") ∷ []
