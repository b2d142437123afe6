-- The words of day files.
use Rattle.std.specs.Prelude.{ℕ, List, [], ◌∷◌, codes, Err}
use Rattle.std.specs.List.{find}
use Rattle.std.specs.Option.{ok_or}
use Rattle.std.specs.Str.{bytes_eq}
use Rattle.input_text.specs.declared.fault_kind.FaultKind.TheVariants.{WordExpected}
use Rattle.input_text.specs.Token.{Item, Word}
use Rattle.input_text.specs.Judged.{Judged}
use Rattle.day_reader.specs.declared.keyword.Keyword.{Keyword}
use Rattle.day_reader.specs.declared.keyword.Keyword.TheVariants.{Lots, Places, Omega, Team, Enter, Correct, Withdraw, Strike, Freeze, End}

abbrev pub letters_of : Keyword → List ℕ
letters_of Lots = codes "lots"
letters_of Places = codes "places"
letters_of Omega = codes "omega"
letters_of Team = codes "team"
letters_of Enter = codes "enter"
letters_of Correct = codes "correct"
letters_of Withdraw = codes "withdraw"
letters_of Strike = codes "strike"
letters_of Freeze = codes "freeze"
letters_of End = codes "end"

-- the word as it is in a file
abbrev pub word : Keyword → Item
word keyword = Word (letters_of keyword)

abbrev pub keywords : List Keyword
keywords = Lots ∷ Places ∷ Omega ∷ Team ∷ Enter ∷ Correct ∷ Withdraw ∷ Strike ∷ Freeze ∷ End ∷ []

-- the word that has these letters
unfoldable pub keyword_of : List ℕ → Judged Keyword
keyword_of letters = ok_or (find (λ keyword. bytes_eq letters (letters_of keyword)) keywords) WordExpected

abbrev pub as_keyword : Item → Judged Keyword
as_keyword (Word letters) = keyword_of letters
as_keyword item = Err WordExpected
