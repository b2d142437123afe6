-- The words of day files, as the table reads them.
use Rattle.std.proofs.Common.{◌≡◌, ℕ, Bool, true, false, List, [], ◌∷◌, cond, refl, sym, ap, subst, bytes_eq, Ok}
use Rattle.std.specs.Prelude.{Option, Some, None, IfSome}
use Rattle.std.specs.List.{find}
use Rattle.std.specs.Option.{ok_or}
use Rattle.input_text.specs.declared.what.What.{What}
use Rattle.input_text.specs.declared.what.What.TheVariants as code
use Rattle.input_text.specs.Reader.{said, says}
use Rattle.std.proofs.lemmas.Slice.Eq.{bytes_eq-Decides}
use Rattle.input_text.specs.Token.{Item, Number, Minus, Text, Word}
use Rattle.input_text.specs.declared.fault_kind.FaultKind.TheVariants.{WordExpected}
use Rattle.input_text.proofs.Judgements.{refused, same_value}
use Rattle.day_reader.specs.declared.keyword.Keyword.{Keyword}
use Rattle.day_reader.specs.declared.keyword.Keyword.TheVariants.{Lots, Places, Omega, Team, Enter, Correct}
use Rattle.day_reader.specs.declared.keyword.Keyword.TheVariants.{Withdraw, Strike, Freeze, End}
use Rattle.day_reader.specs.Keyword.{letters_of, keywords, word, keyword_of, as_keyword}

abbrev Among : List ℕ → List Keyword → Option Keyword
Among letters list = find (λ keyword. bytes_eq letters (letters_of keyword)) list

-- either these letters are this word, or the rest of the list decides
either :
    (letters : List ℕ) (this found : Keyword) (list : List Keyword) (hit : Bool) → bytes_eq letters (letters_of this) ≡ hit
    → ok_or (cond hit (Some this) (Among letters list)) WordExpected ≡ Ok found
    → (ok_or (Among letters list) WordExpected ≡ Ok found → letters ≡ letters_of found) → letters ≡ letters_of found
either letters this found list true is e rest =
    let same : letters ≡ letters_of this = (bytes_eq-Decides letters (letters_of this)).0 is in rw (← same_value e) same
either letters this found list false is e rest = rest e

found_among :
    (letters : List ℕ) (found : Keyword) (list : List Keyword) → ok_or (Among letters list) WordExpected ≡ Ok found
    → letters ≡ letters_of found
found_among letters found [] e = absurd (refused e)
found_among letters found (this ∷ list) e =
    either letters this found list (bytes_eq letters (letters_of this)) refl e (λ e. found_among letters found list e)

pub letters_are : (letters : List ℕ) (found : Keyword) → keyword_of letters ≡ Ok found → letters ≡ letters_of found
unfolding keyword_of
letters_are letters found e = found_among letters found keywords e

pub item_is : (item : Item) (found : Keyword) → as_keyword item ≡ Ok found → item ≡ word found
item_is (Word letters) found e = ap Word (letters_are letters found e)
item_is (Number n) found e = absurd (refused e)
item_is (Minus n) found e = absurd (refused e)
item_is (Text bytes) found e = absurd (refused e)

pub reads_word : (keyword : Keyword) → as_keyword (word keyword) ≡ Ok keyword
unfolding keyword_of
reads_word Lots = refl
reads_word Places = refl
reads_word Omega = refl
reads_word Team = refl
reads_word Enter = refl
reads_word Correct = refl
reads_word Withdraw = refl
reads_word Strike = refl
reads_word Freeze = refl
reads_word End = refl

-- ---- words of the text

word_known :
    (letters : List ℕ) (found : Option Keyword) → IfSome found (λ keyword. keyword_of letters ≡ Ok keyword)
    → IfSome found (λ keyword. Word letters ≡ word keyword)
word_known letters (Some keyword) known = ap Word (letters_are letters keyword known)
word_known letters None known = tt

pub said_word :
    (bytes : List ℕ) (at stop : ℕ) (what : What) (letters : List ℕ) (found : Option Keyword) → what ≡ code.Word
    → says (said bytes at stop what) letters → IfSome found (λ keyword. keyword_of letters ≡ Ok keyword)
    → IfSome found (λ keyword. said bytes at stop what ≡ word keyword)
said_word bytes at stop what letters found is same known =
    let spelled : (w : What) → w ≡ code.Word → says (said bytes at stop w) letters → said bytes at stop w ≡ Word letters =
    λ w is_word. subst
    (λ (v : What). says (said bytes at stop v) letters → said bytes at stop v ≡ Word letters) (sym is_word)
    (λ e. ap Word (sym e)) in
    subst (λ (i : Item). IfSome found (λ keyword. i ≡ word keyword)) (sym (spelled what is same))
    (word_known letters found known)
