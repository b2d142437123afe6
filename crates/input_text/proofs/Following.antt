-- Tables that follow files: what is expected after each list, and which lists can go on to a file.
use Rattle.std.proofs.Common.{◌≡◌, List, [], ◌∷◌, ◌++◌, refl, sym, ◌∙◌, ap, subst, append_assoc, Ok, Err}
use Rattle.std.specs.Prelude.{is_ok, IsOk, Option, Some, ◌↔◌}
use Rattle.std.proofs.lemmas.Bool.{false≢true}
use Rattle.std.proofs.lemmas.List.{append-nil}
use Rattle.input_text.specs.Token.{Item, Placed}
use Rattle.input_text.specs.Judged.{Judged, then_on, after}
use Rattle.input_text.specs.Refusal.{items_of, IsOpen}
use Rattle.input_text.proofs.Judgements.{refused, accepted, same_value, same_some}
use Rattle.input_text.proofs.Tables.{in_parts, front_read}

-- ---- one item more

-- Where each accepted item leads to what its list is a front part for, a whole list does.
module _ {S : Type 0} (table : S → Item → Judged S) (IsFront : S → List Item → Type 0)
    (steps : (expected next : S) (item : Item) (items : List Item) → IsFront expected items → table expected item ≡ Ok next
    → IsFront next (items ++ item ∷ [])) where
  then_front :
      (expected last : S) (x : Item) (items front : List Item) (judged : Judged S) → IsFront expected front
      → table expected x ≡ judged → then_on judged (λ next. after table next items) ≡ Ok last
      → ((next : S) → IsFront next (front ++ x ∷ []) → after table next items ≡ Ok last
      → IsFront last ((front ++ x ∷ []) ++ items))
      → IsFront last (front ++ x ∷ items)
  then_front expected last x items front (Err kind) is judged e rest = absurd (refused e)
  then_front expected last x items front (Ok next) is judged e rest =
      subst (λ (l : List Item). IsFront last l) (append_assoc front (x ∷ []) items)
      (rest next (steps expected next x front is judged) e)

  pub front_behind :
      (items front : List Item) (expected last : S) → IsFront expected front → after table expected items ≡ Ok last
      → IsFront last (front ++ items)
  front_behind [] front expected last is e =
      subst (λ (l : List Item). IsFront last l) (sym (append-nil front)) (subst (λ s. IsFront s front) (same_value e) is)
  front_behind (x ∷ items) front expected last is e =
      then_front expected last x items front (table expected x) is refl e
      (λ next on then. front_behind items (front ++ x ∷ []) next last on then)

-- Where a table expects just what the list before it expects, an accepted item leads to what the longer list expects.
module _ {S : Type 0} (table : S → Item → Judged S) (start : S) (IsFront : S → List Item → Type 0)
    (rightly : (items : List Item) (expected : S) → (after table start items ≡ Ok expected) ↔ IsFront expected items) where
  pub one_more :
      (expected next : S) (item : Item) (items : List Item) → IsFront expected items → table expected item ≡ Ok next
      → IsFront next (items ++ item ∷ [])
  one_more expected next item items is e =
      (rightly (items ++ item ∷ []) next).0 (
      in_parts table start expected items (item ∷ []) ((rightly items expected).1 is)
      ∙ ap (λ (j : Judged S). then_on j (λ (s : S). Ok s)) e)

-- ---- tables that follow files

-- The table expects what a list is a front part for, it reads each front part as such, each can go on to where reading
-- may end, and reading may end where the list is a file.
pub record Follows {S V : Type 0} (table : S → Item → Judged S) (whole : S → Option V) (start : S)
    (IsFile : List Item → V → Type 0) (IsFront : S → List Item → Type 0) : Type 0 where
  pub begins : IsFront start []
  pub steps :
      (expected next : S) (item : Item) (items : List Item) → IsFront expected items → table expected item ≡ Ok next
      → IsFront next (items ++ item ∷ [])
  pub reads_front : (expected : S) (items : List Item) → IsFront expected items → after table start items ≡ Ok expected
  pub goes_on :
      (expected : S) (items : List Item) → IsFront expected items
      → (more : List Item) × (last : S) × (value : V) × (after table expected more ≡ Ok last) × (whole last ≡ Some value)
  pub ends_file :
      (expected : S) (value : V) (items : List Item) → IsFront expected items → whole expected ≡ Some value
      → IsFile items value
  pub reads_file :
      (items : List Item) (value : V) → IsFile items value
      → (last : S) × (after table start items ≡ Ok last) × (whole last ≡ Some value)

-- A table that follows files.
module _ {S V : Type 0} {table : S → Item → Judged S} {whole : S → Option V} {start : S} {IsFile : List Item → V → Type 0}
    {IsFront : S → List Item → Type 0} (follows : Follows table whole start IsFile IsFront) where
  -- ---- what is expected

  pub front_expected : (items : List Item) (expected : S) → after table start items ≡ Ok expected → IsFront expected items
  front_expected items expected e = front_behind table IsFront follows.steps items [] start expected follows.begins e

  -- The table expects exactly what the list before it expects.
  pub expects : (items : List Item) (expected : S) → (after table start items ≡ Ok expected) ↔ IsFront expected items
  expects items expected = (front_expected items expected, follows.reads_front expected items)

  -- ---- open lists

  opens : (items : List Item) (judged : Judged S) → after table start items ≡ judged → IsOk judged → IsOpen IsFile items
  opens items (Err kind) is ok = absurd (false≢true ok)
  opens items (Ok expected) is ok =
      let more = follows.goes_on expected items (front_expected items expected is) in
      let all = in_parts table start expected items more.0 is ∙ more.3 in (
        more.0,
        more.2,
        follows.ends_file more.1 more.2 (items ++ more.0) (front_expected (items ++ more.0) more.1 all)
            more.4,
      )

  pub open_read : (items : List Item) → IsOpen IsFile items → IsOk (after table start items)
  open_read items is =
      let file = follows.reads_file (items ++ is.0) is.1 is.2 in
      front_read table start file.0 items is.0 file.1

  -- A list is open exactly where none of its items is refused.
  pub follows_open : (items : List Item) → IsOk (after table start items) ↔ IsOpen IsFile items
  follows_open items = (opens items (after table start items) refl, open_read items)

  abbrev pub Reached : List Placed → S → Type 0
  Reached front expected = after table start (items_of front) ≡ Ok expected

  pub still_open : (front : List Placed) (expected : S) → Reached front expected → IsOpen IsFile (items_of front)
  still_open front expected reached = (follows_open (items_of front)).0 (ap is_ok reached)

  -- ---- files

  pub file_value :
      (items : List Item) (expected : S) (value : V) → after table start items ≡ Ok expected → IsFile items value
      → whole expected ≡ Some value
  file_value items expected value reached file =
      let read = follows.reads_file items value file in
      ap whole (same_value (sym reached ∙ read.1)) ∙ read.2

  -- A list is the file of at most one value.
  pub one_value : (items : List Item) (one other : V) → IsFile items one → IsFile items other → one ≡ other
  one_value items one other a b =
      let read = follows.reads_file items one a in
      same_some (sym read.2 ∙ file_value items read.0 other read.1 b)
