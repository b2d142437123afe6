-- The items of an order, as they are read.
use Rattle.std.proofs.Common.{◌≡◌, ℕ, ◌+◌, Bool, true, false, cond, List, [], ◌∷◌, ◌++◌, map, take, drop}
use Rattle.std.proofs.Common.{length, Some, None, refl, ap, sym, ◌∙◌, subst}
use Rattle.std.specs.Bool.{⊤}
use Rattle.std.specs.List.{filter_map, cons_option, range_with_len}
use Rattle.std.specs.Option.{option_map}
use Rattle.std.proofs.lemmas.List.{append-nil, append_assoc, map_push, length_push, take_at, drop_at}
use Rattle.ballot_marks.specs.declared.says.Says.{Says}
use Rattle.ballot_marks.specs.declared.says.Says.TheVariants as says
use Rattle.preflib_text.specs.declared.braced.Braced.{Braced}
use Rattle.preflib_text.specs.declared.braced.Braced.TheVariants.{Nobody, One, More}
use Rattle.preflib_text.specs.declared.expected.Expected.{Expected}
use Rattle.preflib_text.specs.declared.expected.Expected.TheVariants.{Count, BehindCount, Item as AtItem, BehindItem}
use Rattle.preflib_text.specs.declared.expected.Expected.TheVariants.{Number as AtNumber, BehindNumber}
use Rattle.preflib_text.specs.Items.{Item, says_of, item_in, item_at, marks_of}
use Rattle.preflib_text.specs.Orders.{braced, in_braces, part_fault, parts_of}
use Rattle.preflib_text.specs.Parts.{Part, Number, Colon, Comma, Open, Close, End, Placed}
use Rattle.preflib_text.specs.Standing.{Stand, next_by, more_braced, says_braced}
use Rattle.preflib_text.proofs.StandLemmas.{braces_push}

-- the items of parts, within braces or not
unfoldable pub items_with : Bool → List Placed → List Item
items_with inside [] = []
items_with inside (p ∷ ps) =
    cons_option (cond inside None (item_in (p ∷ ps))) (items_with (braced inside p.part) ps)

pub items_from : (rest before placed : List Placed) → placed ≡ before ++ rest
    → filter_map (item_at placed) (range_with_len (length before) (length rest))
    ≡ items_with (in_braces (parts_of before)) rest
unfolding items_with
items_from [] before placed is = refl
items_from (p ∷ ps) before placed is =
    let front : take (length before) placed ≡ before =
    ap (take (length before)) is ∙ take_at before (p ∷ ps) (length before) refl in
    let back : drop (length before) placed ≡ p ∷ ps =
    ap (drop (length before)) is ∙ drop_at before (p ∷ ps) (length before) refl in
    let inside = in_braces (parts_of before) in
    let more : in_braces (parts_of (before ++ p ∷ [])) ≡ braced inside p.part =
    ap in_braces (map_push (λ (q : Placed). q.part) before p) ∙ braces_push false (parts_of before) p.part in
    ap (λ xs. cons_option (cond (in_braces (parts_of xs)) None (item_in (drop (length before) placed)))
    (filter_map (item_at placed) (range_with_len (length before + 1) (length ps)))) front
    ∙ ap (λ xs. cons_option (cond inside None (item_in xs))
    (filter_map (item_at placed) (range_with_len (length before + 1) (length ps)))) back
    ∙ ap (λ k. cons_option (cond inside None (item_in (p ∷ ps)))
    (filter_map (item_at placed) (range_with_len k (length ps)))) (sym (length_push before p))
    ∙ ap (cons_option (cond inside None (item_in (p ∷ ps))))
    (items_from ps (before ++ p ∷ []) placed (is ∙ sym (append_assoc before (p ∷ []) ps))
    ∙ ap (λ b. items_with b ps) more)

-- what braces say that are opened before these parts
says_open : List Part → Says
says_open (Number n ∷ Close ∷ rest) = says.One n
says_open rest = says.Over

open_says : (rest : List Part) → says_of Open rest ≡ Some (says_open rest)
unfolding says_open
open_says (Number n ∷ Close ∷ rest) = refl
open_says rest = refl

-- what they say, as far as they are read
pub says_from : Braced → Expected → List Part → Says
says_from Nobody AtNumber rest = says_open rest
says_from (One n) BehindNumber (Close ∷ rest) = says.One n
says_from b e rest = says.Over

says_more : (b : Braced) (n : ℕ) (rest : List Part)
    → says_from b AtNumber (Number n ∷ rest) ≡ says_from (more_braced b n) BehindNumber rest
unfolding says_open says_from
says_more Nobody n (Close ∷ rest) = refl
says_more Nobody n rest = refl
says_more (One m) n rest = refl
says_more More n rest = refl

says_closed : (b : Braced) (rest : List Part) → says_from b BehindNumber (Close ∷ rest) ≡ says_braced b
unfolding says_from
says_closed Nobody rest = refl
says_closed (One n) rest = refl
says_closed More rest = refl

-- some candidate was read in braces after which something is expected
abbrev pub Fits : Expected → Braced → Type 0
Fits Count b = ⊥
Fits BehindCount b = ⊥
Fits BehindNumber Nobody = ⊥
Fits e b = ⊤

fits_more : (b : Braced) (n : ℕ) → Fits BehindNumber (more_braced b n)
fits_more Nobody n = tt
fits_more (One m) n = tt
fits_more More n = tt

says_on : (b : Braced) (rest : List Part) → Fits BehindNumber b
    → says_from b BehindNumber (Comma ∷ rest) ≡ says_from b AtNumber rest
unfolding says_from
says_on Nobody rest fits = absurd fits
says_on (One n) rest fits = refl
says_on More rest fits = refl

-- the items that end after what is read
unfoldable pub left : Expected → Stand → List Placed → List Item
left AtItem s rest = items_with false rest
left BehindItem s rest = items_with false rest
left e s rest = record { at = s.open_at; says = says_from s.braced e (parts_of rest) } ∷ items_with true rest

-- the item that ends with a part
pub gained : Expected → Stand → ℕ → Part → List Item
gained AtItem s at (Number n) = record { at = at; says = says.One n } ∷ []
gained BehindNumber s at Close = record { at = s.open_at; says = says_braced s.braced } ∷ []
gained e s at part = []

module _ (room n : ℕ) (s : Stand) (at : ℕ) (ps : List Placed) where
  abbrev place : Part → Placed
  place part = record { at = at; part = part }

  -- one part further the same items are left, but for the one that ended
  pub left_next : (e : Expected) (part : Part) → e ≡ s.expected → Fits e s.braced
      → part_fault room n s.listed e part ≡ None
      → left e s (place part ∷ ps)
      ≡ gained e s at part ++ left (next_by e s at part).expected (next_by e s at part) ps
  unfolding items_with left gained says_from says_open
  left_next AtItem (Number m) is fits sound = refl
  left_next AtItem Open is fits sound =
      ap (λ o. cons_option (option_map (λ says. record { at = at; says = says }) o) (items_with true ps))
      (open_says (parts_of ps))
  left_next BehindItem Comma is fits sound = refl
  left_next BehindItem End is fits sound = ap (λ e. left e s ps) is
  left_next AtNumber (Number m) is fits sound =
      ap (λ says. record { at = s.open_at; says = says } ∷ items_with true ps) (says_more s.braced m (parts_of ps))
  left_next BehindNumber Comma is fits sound =
      ap (λ says. record { at = s.open_at; says = says } ∷ items_with true ps) (says_on s.braced (parts_of ps) fits)
  left_next BehindNumber Close is fits sound =
      ap (λ says. record { at = s.open_at; says = says } ∷ items_with false ps) (says_closed s.braced (parts_of ps))
  left_next Count part is fits sound = absurd fits
  left_next BehindCount part is fits sound = absurd fits
  left_next e part is fits sound = absurd (cc sound)

  pub fits_next : (e : Expected) (part : Part) → e ≡ s.expected → Fits e s.braced
      → part_fault room n s.listed e part ≡ None
      → Fits (next_by e s at part).expected (next_by e s at part).braced
  fits_next AtItem (Number m) is fits sound = tt
  fits_next AtItem Open is fits sound = tt
  fits_next BehindItem Comma is fits sound = tt
  fits_next BehindItem End is fits sound = subst (λ e. Fits e s.braced) is fits
  fits_next AtNumber (Number m) is fits sound = fits_more s.braced m
  fits_next BehindNumber Comma is fits sound = tt
  fits_next BehindNumber Close is fits sound = tt
  fits_next Count part is fits sound = absurd fits
  fits_next BehindCount part is fits sound = absurd fits
  fits_next e part is fits sound = absurd (cc sound)

  -- what a part adds to the marks and the places
  pub marks_next : (e : Expected) (part : Part) → (next_by e s at part).marks ≡ s.marks ++ marks_of (gained e s at part)
  unfolding gained
  marks_next Count (Number m) = sym (append-nil s.marks)
  marks_next BehindCount Colon = sym (append-nil s.marks)
  marks_next AtItem (Number m) = refl
  marks_next AtItem Open = sym (append-nil s.marks)
  marks_next BehindItem Comma = sym (append-nil s.marks)
  marks_next AtNumber (Number m) = sym (append-nil s.marks)
  marks_next BehindNumber Comma = sym (append-nil s.marks)
  marks_next BehindNumber Close = refl
  marks_next e part = sym (append-nil s.marks)

  pub places_next : (e : Expected) (part : Part) → (next_by e s at part).places ≡ s.places ++ map (λ item. item.at) (gained e s at part)
  unfolding gained
  places_next Count (Number m) = sym (append-nil s.places)
  places_next BehindCount Colon = sym (append-nil s.places)
  places_next AtItem (Number m) = refl
  places_next AtItem Open = sym (append-nil s.places)
  places_next BehindItem Comma = sym (append-nil s.places)
  places_next AtNumber (Number m) = sym (append-nil s.places)
  places_next BehindNumber Comma = sym (append-nil s.places)
  places_next BehindNumber Close = refl
  places_next e part = sym (append-nil s.places)

  -- the count is first
  pub count_next : (e : Expected) (part : Part) → Fits e s.braced → (next_by e s at part).count ≡ s.count
  count_next Count part fits = absurd fits
  count_next BehindCount part fits = absurd fits
  count_next AtItem (Number m) fits = refl
  count_next AtItem Open fits = refl
  count_next BehindItem Comma fits = refl
  count_next AtNumber (Number m) fits = refl
  count_next BehindNumber Comma fits = refl
  count_next BehindNumber Close fits = refl
  count_next e part fits = refl

  pub end_next : (e : Expected) → e ≡ s.expected → part_fault room n s.listed e End ≡ None
      → (next_by e s at End).expected ≡ BehindItem
  end_next BehindItem is sound = sym is
  end_next e is sound = absurd (cc sound)
