-- Short numbers in fields, and the ranks that they are.
use Rattle.std.proofs.Common.{◌≡◌, ℕ, ◌+◌, ◌-◌, ◌*◌, ◌<◌, ◌≤◌, ◌==◌, ◌&&◌, ◌||◌, Bool, true, false, cond, leb}
use Rattle.std.proofs.Common.{nat_lt, List, [], ◌∷◌, All, map, suc}
use Rattle.std.proofs.Common.{length, take, drop, Option, Some, None, Result, Ok, refl, ap, sym, ◌∙◌, arith}
use Rattle.std.proofs.lemmas.Bool.{ne_eqb, le-leb, lt-ltb, leb-true, and_from, and_parts}
use Rattle.std.proofs.lemmas.List.Elements.{All-head, All-tail}
use Rattle.std.specs.List.{prefix_len, suffix_len}
use Rattle.std.specs.Prelude.{slice_range}
use Rattle.plain_ballots.specs.declared.limits.TheConstants.{MOST_CANDIDATES}
use Rattle.table_text.specs.declared.cell.Cell.{Cell}
use Rattle.table_text.specs.Reader.{IsCellOf}
use Rattle.table_text.specs.Reading.{field_text, unquoted}
use Rattle.table_text.specs.Short.{IsDigit, is_first, number_or_none, short_number}
use Rattle.table_text.specs.declared.short.TheConstants.{NO_NUMBER}
use Rattle.ballot_table.specs.declared.table_kind.TableKind.{TableKind}
use Rattle.ballot_table.specs.declared.table_kind.TableKind.TheVariants.{BadRank}
use Rattle.ballot_table.specs.Asked.{Asked}
use Rattle.ballot_table.specs.Cells.{in_range, rank_in, rank_number, some_or}
use Rattle.ballot_table.specs.PlainRows.{AreNumbered, HasPlainRanks, rank_or_none}
use Rattle.ballot_table.specs.Rows.{is_empty}
use Rattle.ballot_table.specs.Sheets.{texts_at}
use Rattle.ballot_table.specs.Texts.{are_digits, is_digit, is_edge, is_in, trimmed, value}

-- ---- digits

digit_is : (b : ℕ) → is_digit b ≡ true → IsDigit b
digit_is b is =
    let both = and_parts (leb 48 b) (leb b 57) is in
    record { least = leb-true 48 b both.0; most = leb-true b 57 both.1 }

record IsFirst (a : ℕ) : Type 0 where
  least : 49 ≤ a
  most : a ≤ 57
  digit : is_digit a ≡ true

first_is : (a : ℕ) → is_first a ≡ true → IsFirst a
first_is a is =
    let both = and_parts (leb 49 a) (leb a 57) is in
    let least = leb-true 49 a both.0 in
    record {
      least = least;
      most = leb-true a 57 both.1;
      digit = and_from (leb 48 a) (leb a 57) (le-leb 48 a (omega (arith, least))) both.1;
    }

-- ---- the text of a short number is its field

no_edge : (b : ℕ) → IsDigit b → is_edge b ≡ false
no_edge b is =
    let tab : (b == 9) ≡ false = ne_eqb b 9 (λ e. omega (arith, e, is.least)) in
    let space : (b == 32) ≡ false = ne_eqb b 32 (λ e. omega (arith, e, is.least)) in
    ap (λ (t : Bool). t || (b == 32)) tab ∙ space

-- bytes between no edges
module _ (bytes : List ℕ) (front : prefix_len is_edge bytes ≡ 0) (back : suffix_len is_edge bytes ≡ 0) where
  nothing_trimmed : trimmed bytes ≡ take (length bytes - 0) bytes
  nothing_trimmed =
      ap (λ (k : ℕ). take (length (drop k bytes) - suffix_len is_edge (drop k bytes)) (drop k bytes)) front
      ∙ ap (λ (k : ℕ). take (length bytes - k) bytes) back

module _ (a : ℕ) (is : IsFirst a) where
  no_quote : (a == 34) ≡ false
  no_quote = ne_eqb a 34 (λ e. omega (arith, e, is.least))

  first_no_edge : is_edge a ≡ false
  first_no_edge = no_edge a (digit_is a is.digit)

  one_stands : trimmed (field_text (a ∷ [])) ≡ a ∷ []
  one_stands =
      let none : cond (is_edge a) (1 + 0) 0 ≡ 0 = ap (λ (t : Bool). cond t (1 + 0) 0) first_no_edge in
      ap (λ (t : Bool). trimmed (cond t (unquoted false []) (a ∷ []))) no_quote ∙ nothing_trimmed (a ∷ []) none none

  two_stand : (b : ℕ) → IsDigit b → trimmed (field_text (a ∷ b ∷ [])) ≡ a ∷ b ∷ []
  two_stand b next =
      let front : cond (is_edge a) (1 + prefix_len is_edge (b ∷ [])) 0 ≡ 0 =
      ap (λ (t : Bool). cond t (1 + prefix_len is_edge (b ∷ [])) 0) first_no_edge in
      let back : cond (is_edge b) (1 + prefix_len is_edge (a ∷ [])) 0 ≡ 0 =
      ap (λ (t : Bool). cond t (1 + prefix_len is_edge (a ∷ [])) 0) (no_edge b next) in
      ap (λ (t : Bool). trimmed (cond t (unquoted false (b ∷ [])) (a ∷ b ∷ []))) no_quote
      ∙ nothing_trimmed (a ∷ b ∷ []) front back

module _ (n : ℕ) where
  one_by : (a : ℕ) (t : Bool) → is_first a ≡ t → cond t (Some (a - 48)) None ≡ Some n
      → trimmed (field_text (a ∷ [])) ≡ a ∷ []
  one_by a true first is = one_stands a (first_is a first)
  one_by a false first is = absurd (cc is)

  two_by : (a b : ℕ) (t : Bool) → (is_first a && is_digit b) ≡ t → cond t (Some ((a - 48) * 10 + (b - 48))) None ≡ Some n
      → trimmed (field_text (a ∷ b ∷ [])) ≡ a ∷ b ∷ []
  two_by a b true both is =
      let parts = and_parts (is_first a) (is_digit b) both in
      two_stand a (first_is a parts.0) b (digit_is b parts.1)
  two_by a b false both is = absurd (cc is)

  short_stands : (bytes : List ℕ) → short_number bytes ≡ Some n → trimmed (field_text bytes) ≡ bytes
  short_stands [] is = refl
  short_stands (a ∷ []) is = one_by a (is_first a) refl is
  short_stands (a ∷ b ∷ []) is = two_by a b (is_first a && is_digit b) refl is
  short_stands (a ∷ b ∷ c ∷ bytes) is = absurd (cc is)

-- what a cell has for a number is its text's
pub number_is : (bytes : List ℕ) (n : ℕ) → n ≡ number_or_none (short_number bytes) → n < NO_NUMBER
    → short_number (trimmed (field_text bytes)) ≡ Some n
number_is bytes n is few =
    let found = by_option (short_number bytes) is in
    ap short_number (short_stands n bytes found) ∙ found
  where
    by_option : (o : Option ℕ) → n ≡ number_or_none o → o ≡ Some n
    by_option None same = absurd (omega (arith, same, few))
    by_option (Some k) same = ap Some (sym same)

-- a short number is 0 where its text is empty
module _ (n : ℕ) where
  zero_by : (digits : List ℕ) (t : Bool) (value : ℕ) → 1 ≤ value → cond t (Some value) None ≡ Some n → (n == 0) ≡ false
  zero_by digits false value some is = absurd (cc is)
  zero_by digits true value some is = let same : value ≡ n = cc is in ne_eqb n 0 (λ e. omega (arith, e, same, some))

  one_some : (a : ℕ) (t : Bool) → is_first a ≡ t → cond t (Some (a - 48)) None ≡ Some n → (n == 0) ≡ false
  one_some a false first is = absurd (cc is)
  one_some a true first is =
      let least = (first_is a first).least in
      zero_by (a ∷ []) true (a - 48) (omega (arith, least)) is

  two_some : (a b : ℕ) (t : Bool) → (is_first a && is_digit b) ≡ t → cond t (Some ((a - 48) * 10 + (b - 48))) None ≡ Some n
      → (n == 0) ≡ false
  two_some a b false both is = absurd (cc is)
  two_some a b true both is =
      let least = (first_is a (and_parts (is_first a) (is_digit b) both).0).least in
      zero_by (a ∷ b ∷ []) true ((a - 48) * 10 + (b - 48)) (omega (arith, least)) is

  pub zero_is_empty : (text : List ℕ) → short_number text ≡ Some n → (n == 0) ≡ is_empty text
  zero_is_empty [] is = let zero : 0 ≡ n = cc is in sym (ap (λ (k : ℕ). k == 0) zero)
  zero_is_empty (a ∷ []) is = one_some a (is_first a) refl is
  zero_is_empty (a ∷ b ∷ []) is = two_some a b (is_first a && is_digit b) refl is
  zero_is_empty (a ∷ b ∷ c ∷ text) is = absurd (cc is)

-- cells have the numbers of their texts
pub are_numbered :
    (bytes : List ℕ) (cells : List Cell) → All (IsCellOf bytes) cells
    → AreNumbered cells (texts_at bytes cells)
are_numbered bytes [] all = record { as_many = refl; numbers = λ short. refl }
are_numbered bytes (cell ∷ cells) all =
    let rest = are_numbered bytes cells (All-tail (IsCellOf bytes) cell cells all) in
    let more = rest.as_many in
    record {
      as_many = ap suc more;
      numbers = λ short.
          let here =
          number_is (slice_range bytes cell.at cell.stop) cell.number
          (All-head (IsCellOf bytes) cell cells all).number
          (All-head (λ c. c.number < NO_NUMBER) cell cells short) in
          ap (λ (o : Option ℕ). o ∷ map short_number (texts_at bytes cells)) here
          ∙ ap (λ (l : List (Option ℕ)). Some cell.number ∷ l)
          (rest.numbers (All-tail (λ c. c.number < NO_NUMBER) cell cells short));
    }

-- ---- the rank of a short number

in_range_is : (n : ℕ) → 1 ≤ n → n ≤ MOST_CANDIDATES → in_range (Some n) ≡ Some n
in_range_is n least most =
    ap (λ (b : Bool). cond b (Some n) None)
    (and_from (nat_lt 0 n) (leb n MOST_CANDIDATES) (lt-ltb 0 n least) (le-leb n MOST_CANDIDATES most))

rank_is : (n : ℕ) → 1 ≤ n → rank_or_none n ≡ Some n
rank_is n least =
    ap (λ (b : Bool). cond b None (Some n)) (ne_eqb n 0 (λ e. omega (arith, e, least)))

abbrev rank_by : (blank ranks : List (List ℕ)) → List ℕ → Result (Option ℕ) TableKind
rank_by blank ranks [] = Ok None
rank_by blank ranks (b ∷ bs) = cond (is_in blank (b ∷ bs)) (Ok None) (some_or BadRank (rank_number ranks (b ∷ bs)))

rank_in_by : (asked : Asked) (text : List ℕ) → rank_in asked text ≡ rank_by asked.blank asked.ranks text
rank_in_by asked [] = refl
rank_in_by asked (b ∷ bs) = refl

digits_rank : (text : List ℕ) (n : ℕ) → are_digits text ≡ true → value text ≡ n → 1 ≤ n → n ≤ MOST_CANDIDATES
    → some_or BadRank (rank_number [] text) ≡ Ok (rank_or_none n)
digits_rank text n are same least most =
    ap (λ (b : Bool). some_or BadRank (in_range (cond b (Some (value text)) None))) are
    ∙ ap (λ (v : ℕ). some_or BadRank (in_range (Some v))) same
    ∙ ap (some_or BadRank) (in_range_is n least most)
    ∙ ap Ok (sym (rank_is n least))

module _ (n : ℕ) where
  one_rank : (a : ℕ) (t : Bool) → is_first a ≡ t → cond t (Some (a - 48)) None ≡ Some n
      → rank_by [] [] (a ∷ []) ≡ Ok (rank_or_none n)
  one_rank a false first is = absurd (cc is)
  one_rank a true first is =
      let one = first_is a first in
      let same : a - 48 ≡ n = cc is in
      digits_rank (a ∷ []) n (and_from (is_digit a) true one.digit refl) (omega (arith, same))
      (omega (arith, same, one.least)) (omega (arith, same, one.most))

  two_rank : (a b : ℕ) (t : Bool) → (is_first a && is_digit b) ≡ t
      → cond t (Some ((a - 48) * 10 + (b - 48))) None ≡ Some n → rank_by [] [] (a ∷ b ∷ []) ≡ Ok (rank_or_none n)
  two_rank a b false both is = absurd (cc is)
  two_rank a b true both is =
      let parts = and_parts (is_first a) (is_digit b) both in
      let one = first_is a parts.0 in
      let next = digit_is b parts.1 in
      let same : (a - 48) * 10 + (b - 48) ≡ n = cc is in
      digits_rank (a ∷ b ∷ []) n
      (and_from (is_digit a) (is_digit b && true) one.digit (and_from (is_digit b) true parts.1 refl))
      (omega (arith, same)) (omega (arith, same, one.least)) (omega (arith, same, one.most, next.most))

  short_rank_by : (text : List ℕ) → short_number text ≡ Some n → rank_by [] [] text ≡ Ok (rank_or_none n)
  short_rank_by [] is = let zero : 0 ≡ n = cc is in ap (λ (k : ℕ). Ok (rank_or_none k)) zero
  short_rank_by (a ∷ []) is = one_rank a (is_first a) refl is
  short_rank_by (a ∷ b ∷ []) is = two_rank a b (is_first a && is_digit b) refl is
  short_rank_by (a ∷ b ∷ c ∷ bytes) is = absurd (cc is)

-- a short number is a rank, or blank
pub short_rank : (asked : Asked) → HasPlainRanks asked → (text : List ℕ) (n : ℕ) → short_number text ≡ Some n
    → rank_in asked text ≡ Ok (rank_or_none n)
short_rank asked plain text n is =
    rank_in_by asked text
    ∙ ap (λ (blank : List (List ℕ)). rank_by blank asked.ranks text) plain.no_blank
    ∙ ap (λ (ranks : List (List ℕ)). rank_by [] ranks text) plain.no_ranks
    ∙ short_rank_by n text is
