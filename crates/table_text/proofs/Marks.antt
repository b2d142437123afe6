-- What a byte does outside quotes.
use Rattle.std.proofs.Common.{◌≡◌, ℕ, List, ◌∷◌, Bool, true, false, cond, not, ◌==◌, ◌||◌, ◌&&◌, nat_lt, refl}
use Rattle.std.proofs.Common.{sym, subst, arith}
use Rattle.std.proofs.lemmas.Bool.{false≢true, true≢false, ne_eqb, eqb-true, eq-eqb, and_parts}
use Rattle.table_text.specs.declared.mark.Mark.{Mark}
use Rattle.table_text.specs.declared.mark.Mark.TheVariants as marks
use Rattle.table_text.specs.Spelling.{is_plain}
use Rattle.table_text.specs.Reading.{mark, begins_with_feed}
use Rattle.table_text.specs.Reader.{closes, ends_line}
use Rattle.table_text.specs.Laws.{IsSeparator}

-- a mark by its tests
abbrev pub chosen : (quote parts feeds returns wrong : Bool) → Mark
chosen quote parts feeds returns wrong =
    cond quote marks.Quote (cond parts marks.Parts
    (cond feeds marks.Feeds (cond returns marks.Returns (cond wrong marks.Wrong marks.Inner))))

quote_tests : (q p f r w : Bool) → q ≡ false → chosen q p f r w ≡ marks.Quote → ⊥
quote_tests true p f r w unlike is = true≢false unlike
quote_tests false true f r w unlike is = cc
quote_tests false false true r w unlike is = cc
quote_tests false false false true w unlike is = cc
quote_tests false false false false true unlike is = cc
quote_tests false false false false false unlike is = cc

pub mark-no_quote : (s b : ℕ) (rest : List ℕ) → (b == 34) ≡ false → mark s b rest ≡ marks.Quote → ⊥
mark-no_quote s b rest unlike is =
    quote_tests (b == 34) (b == s) (b == 10) (b == 13 && begins_with_feed rest) (nat_lt b 32 && not (b == 9))
    unlike is

closing_tests : (q p f r w : Bool) → closes (chosen q p f r w) ≡ true → q ≡ false
closing_tests true p f r w is = absurd (false≢true is)
closing_tests false p f r w is = refl

pub closes-no_quote : (s b : ℕ) (rest : List ℕ) → closes (mark s b rest) ≡ true → (b == 34) ≡ false
closes-no_quote s b rest is =
    closing_tests (b == 34) (b == s) (b == 10) (b == 13 && begins_with_feed rest)
    (nat_lt b 32 && not (b == 9)) is

plain_tests :
    (p q f r n l t : Bool) → (not (((p || q) || f) || r) && (((not l || t) || f) || r)) ≡ true
    → (chosen q p f (r && n) (l && not t) ≡ marks.Inner) × (q ≡ false)
plain_tests true q f r n l t is = absurd (false≢true is)
plain_tests false true f r n l t is = absurd (false≢true is)
plain_tests false false true r n l t is = absurd (false≢true is)
plain_tests false false false true n l t is = absurd (false≢true is)
plain_tests false false false false n false t is = (refl, refl)
plain_tests false false false false n true true is = (refl, refl)
plain_tests false false false false n true false is = absurd (false≢true is)

-- a byte that may stand in a field without quotes
pub mark_plain :
    (s b : ℕ) (rest : List ℕ) → is_plain s b ≡ true → (mark s b rest ≡ marks.Inner) × ((b == 34) ≡ false)
mark_plain s b rest is =
    plain_tests (b == s) (b == 34) (b == 10) (b == 13) (begins_with_feed rest) (nat_lt b 32) (b == 9) is

module _ (s : ℕ) (fit : IsSeparator s) where
  pub mark_separator : (rest : List ℕ) → mark s s rest ≡ marks.Parts
  mark_separator rest =
      let no : (s == 34) ≡ false = ne_eqb s 34 fit.no_quote in
      let same : (s == s) ≡ true = grind arith in
      rw (no, same) refl

  pub mark_feed : (rest : List ℕ) → mark s 10 rest ≡ marks.Feeds
  mark_feed rest =
      let no : (10 == s) ≡ false = ne_eqb 10 s (λ e. fit.no_feed (sym e)) in
      rw no refl

  pub mark_return : (rest : List ℕ) → mark s 13 (10 ∷ rest) ≡ marks.Returns
  mark_return rest =
      let no : (13 == s) ≡ false = ne_eqb 13 s (λ e. fit.no_return (sym e)) in
      rw no refl

-- ---- what a mark tells of its byte

parts_tests : (q p f r w : Bool) → chosen q p f r w ≡ marks.Parts → p ≡ true
parts_tests true p f r w is = cc
parts_tests false true f r w is = refl
parts_tests false false true r w is = cc
parts_tests false false false true w is = cc
parts_tests false false false false true is = cc
parts_tests false false false false false is = cc

feeds_tests : (q p f r w : Bool) → chosen q p f r w ≡ marks.Feeds → f ≡ true
feeds_tests true p f r w is = cc
feeds_tests false true f r w is = cc
feeds_tests false false true r w is = refl
feeds_tests false false false true w is = cc
feeds_tests false false false false true is = cc
feeds_tests false false false false false is = cc

returns_tests : (q p f r w : Bool) → chosen q p f r w ≡ marks.Returns → r ≡ true
returns_tests true p f r w is = cc
returns_tests false true f r w is = cc
returns_tests false false true r w is = cc
returns_tests false false false true w is = refl
returns_tests false false false false true is = cc
returns_tests false false false false false is = cc

quoting_tests : (q p f r w : Bool) → chosen q p f r w ≡ marks.Quote → q ≡ true
quoting_tests true p f r w is = refl
quoting_tests false true f r w is = cc
quoting_tests false false true r w is = cc
quoting_tests false false false true w is = cc
quoting_tests false false false false true is = cc
quoting_tests false false false false false is = cc

inner_tests :
    (q p f r n l t : Bool) → (r ≡ true → (l ≡ true) × (t ≡ false))
    → chosen q p f (r && n) (l && not t) ≡ marks.Inner
    → (not (((p || q) || f) || r) && (((not l || t) || f) || r)) ≡ true
inner_tests true p f r n l t low is = cc
inner_tests false true f r n l t low is = cc
inner_tests false false true r n l t low is = cc
inner_tests false false false true true l t low is = cc
inner_tests false false false true false true true low is = absurd (true≢false (low refl).1)
inner_tests false false false true false true false low is = cc
inner_tests false false false true false false t low is = absurd (false≢true (low refl).0)
inner_tests false false false false n true true low is = refl
inner_tests false false false false n true false low is = cc
inner_tests false false false false n false t low is = refl

module _ (s b : ℕ) (rest : List ℕ) where
  pub is_separator : mark s b rest ≡ marks.Parts → b ≡ s
  is_separator is =
      eqb-true b s
      (parts_tests (b == 34) (b == s) (b == 10) (b == 13 && begins_with_feed rest)
      (nat_lt b 32 && not (b == 9)) is)

  pub is_feed : mark s b rest ≡ marks.Feeds → b ≡ 10
  is_feed is =
      eqb-true b 10
      (feeds_tests (b == 34) (b == s) (b == 10) (b == 13 && begins_with_feed rest)
      (nat_lt b 32 && not (b == 9)) is)

  pub is_return : mark s b rest ≡ marks.Returns → (b ≡ 13) × (begins_with_feed rest ≡ true)
  is_return is =
      let both = and_parts (b == 13) (begins_with_feed rest)
      (returns_tests (b == 34) (b == s) (b == 10) (b == 13 && begins_with_feed rest)
      (nat_lt b 32 && not (b == 9)) is) in
      (eqb-true b 13 both.0, both.1)

  pub is_quote : mark s b rest ≡ marks.Quote → b ≡ 34
  is_quote is =
      eqb-true b 34
      (quoting_tests (b == 34) (b == s) (b == 10) (b == 13 && begins_with_feed rest)
      (nat_lt b 32 && not (b == 9)) is)

  pub is_inner : mark s b rest ≡ marks.Inner → is_plain s b ≡ true
  is_inner is =
      inner_tests (b == 34) (b == s) (b == 10) (b == 13) (begins_with_feed rest) (nat_lt b 32) (b == 9)
      (λ low. let P : ℕ → Type 0 = λ n. (nat_lt n 32 ≡ true) × ((n == 9) ≡ false) in
      subst P (sym (eqb-true b 13 low)) (refl, refl)) is

-- ---- a mark after a field

closing_parts_tests :
    (q p f r w : Bool) → closes (chosen q p f r w) ≡ true → p ≡ true → chosen q p f r w ≡ marks.Parts
closing_parts_tests true p f r w is also = absurd (false≢true is)
closing_parts_tests false true f r w is also = refl
closing_parts_tests false false f r w is also = absurd (false≢true also)

pub parts_at : (s b : ℕ) (rest : List ℕ) → closes (mark s b rest) ≡ true → b ≡ s → mark s b rest ≡ marks.Parts
parts_at s b rest is same =
    closing_parts_tests (b == 34) (b == s) (b == 10) (b == 13 && begins_with_feed rest)
    (nat_lt b 32 && not (b == 9)) is
    (eq-eqb b s same)

closing_line_tests :
    (q p f r w : Bool) → closes (chosen q p f r w) ≡ true → p ≡ false → ends_line (chosen q p f r w) ≡ true
closing_line_tests true p f r w is other = absurd (false≢true is)
closing_line_tests false true f r w is other = absurd (true≢false other)
closing_line_tests false false true r w is other = refl
closing_line_tests false false false true w is other = refl
closing_line_tests false false false false true is other = absurd (false≢true is)
closing_line_tests false false false false false is other = absurd (false≢true is)

pub line_at :
    (s b : ℕ) (rest : List ℕ) → closes (mark s b rest) ≡ true → (b ≡ s → ⊥) → ends_line (mark s b rest) ≡ true
line_at s b rest is other =
    closing_line_tests (b == 34) (b == s) (b == 10) (b == 13 && begins_with_feed rest)
    (nat_lt b 32 && not (b == 9)) is
    (ne_eqb b s other)
