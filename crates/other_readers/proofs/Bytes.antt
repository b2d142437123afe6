-- Bytes of a field, told apart from those that part fields and records.
use Rattle.std.proofs.Common.{◌≡◌, refl, sym, ℕ, Bool, true, false, eqb, List, ◌∷◌, ◌||◌, ◌&&◌, not}
use Rattle.std.proofs.lemmas.Bool.{ne_eqb}
use Rattle.std.specs.List.{list_all}
use Rattle.table_text.specs.Laws.{IsSeparator}
use Rattle.table_text.specs.Spelling.{is_mark, is_plain, is_text}

both : (a b : Bool) → (a && b) ≡ true → (a ≡ true) × (b ≡ true)
both true b h = (refl, h)
both false b h = absurd cc

neither : (a b : Bool) → not (a || b) ≡ true → (not a ≡ true) × (b ≡ false)
neither true b h = absurd cc
neither false true h = absurd cc
neither false false h = (refl, refl)

is_false : (a : Bool) → not a ≡ true → a ≡ false
is_false true h = absurd cc
is_false false h = refl

-- A byte of a field without quotes is none of those that part fields, quote them or end a line.
pub record IsInner (separator b : ℕ) : Type 0 where
  pub parts : eqb b separator ≡ false
  pub quotes : eqb b 34 ≡ false
  pub feeds : eqb b 10 ≡ false
  pub returns : eqb b 13 ≡ false

pub inner : (separator b : ℕ) → is_plain separator b ≡ true → IsInner separator b
inner separator b plain =
    let mark = both (not (is_mark separator b)) (is_text b) plain in
    let last = neither (eqb b separator || eqb b 34 || eqb b 10) (eqb b 13) mark.0 in
    let third = neither (eqb b separator || eqb b 34) (eqb b 10) last.0 in
    let second = neither (eqb b separator) (eqb b 34) third.0 in
    record {
      parts = is_false (eqb b separator) second.0;
      quotes = second.1;
      feeds = third.1;
      returns = last.1;
    }

pub first_plain :
    (separator b : ℕ) (bytes : List ℕ) → list_all (is_plain separator) (b ∷ bytes) ≡ true → IsInner separator b
first_plain separator b bytes all = inner separator b (both (is_plain separator b) (list_all (is_plain separator) bytes) all).0

pub others_plain :
    (separator b : ℕ) (bytes : List ℕ) → list_all (is_plain separator) (b ∷ bytes) ≡ true
    → list_all (is_plain separator) bytes ≡ true
others_plain separator b bytes all = (both (is_plain separator b) (list_all (is_plain separator) bytes) all).1

-- a separator is no quote and ends no line, and neither of these parts fields
pub record IsApart (separator : ℕ) : Type 0 where
  pub quotes : eqb separator 34 ≡ false
  pub feeds : eqb separator 10 ≡ false
  pub returns : eqb separator 13 ≡ false
  pub feed_parts : eqb 10 separator ≡ false
  pub return_parts : eqb 13 separator ≡ false

pub apart : (separator : ℕ) → IsSeparator separator → IsApart separator
apart separator is = record {
  quotes = ne_eqb separator 34 is.no_quote;
  feeds = ne_eqb separator 10 is.no_feed;
  returns = ne_eqb separator 13 is.no_return;
  feed_parts = ne_eqb 10 separator (λ e. is.no_feed (sym e));
  return_parts = ne_eqb 13 separator (λ e. is.no_return (sym e));
}
