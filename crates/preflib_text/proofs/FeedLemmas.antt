-- The lines of a text after a line feed follow those before it.
use Rattle.std.proofs.Common.{◌≡◌, ℕ, ◌+◌, ◌-◌, ◌≤◌, Bool, true, false, cond, eqb, ◌&&◌, List, [], ◌∷◌, ◌++◌}
use Rattle.std.proofs.Common.{length, take, drop, refl, ap, sym, ◌∙◌, subst, arith}
use Rattle.std.specs.List.{ends_with, onto_first, slice_split, starts_with}
use lib.Pointwise.{pointwise}
use Rattle.std.specs.Prelude.{nat_eq}
use Rattle.std.proofs.lemmas.Bool.{eqb-true}
use Rattle.std.proofs.lemmas.List.{append_assoc, drop-append-le, take-append-drop}
use Rattle.preflib_text.specs.Faults.{Line}
use Rattle.preflib_text.specs.Lines.{lines, lines_of, mark_len, without_return}
use Rattle.preflib_text.proofs.LineLemmas.{first_of_two, is_feed, some_part}

-- ---- the line feed at the end

never : (b : Bool) → (b && false) ≡ false
never true = refl
never false = refl

one_feed : (xs : List ℕ) → pointwise nat_eq (10 ∷ []) xs ≡ true → xs ≡ 10 ∷ []
one_feed [] is = absurd (cc is)
one_feed (x ∷ []) is =
    (elim (eqb 10 x) as (λ t. eqb 10 x ≡ t → (t && true) ≡ true → x ∷ [] ≡ 10 ∷ []) [
      | true ↦ λ same yes. ap (λ b. b ∷ []) (sym (eqb-true 10 x same))
      | false ↦ λ other no. absurd (cc no)
    ]) refl is
one_feed (x ∷ y ∷ xs) is = absurd (cc (is, never (eqb 10 x)))

-- what is before it
pub before_feed : (head : List ℕ) → ends_with nat_eq head (10 ∷ []) ≡ true → (before : List ℕ) × (head ≡ before ++ 10 ∷ [])
before_feed head ended =
    let k = length head - 1 in
    (take k head, sym (take-append-drop k head) ∙ ap (λ xs. take k head ++ xs) (one_feed (drop k head) ended))

-- ---- the byte order mark

-- the mark is before the line feed, and is the same whatever is after this
record MarkIsBefore (before rest : List ℕ) : Type 0 where
  same : mark_len (before ++ 10 ∷ rest) ≡ mark_len (before ++ 10 ∷ [])
  within : mark_len (before ++ 10 ∷ []) ≤ length before

mark_before : (before rest : List ℕ) → MarkIsBefore before rest
mark_before [] rest = record { same = refl; within = omega arith }
mark_before (a ∷ []) rest =
    let none = never (eqb 0xEF a) in
    record { same = refl; within = subst (λ t. cond t 3 0 ≤ 1) (sym none) (omega arith) }
mark_before (a ∷ b ∷ []) rest =
    let none = ap (λ t. eqb 0xEF a && t) (never (eqb 0xBB b)) ∙ never (eqb 0xEF a) in
    record { same = refl; within = subst (λ t. cond t 3 0 ≤ 2) (sym none) (omega arith) }
mark_before (a ∷ b ∷ c ∷ before) rest =
    record {
      same = refl;
      within = elim (starts_with nat_eq (a ∷ b ∷ c ∷ before ++ 10 ∷ []) (0xEF ∷ 0xBB ∷ 0xBF ∷ []))
          as (λ t. cond t 3 0 ≤ length (a ∷ b ∷ c ∷ before)) [
            | true ↦ omega arith
            | false ↦ omega arith
          ];
    }

-- ---- the lines

split_front : (before rest : List ℕ)
    → slice_split is_feed (before ++ 10 ∷ rest) ≡ slice_split is_feed before ++ slice_split is_feed rest
split_front [] rest = refl
split_front (b ∷ bs) rest =
    let parts = some_part bs in
    let more = split_front bs rest in
    elim (is_feed b) as (λ t. cond t ([] ∷ slice_split is_feed (bs ++ 10 ∷ rest))
    (onto_first b (slice_split is_feed (bs ++ 10 ∷ rest)))
    ≡ cond t ([] ∷ slice_split is_feed bs) (onto_first b (slice_split is_feed bs)) ++ slice_split is_feed rest) [
      | true ↦ ap (λ xs. [] ∷ xs) more
      | false ↦ ap (onto_first b) (more ∙ ap (λ xs. xs ++ slice_split is_feed rest) parts.2)
          ∙ ap (λ xs. onto_first b xs ++ slice_split is_feed rest) (sym parts.2)
    ]

-- the lines after some pieces follow those of these pieces
record LinesBehind (row at : ℕ) (pieces : List (List ℕ)) (other : List ℕ) (others : List (List ℕ)) : Type 0 where
  row_behind : ℕ
  at_behind : ℕ
  lines_are :
      lines_of row at (pieces ++ other ∷ others)
      ≡ lines_of row at (pieces ++ [] ∷ []) ++ lines_of row_behind at_behind (other ∷ others)

lines_behind : (row at : ℕ) (pieces : List (List ℕ)) (other : List ℕ) (others : List (List ℕ))
    → LinesBehind row at pieces other others
lines_behind row at [] other others = record { row_behind = row; at_behind = at; lines_are = refl }
lines_behind row at (piece ∷ []) other others =
    record {
      row_behind = row + 1;
      at_behind = at + length piece + 1;
      lines_are = first_of_two row at piece other others
          ∙ ap (λ ls. ls ++ lines_of (row + 1) (at + length piece + 1) (other ∷ others))
          (sym (first_of_two row at piece [] []));
    }
lines_behind row at (piece ∷ next ∷ pieces) other others =
    let more = lines_behind (row + 1) (at + length piece + 1) (next ∷ pieces) other others in
    let line : Line = record { row = row; at = at; bytes = without_return piece } in
    record {
      row_behind = more.row_behind;
      at_behind = more.at_behind;
      lines_are = first_of_two row at piece next (pieces ++ other ∷ others) ∙ ap (λ ls. line ∷ ls) more.lines_are
          ∙ ap (λ ls. ls ++ lines_of more.row_behind more.at_behind (other ∷ others))
          (sym (first_of_two row at piece next (pieces ++ [] ∷ [])));
    }

-- the lines of a text after a line feed follow those before it
pub record LinesFollow (head rest : List ℕ) : Type 0 where
  pub row : ℕ
  pub at : ℕ
  pub lines_are : lines (head ++ rest) ≡ lines head ++ lines_of row at (slice_split is_feed rest)

pub lines_follow : (before rest : List ℕ) → LinesFollow (before ++ 10 ∷ []) rest
lines_follow before rest =
    let mark = mark_before before rest in
    let n = mark_len (before ++ 10 ∷ []) in
    let pieces = slice_split is_feed (drop n before) in
    let parts = some_part rest in
    let cut = λ (xs : List ℕ). ap (slice_split is_feed) (drop-append-le n before (10 ∷ xs) mark.within)
    ∙ split_front (drop n before) xs in
    let follow = lines_behind 1 n pieces parts.0 parts.1 in
    record {
      row = follow.row_behind;
      at = follow.at_behind;
      lines_are = ap lines (append_assoc before (10 ∷ []) rest)
          ∙ ap (λ k. lines_of 1 k (slice_split is_feed (drop k (before ++ 10 ∷ rest)))) mark.same
          ∙ ap (lines_of 1 n) (cut rest ∙ ap (λ xs. pieces ++ xs) parts.2)
          ∙ follow.lines_are
          ∙ ap (λ xs. lines_of 1 n xs ++ lines_of follow.row_behind follow.at_behind (parts.0 ∷ parts.1)) (sym (cut []))
          ∙ ap (λ xs. lines (before ++ 10 ∷ []) ++ lines_of follow.row_behind follow.at_behind xs) (sym parts.2);
    }
