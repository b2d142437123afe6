-- The first line `end` after which a text may be over, in a text that is built up line by line from its last.
use Rattle.std.proofs.Common.{◌≡◌, inl, inr, ℕ, ◌+◌, ◌<◌, List, [], ◌∷◌, ◌++◌, All, length, drop, codes}
use Rattle.std.proofs.Common.{refl, sym, ap, subst, ◌∙◌, arith, append_assoc, length-append, drop_at}
use Rattle.std.specs.List.{flat_map}
use Rattle.std.proofs.lemmas.List.Elements.{All-head, All-tail}
use Rattle.sheet_text.specs.Lines.{ended}
use Rattle.sheet_reader.specs.Cut.{IsWithout}
use Rattle.sheet_check.specs.Input.{HasEndAt}
use Rattle.day_text.specs.SheetParts.{IsInner}
use Rattle.day_audit.proofs.LineEnds.{ended_length, drop_ended, end_after, EndsIn, end_in}

-- what may come after the last line of a text
module _ (MayFollow : List ℕ → Type 0) where
  -- a line `end` after which the text may be over
  pub record IsOver (input : List ℕ) (at : ℕ) : Type 0 where
    pub stands : HasEndAt input at
    pub follows : MayFollow (drop (at + 4) input)

  -- The first such line is the last of the text, where this file is after it.
  pub record IsOverFirst (text file : List ℕ) : Type 0 where
    pub at : ℕ
    pub long : at + 4 ≡ length text
    pub over : IsOver (text ++ file) at
    pub none_before : (k : ℕ) → k < at → ¬ IsOver (text ++ file) k

  -- the last line alone
  pub last_line : (file : List ℕ) → MayFollow file → IsOverFirst (ended (codes "end")) file
  last_line file may = record {
    at = 0;
    long = refl;
    over = record { stands = record { starts = inl refl; is_end = refl }; follows = may };
    none_before = λ k below is. omega (arith, below);
  }

  over_after : (line rest : List ℕ) (j : ℕ) → IsOver rest j → IsOver (ended line ++ rest) (length (ended line) + j)
  over_after line rest j there =
      let at : length (ended line) + j + 4 ≡ length (ended line) + (j + 4) = omega arith in
      record {
        stands = end_after line rest j there.stands;
        follows =
            subst MayFollow
            (sym (ap (λ (k : ℕ). drop k (ended line ++ rest)) at ∙ drop_ended line rest (j + 4))) there.follows;
      }

  -- A line more is before them, with no line feed in it. Where it is `end` the text has to go on.
  module _ (line text file : List ℕ) (none : IsWithout 10 line) (goes_on : line ≡ codes "end" → ¬ MayFollow (text ++ file))
      (first : IsOverFirst text file) where
    abbrev rest : List ℕ
    rest = text ++ file

    no_other :
        (k : ℕ) → k < length (ended line) + first.at → EndsIn line rest k → MayFollow (drop (k + 4) (ended line ++ rest)) → ⊥
    no_other k below (inl (at, is)) may =
        let three : length (codes "end") ≡ 3 = refl in
        let long : length (ended line) ≡ k + 4 = omega (arith, at, ended_length line, ap length is, three) in
        goes_on is (subst MayFollow (drop_at (ended line) rest (k + 4) long) may)
    no_other k below (inr (j, at, stands)) may =
        let sum : k + 4 ≡ length (ended line) + (j + 4) = omega (arith, at) in
        first.none_before j (omega (arith, below, at)) (record {
          stands = stands;
          follows =
              subst MayFollow (ap (λ (i : ℕ). drop i (ended line ++ rest)) sum ∙ drop_ended line rest (j + 4)) may;
        })

    pub one_line_more : IsOverFirst (ended line ++ text) file
    one_line_more =
        let same : (ended line ++ text) ++ file ≡ ended line ++ rest = append_assoc (ended line) text file in
        let at : ℕ = length (ended line) + first.at in
        record {
          at = at;
          long = omega (arith, first.long, length-append (ended line) text);
          over = subst (λ (t : List ℕ). IsOver t at) (sym same) (over_after line rest first.at first.over);
          none_before = λ k below is.
              let here : IsOver (ended line ++ rest) k = subst (λ (t : List ℕ). IsOver t k) same is in
              no_other k below (end_in line rest k none here.stands) here.follows;
        }

  -- lines more, of which none is `end`
  pub lines_more :
      (lines : List (List ℕ)) (text file : List ℕ) → All IsInner lines → IsOverFirst text file
      → IsOverFirst (flat_map ended lines ++ text) file
  lines_more [] text file inner first = first
  lines_more (line ∷ lines) text file inner first =
      let own = All-head IsInner line lines inner in
      subst (λ (t : List ℕ). IsOverFirst t file) (sym (append_assoc (ended line) (flat_map ended lines) text))
      (one_line_more line (flat_map ended lines ++ text) file own.whole (λ is. absurd (own.other is))
      (lines_more lines text file (All-tail IsInner line lines inner) first))
