-- A text that is cut up to its end is its tokens, with separators and comments between them.
use Rattle.std.proofs.Common.{◌≡◌, ℕ, ◌+◌, ◌<◌, ◌≤◌, zero, suc, List, [], ◌∷◌, length, take, drop, get_or}
use Rattle.std.proofs.Common.{Bool, true, false, cond, ◌&&◌, refl, sym, ap, subst, ◌∙◌, arith, length-drop}
use Rattle.std.proofs.Common.{inl, inr}
use Rattle.std.specs.Prelude.{nat_eq}
use Rattle.std.specs.List.{starts_with}
use Rattle.std.proofs.lemmas.Bool.{cases_lt, false≢true}
use Rattle.std.proofs.lemmas.List.{take-append-drop, drop-drop, drop_more, drop_all}
use Rattle.input_text.specs.Token.{Placed, Ending, AtEnd, AtFault, Scan}
use Rattle.input_text.specs.Scan.{Piece, Gap, Lexeme, Wrong, Unclosed, piece, cut, mark_len, scan}
use Rattle.input_text.specs.Spelling.{GoesOver, Nothing, Separator, Comment, IsText}
use Rattle.input_text.proofs.Cutting.{over_gap, over_lexeme, at_wrong, at_unclosed, at_end}
use Rattle.input_text.proofs.SpellingLemmas.{IsPieceOf, piece_is}

-- what goes over to a rest goes over to what that goes over to
goes_over-trans : {mid text rest : List ℕ} → GoesOver mid text → GoesOver rest mid → GoesOver rest text
goes_over-trans Nothing more = more
goes_over-trans (Separator b behind is over) more = Separator b behind is (goes_over-trans over more)
goes_over-trans (Comment line behind passes stops over) more = Comment line behind passes stops (goes_over-trans over more)

-- separators and comments may stand before a text
behind_gap :
    (stop : ℕ) (tokens : List Placed) (text rest : List ℕ) → GoesOver rest text → IsText stop tokens rest
    → IsText stop tokens text
behind_gap stop [] text rest over is = goes_over-trans over is
behind_gap stop (token ∷ tokens) text rest over is = (
  is.0,
  is.1,
  record { gap = goes_over-trans over is.2.gap; spelling = is.2.spelling; place = is.2.place; parted = is.2.parted },
  is.3,
)

abbrev whole : List Placed → (end : ℕ) → Scan
whole tokens end = record { tokens = tokens; ending = AtEnd end }

abbrev is_at_end : Ending → Bool
is_at_end (AtEnd at) = true
is_at_end (AtFault fault) = false

module _ (letters : Bool) (bytes : List ℕ) (end : ℕ) where
  -- from each later place on the text is the tokens that are cut there
  abbrev LaterAre : ℕ → Type 0
  LaterAre at =
      (place : ℕ) (tokens : List Placed) → at < place → place ≤ length bytes → cut letters 0 place bytes ≡ whole tokens end
      → IsText (length bytes) tokens (drop place bytes)

  -- so it is from this place on
  by_piece :
      (at : ℕ) (tokens : List Placed) → at < length bytes → LaterAre at
      → cut letters 0 at bytes ≡ whole tokens end → (p : Piece)
      → piece letters (drop at bytes) ≡ p → IsPieceOf (drop at bytes) p → IsText (length bytes) tokens (drop at bytes)
  by_piece at tokens inside later is (Gap n) found part =
      let within : at + n ≤ length bytes = omega (arith, part.1, length-drop at bytes) in
      let over = over_gap letters bytes at n inside found part.0 within in
      behind_gap (length bytes) tokens (drop at bytes) (drop (at + n) bytes)
      (subst (λ (r : List ℕ). GoesOver r (drop at bytes)) (drop-drop n at bytes) part.2)
      (later (at + n) tokens (omega (arith, part.0)) within (sym over ∙ is))
  by_piece at tokens inside later is (Lexeme item n) found part =
      let text = drop at bytes in
      let within : at + n ≤ length bytes = omega (arith, part.1, length-drop at bytes) in
      let rest = cut letters 0 (at + n) bytes in
      let split = sym (over_lexeme letters bytes at n inside item found part.0 within) ∙ is in
      let listed : record { at = at; item = item } ∷ rest.tokens ≡ tokens = ap (λ (s : Scan). s.tokens) split in
      let ended : rest.ending ≡ AtEnd end = ap (λ (s : Scan). s.ending) split in
      let next : IsText (length bytes) rest.tokens (drop (at + n) bytes) =
      later (at + n) rest.tokens (omega (arith, part.0)) within
      (ap (λ (e : Ending). let s : Scan = record { tokens = rest.tokens; ending = e } in s) ended) in
      subst (λ (ts : List Placed). IsText (length bytes) ts text) listed (
        take n text,
        drop n text,
        record {
          gap = subst (λ (t : List ℕ). GoesOver t text) (sym (take-append-drop n text)) Nothing;
          spelling = part.2;
          place = omega (arith, ap length (take-append-drop n text), length-drop at bytes);
          parted = part.3;
        },
        subst (λ (r : List ℕ). IsText (length bytes) rest.tokens r) (sym (drop-drop n at bytes)) next,
      )
  by_piece at tokens inside later is (Wrong n) found part =
      absurd (false≢true (ap (λ (s : Scan). is_at_end s.ending) (sym (at_wrong letters bytes at n inside found) ∙ is)))
  by_piece at tokens inside later is (Unclosed n) found part =
      absurd (false≢true (ap (λ (s : Scan). is_at_end s.ending) (sym (at_unclosed letters bytes at n inside found) ∙ is)))

  at_its_end :
      (at : ℕ) (tokens : List Placed) → at ≡ length bytes → cut letters 0 at bytes ≡ whole tokens end
      → IsText (length bytes) tokens (drop at bytes)
  at_its_end at tokens last is =
      let none : [] ≡ tokens = ap (λ (s : Scan). s.tokens) (sym (at_end letters bytes at last) ∙ is) in
      subst (λ (ts : List Placed). IsText (length bytes) ts (drop at bytes)) none
      (subst (λ (t : List ℕ). GoesOver [] t) (sym (drop_all at bytes (omega (arith, last)))) Nothing)

  from_place :
      (left at : ℕ) (tokens : List Placed) → at ≤ length bytes → length bytes ≤ at + left
      → cut letters 0 at bytes ≡ whole tokens end → IsText (length bytes) tokens (drop at bytes)
  from_place zero at tokens within fuel is = at_its_end at tokens (omega arith) is
  from_place (suc left) at tokens within fuel is =
      elim (cases_lt at (length bytes)) [
        | inl inside ↦
            by_piece at tokens inside
            (λ place ts further reached cuts. from_place left place ts reached (omega arith) cuts) is
            (piece letters (drop at bytes)) refl
            (subst (λ (xs : List ℕ). IsPieceOf xs (piece letters xs)) (sym (drop_more bytes at 0 inside))
            (piece_is letters (get_or bytes at 0) (drop (at + 1) bytes)))
        | inr past ↦ at_its_end at tokens (omega arith) is
      ]

mark_fits : (t : Bool) (n : ℕ) → 3 ≤ n → cond t 3 0 ≤ n
mark_fits true n long = long
mark_fits false n long = omega arith

no_mark : (a b : Bool) (n : ℕ) → cond (a && (b && false)) 3 0 ≤ n
no_mark true true n = omega arith
no_mark true false n = omega arith
no_mark false b n = omega arith

no_short_mark : (a : Bool) (n : ℕ) → cond (a && false) 3 0 ≤ n
no_short_mark true n = omega arith
no_short_mark false n = omega arith

mark_within : (bytes : List ℕ) → mark_len bytes ≤ length bytes
mark_within [] = omega arith
mark_within (a ∷ []) = no_short_mark (nat_eq 0xEF a) 1
mark_within (a ∷ (b ∷ [])) = no_mark (nat_eq 0xEF a) (nat_eq 0xBB b) 2
mark_within (a ∷ (b ∷ (c ∷ rest))) =
    mark_fits (starts_with nat_eq (a ∷ (b ∷ (c ∷ rest))) (0xEF ∷ 0xBB ∷ 0xBF ∷ []))
    (length (a ∷ (b ∷ (c ∷ rest)))) (omega arith)

pub cuts_to_tokens :
    (bytes : List ℕ) (letters : Bool) (tokens : List Placed) (end : ℕ) → scan bytes letters ≡ whole tokens end
    → IsText (length bytes) tokens (drop (mark_len bytes) bytes)
cuts_to_tokens bytes letters tokens end is =
    from_place letters bytes end (length bytes) (mark_len bytes) tokens (mark_within bytes) (omega arith) is
