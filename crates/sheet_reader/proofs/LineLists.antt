-- A text and its lines.
use Rattle.std.proofs.Common.{◌≡◌, ℕ, ◌+◌, ◌-◌, ◌<◌, Bool, true, false, cond, eqb, List, [], ◌∷◌, ◌++◌}
use Rattle.std.proofs.Common.{length, take, get_or, refl, sym, ◌∙◌, ap, subst, arith, append_assoc}
use Rattle.std.proofs.Common.{length-append}
use Rattle.std.specs.Prelude.{◌≢◌, MatchBool}
use Rattle.std.specs.List.{flat_map}
use Rattle.std.proofs.lemmas.Bool.{eqb-true}
use Rattle.std.proofs.Math.Seq.{take-length, get_or-append_seam}
use Rattle.std.proofs.lemmas.Grind.{take_at_read}
use Rattle.sheet_text.specs.Lines.{ended, text_of_lines}
use Rattle.sheet_reader.specs.Cut.{IsWithout}
use Rattle.sheet_reader.specs.LineList.{in_front, lines_in, IsOfLines}
use Rattle.sheet_reader.proofs.Cuts.{first_other}
use Rattle.sheet_reader.proofs.LineLemmas.{AreLines}

pub lines_without : (text : List ℕ) → IsWithout 10 text → lines_in text ≡ []
lines_without [] h = refl
lines_without (b ∷ text) h =
    let o = first_other b 10 text h in
    ap (λ (t : Bool). cond t ([] ∷ lines_in text) (in_front b (lines_in text))) o.0
    ∙ ap (λ (ls : List (List ℕ)). in_front b ls) (lines_without text o.1)

lines_cut : (front back : List ℕ) → IsWithout 10 front → lines_in (front ++ 10 ∷ back) ≡ front ∷ lines_in back
lines_cut [] back h = refl
lines_cut (b ∷ front) back h =
    let o = first_other b 10 front h in
    ap (λ (t : Bool). cond t ([] ∷ lines_in (front ++ 10 ∷ back)) (in_front b (lines_in (front ++ 10 ∷ back)))) o.0
    ∙ ap (λ (ls : List (List ℕ)). in_front b ls) (lines_cut front back o.1)

-- the first line of a text
pub first_line :
    (text front back : List ℕ) → text ≡ front ++ 10 ∷ back → IsWithout 10 front
    → lines_in text ≡ front ∷ lines_in back
first_line text front back is h = ap (λ (t : List ℕ). lines_in t) is ∙ lines_cut front back h

-- lines are read as they were written
pub lines_of_text : (lines : List (List ℕ)) → AreLines lines → lines_in (text_of_lines lines) ≡ lines
unfolding text_of_lines
lines_of_text [] h = refl
lines_of_text (l ∷ lines) h =
    ap (λ (t : List ℕ). lines_in t) (append_assoc l (10 ∷ []) (flat_map ended lines))
    ∙ lines_cut l (flat_map ended lines) h.0
    ∙ ap (λ (ls : List (List ℕ)). l ∷ ls) (lines_of_text lines h.1)

not_empty : (xs : List ℕ) → xs ++ 10 ∷ [] ≡ [] → ⊥
not_empty [] e = absurd cc
not_empty (x ∷ xs) e = absurd cc

-- one byte more in front
of_lines_cons : (b : ℕ) (text : List ℕ) → (text ≡ [] → ⊥) → IsOfLines text → IsOfLines (b ∷ text)
unfolding text_of_lines
of_lines_cons b text some is = by (eqb b 10) refl (lines_in text) refl
  where
    by :
        (t : Bool) → eqb b 10 ≡ t → (ls : List (List ℕ)) → lines_in text ≡ ls
        → b ∷ text ≡ text_of_lines (cond (eqb b 10) ([] ∷ lines_in text) (in_front b (lines_in text)))
    by true e ls h =
        (λ i. eqb-true b 10 e i ∷ is i)
        ∙ sym (ap (λ (t : Bool). text_of_lines (cond t ([] ∷ lines_in text) (in_front b (lines_in text)))) e)
    by false e [] h = absurd (some (is ∙ ap (λ (xs : List (List ℕ)). text_of_lines xs) h))
    by false e (l ∷ ls) h =
        ap (λ (t : List ℕ). b ∷ t) (is ∙ ap (λ (xs : List (List ℕ)). text_of_lines xs) h)
        ∙ sym (ap (λ (t : Bool). text_of_lines (cond t ([] ∷ lines_in text) (in_front b (lines_in text)))) e
        ∙ ap (λ (xs : List (List ℕ)). text_of_lines (in_front b xs)) h)

-- a text that ends with a line feed
of_lines : (front : List ℕ) → IsOfLines (front ++ 10 ∷ [])
unfolding text_of_lines
of_lines [] = refl
of_lines (b ∷ front) = of_lines_cons b (front ++ 10 ∷ []) (not_empty front) (of_lines front)

last_apart : (text : List ℕ) → 0 < length text → text ≡ take (length text - 1) text ++ get_or text (length text - 1) 0 ∷ []
last_apart text some =
    let n = length text - 1 in
    sym (take-length text) ∙ ap (λ (k : ℕ). take k text) {x = length text} {y = n + 1} (omega arith)
    ∙ (take_at_read text n 0 (omega arith)).1

pub ends_with_line :
    (text : List ℕ) (last : ℕ) → 0 < length text → get_or text (length text - 1) 0 ≡ last → last ≡ 10
    → IsOfLines text
ends_with_line text last some is feed =
    let apart = last_apart text some ∙ ap (λ (b : ℕ). take (length text - 1) text ++ b ∷ []) (is ∙ feed) in
    subst (λ (t : List ℕ). IsOfLines t) (sym apart) (of_lines (take (length text - 1) text))

last_of : (front : List ℕ) (k : ℕ) → k ≡ length front → get_or (front ++ 10 ∷ []) k 0 ≡ 10
last_of front k e = ap (λ (j : ℕ). get_or (front ++ 10 ∷ []) j 0) e ∙ get_or-append_seam front 10 [] 0

pub ends_otherwise : (text front : List ℕ) → get_or text (length text - 1) 0 ≢ 10 → text ≢ front ++ 10 ∷ []
ends_otherwise text front not is =
    not (ap (λ (t : List ℕ). get_or t (length t - 1) 0) is
    ∙ last_of front (length (front ++ 10 ∷ []) - 1) (omega (arith, length-append front (10 ∷ []))))

pub no_first_line : (text line : List ℕ) (rest : List (List ℕ)) → IsWithout 10 text → lines_in text ≡ line ∷ rest → ⊥
no_first_line text line rest h is = by (sym (lines_without text h) ∙ is)
  where
    by : [] ≡ line ∷ rest → ⊥
    by e = absurd cc

pub other_first_line :
    (text front back line : List ℕ) (rest : List (List ℕ)) → text ≡ front ++ 10 ∷ back → IsWithout 10 front
    → lines_in text ≡ line ∷ rest → front ≡ line
other_first_line text front back line rest is h e = by (lines_in back) (sym (first_line text front back is h) ∙ e)
  where
    by : (behind : List (List ℕ)) → front ∷ behind ≡ line ∷ rest → front ≡ line
    by behind e = cc

pub first_line_of :
    (text front back line : List ℕ) → text ≡ front ++ 10 ∷ back → IsWithout 10 front → front ≡ line
    → lines_in text ≡ line ∷ lines_in back
first_line_of text front back line is h e = first_line text front back is h ∙ ap (λ (l : List ℕ). l ∷ lines_in back) e

-- whether the last byte of a text is a line feed
pub last_feed :
    (text : List ℕ) (last : ℕ) → 0 < length text → get_or text (length text - 1) 0 ≡ last
    → MatchBool (eqb last 10) (IsOfLines text) ((front : List ℕ) → text ≢ front ++ 10 ∷ [])
last_feed text last some is = by (eqb last 10) refl
  where
    itself : (d : ℕ) → d ≡ 10 → eqb d 10 ≡ false → ⊥
    itself d e n = grind arith

    by : (t : Bool) → eqb last 10 ≡ t → MatchBool t (IsOfLines text) ((front : List ℕ) → text ≢ front ++ 10 ∷ [])
    by true e = ends_with_line text last some is (eqb-true last 10 e)
    by false e = λ front. ends_otherwise text front (λ feed. itself last (sym is ∙ feed) e)
