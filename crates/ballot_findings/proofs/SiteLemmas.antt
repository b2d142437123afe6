-- Marks of names, one more at a time.
use Rattle.std.proofs.Common.{◌≡◌, ◌∙◌, ℕ, zero, suc, ◌+◌, ◌-◌, ◌≤◌, List, [], ◌∷◌, ◌++◌, drop, get_or}
use Rattle.std.proofs.Common.{ap, arith, refl, sym, subst, inl, inr}
use Rattle.std.specs.Prelude.{slice_index}
use Rattle.std.proofs.lemmas.Bool.{cases_eq}
use Rattle.std.proofs.lemmas.List.{get_or_append_left, get_or_push, length-append}
use Rattle.input_text.specs.Token.{Placed}
use Rattle.ballot_findings.specs.declared.mark.Mark.{Mark}
use Rattle.ballot_findings.specs.Places.{IsMarkOf}
use Rattle.ballot_findings.specs.Sites.{AreNameMarks, name_at, places, strings, tokens_of}

-- the place of the first token that is left is that of the token after those that were passed
pub place_behind : (n : ℕ) (tokens : List Placed) → slice_index (places (drop n tokens)) 0 ≡ slice_index (places tokens) n
place_behind zero [] = refl
place_behind zero (token ∷ tokens) = refl
place_behind (suc n) [] = refl
place_behind (suc n) (token ∷ tokens) = place_behind n tokens

-- the next name
pub name_behind :
    (input : List ℕ) (n : ℕ) (left : List Placed) → left ≡ drop n (strings (tokens_of input))
    → slice_index (places left) 0 ≡ name_at input (n + 1)
name_behind input n left same =
    ap (λ (l : List Placed). slice_index (places l) 0) same
    ∙ (place_behind n (strings (tokens_of input))
    ∙ ap (slice_index (places (strings (tokens_of input)))) (let e : n ≡ n + 1 - 1 = omega arith in e))

-- one mark more
pub marks_more :
    (input : List ℕ) (n : ℕ) (marks new : List Mark) (mark : Mark) → AreNameMarks input n marks
    → new ≡ marks ++ mark ∷ []
    → IsMarkOf input (name_at input (n + 1)) mark → AreNameMarks input (n + 1) new
marks_more input n marks new mark are same is =
    let more : AreNameMarks input (n + 1) (marks ++ mark ∷ []) = record {
      all = omega (arith, are.all, length-append marks (mark ∷ []));
      each = λ c d from below.
          elim (cases_eq c (n + 1)) [
            | inl last ↦
                let place : c - 1 ≡ n = omega (arith, last) in
                let here : get_or (marks ++ mark ∷ []) (c - 1) d ≡ mark =
                get_or_push marks mark d (c - 1) (are.all ∙ sym place) in
                subst (IsMarkOf input (name_at input c)) (sym here)
                (subst (λ (k : ℕ). IsMarkOf input (name_at input k) mark) (sym last) is)
            | inr other ↦
                let before : c ≤ n = omega (arith, below, other) in
                let there : get_or (marks ++ mark ∷ []) (c - 1) d ≡ get_or marks (c - 1) d =
                get_or_append_left marks (mark ∷ []) d (c - 1) (omega (arith, before, from, are.all)) in
                subst (IsMarkOf input (name_at input c)) (sym there) (are.each c d from before)
          ];
    } in
    subst (AreNameMarks input (n + 1)) (sym same) more
