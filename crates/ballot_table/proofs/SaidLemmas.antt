-- What the ranks of a row say, one rank after another.
use Rattle.std.proofs.Common.{◌≡◌, ℕ, zero, suc, ◌+◌, ◌-◌, List, [], ◌∷◌, ◌++◌, map, length, option_to_list}
use Rattle.std.proofs.Common.{Option, Some, None, replicate, refl, ap, sym, ◌∙◌, arith, append_assoc}
use Rattle.std.specs.List.{filter_map, enumerate_from, cons_option}
use Rattle.std.proofs.lemmas.List.{append-nil, length-append, length-replicate, map-append}
use Rattle.std.proofs.lemmas.List.Elements.{filter_map-append}
use Rattle.ballot_marks.specs.declared.mark.Mark.{Mark}
use Rattle.ballot_marks.specs.declared.says.Says.{Says}
use Rattle.ballot_table.specs.Rows.{said_of, by_rank, marks_behind, marks_of}
use Rattle.ballot_table.specs.Said.{SaidList, last_behind, IsSaying}
use Rattle.ballot_table.proofs.HeldLemmas.{enumerate_push}

-- one rank more
said_more : (says : List (Option Says)) (s : Option Says)
    → by_rank (says ++ s ∷ []) ≡ by_rank says ++ option_to_list (said_of (1 + length says, s))
said_more says s =
    ap (filter_map said_of) (enumerate_push 1 says s)
    ∙ filter_map-append said_of (enumerate_from 1 says) ((1 + length says, s) ∷ [])
    ∙ ap (λ l. by_rank says ++ l) (one (said_of (1 + length says, s)))
  where
    one : (o : Option (ℕ × Says)) → cons_option o [] ≡ option_to_list o
    one None = refl
    one (Some x) = refl

last_more : (last : ℕ) (said : List (ℕ × Says)) (rank : ℕ) (s : Says)
    → last_behind last (said ++ (rank, s) ∷ []) ≡ rank
last_more last [] rank s = refl
last_more last ((q, t) ∷ said) rank s = last_more q said rank s

marks_more : (last : ℕ) (said : List (ℕ × Says)) (rank : ℕ) (s : Says)
    → marks_behind last (said ++ (rank, s) ∷ [])
    ≡ marks_behind last said ++ record { skipped = rank - last_behind last said - 1; says = s } ∷ []
marks_more last [] rank s = refl
marks_more last ((q, t) ∷ said) rank s =
    ap (λ (l : List Mark). record { skipped = q - last - 1; says = t } ∷ l) (marks_more q said rank s)

-- a blank rank
pub said_none : (says : List (Option Says)) (old new : SaidList) → IsSaying says old → new.count ≡ old.count + 1
    → new.last ≡ old.last → new.ranks ≡ old.ranks → new.marks ≡ old.marks → IsSaying (says ++ None ∷ []) new
said_none says old new is count last ranks marks =
    let same : by_rank says ≡ by_rank (says ++ None ∷ []) = sym (said_more says None ∙ append-nil (by_rank says)) in
    record {
      count = count ∙ ap (λ (n : ℕ). n + 1) is.count ∙ sym (length-append says (None ∷ []));
      last = last ∙ is.last ∙ ap (last_behind 0) same;
      ranks = ranks ∙ is.ranks ∙ ap (map (λ (s : ℕ × Says). s.0)) same;
      marks = marks ∙ is.marks ∙ ap marks_of same;
    }

-- so many blank ranks
by_rank_blanks : (says : List (Option Says)) (n : ℕ) → by_rank (says ++ replicate n None) ≡ by_rank says
by_rank_blanks says zero = ap by_rank (append-nil says)
by_rank_blanks says (suc n) =
    ap by_rank (sym (append_assoc says (None ∷ []) (replicate n None)))
    ∙ by_rank_blanks (says ++ None ∷ []) n ∙ said_more says None ∙ append-nil (by_rank says)

pub said_blanks : (says : List (Option Says)) (n : ℕ) (old new : SaidList) → IsSaying says old → new.count ≡ old.count + n
    → new.last ≡ old.last → new.ranks ≡ old.ranks → new.marks ≡ old.marks → IsSaying (says ++ replicate n None) new
said_blanks says n old new is count last ranks marks =
    let same : by_rank says ≡ by_rank (says ++ replicate n None) = sym (by_rank_blanks says n) in
    record {
      count =
          count ∙ ap (λ (m : ℕ). m + n) is.count
          ∙ sym (length-append says (replicate n None) ∙ ap (λ (m : ℕ). length says + m) (length-replicate n None));
      last = last ∙ is.last ∙ ap (last_behind 0) same;
      ranks = ranks ∙ is.ranks ∙ ap (map (λ (s : ℕ × Says). s.0)) same;
      marks = marks ∙ is.marks ∙ ap marks_of same;
    }

-- a rank that isn't blank
pub said_some : (says : List (Option Says)) (s : Says) (old new : SaidList) → IsSaying says old
    → new.count ≡ old.count + 1 → new.last ≡ old.count + 1 → new.ranks ≡ old.ranks ++ (old.count + 1) ∷ []
    → new.marks ≡ old.marks ++ record { skipped = old.count + 1 - old.last - 1; says = s } ∷ []
    → IsSaying (says ++ Some s ∷ []) new
said_some says s old new is count last ranks marks =
    let rank = old.count + 1 in
    let said = by_rank says in
    let here : 1 + length says ≡ rank = let n = is.count in omega (arith, n) in
    let more : by_rank (says ++ Some s ∷ []) ≡ said ++ (rank, s) ∷ [] =
    said_more says (Some s) ∙ ap (λ (n : ℕ). said ++ (n, s) ∷ []) here in
    record {
      count = count ∙ ap (λ (n : ℕ). n + 1) is.count ∙ sym (length-append says (Some s ∷ []));
      last = last ∙ sym (ap (last_behind 0) more ∙ last_more 0 said rank s);
      ranks =
          ranks ∙ ap (λ (l : List ℕ). l ++ rank ∷ []) is.ranks
          ∙ sym (ap (map (λ (x : ℕ × Says). x.0)) more ∙ map-append (λ (x : ℕ × Says). x.0) said ((rank, s) ∷ []));
      marks =
          marks ∙ ap (λ (l : List Mark). l ++ record { skipped = rank - old.last - 1; says = s } ∷ []) is.marks
          ∙ ap (λ (n : ℕ). marks_of said ++ record { skipped = rank - n - 1; says = s } ∷ []) is.last
          ∙ sym (ap marks_of more ∙ marks_more 0 said rank s);
    }
