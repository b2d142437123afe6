-- Plain marks of different candidates are ranked as they stand.
use Rattle.std.proofs.Common.{◌≡◌, ◌≢◌, ℕ, suc, ◌<◌, ◌==◌, ◌||◌, Bool, true, false, List, [], ◌∷◌, ◌++◌}
use Rattle.std.proofs.Common.{length, map, get_or}
use Rattle.std.proofs.Common.{AllPairs, Some, refl, ap, sym, ◌∙◌, subst, arith, append_assoc}
use Rattle.std.proofs.lemmas.Bool.{eqb-true}
use Rattle.std.proofs.Math.Seq.{get_or-append_seam}
use Rattle.std.proofs.lemmas.List.{get_or_append_left, length-append, map-append}
use Rattle.ballot_marks.specs.declared.mark.Mark.{Mark}
use Rattle.ballot_marks.specs.Marks.{is_among, plain_mark, said}
use Rattle.ballot_marks.specs.Ballot.{Judged, effective, end_way, ranks_of, unless_refused}
use Rattle.ballot_marks.specs.Laws.{PlainMarksAreRanked}
use Rattle.ballot_marks.proofs.JudgedLemmas.{judged-behind, judged_behind}
use Rattle.ballot_marks.proofs.PlainLemmas.{ArePlain, plain_are_ranked}

said_plainly : (ranks : List ℕ) → said (map plain_mark ranks) ≡ ranks
said_plainly [] = refl
said_plainly (c ∷ ranks) = ap (λ (l : List ℕ). c ∷ l) (said_plainly ranks)

unlike : (d c : ℕ) (b : Bool) (rest : Bool) → (d == c) ≡ b → d ≢ c → rest ≡ false → (b || rest) ≡ false
unlike d c true rest is other none = absurd (other (eqb-true d c is))
unlike d c false rest is other none = none

-- who is none of some is not among them
not_among : (front : List ℕ) (c : ℕ) → ((i : ℕ) → i < length front → get_or front i 0 ≢ c) → is_among front c ≡ false
not_among [] c none = refl
not_among (d ∷ front) c none =
    unlike d c (d == c) (is_among front c) refl (none 0 (omega arith))
    (not_among front c (λ i below. none (suc i) (omega (arith, below))))

-- a candidate is unlike those before it
new : (front ranks : List ℕ) (c : ℕ) → AllPairs (λ a b. a ≢ b) (front ++ c ∷ ranks) → is_among front c ≡ false
new front ranks c different =
    let here : get_or (front ++ c ∷ ranks) (length front) 0 ≡ c =
    get_or-append_seam front c ranks 0 in
    not_among front c (λ i below same.
    different i (length front) 0 below (omega (arith, length-append front (c ∷ ranks)))
    (get_or_append_left front (c ∷ ranks) 0 i below ∙ same ∙ sym here))

are_plain : (front ranks : List ℕ) → AllPairs (λ a b. a ≢ b) (front ++ ranks)
    → ArePlain (map plain_mark front) (map plain_mark ranks)
are_plain front [] different = tt
are_plain front (c ∷ ranks) different =
    let more = subst (AllPairs (λ a b. a ≢ b)) (sym (append_assoc front (c ∷ []) ranks)) different in (
      record {
        none_skipped = refl;
        candidate = c;
        one = refl;
        new = ap (λ (l : List ℕ). is_among l c) (said_plainly front) ∙ new front ranks c different;
      },
      subst (λ (ms : List Mark). ArePlain ms (map plain_mark ranks)) (map-append plain_mark front (c ∷ []))
          (are_plain (front ++ c ∷ []) ranks more),
    )

pub plain_marks_are_ranked : PlainMarksAreRanked
plain_marks_are_ranked t ranks different =
    let marks = map plain_mark ranks in
    let are = plain_are_ranked t [] marks (are_plain [] ranks different) in
    ap (λ (js : List Judged). unless_refused (end_way js) (ranks_of (effective js))) (judged-behind t marks)
    ∙ ap (λ w. unless_refused w (ranks_of (effective (judged_behind t [] marks)))) are.last
    ∙ ap Some (are.ranks ∙ said_plainly ranks)
