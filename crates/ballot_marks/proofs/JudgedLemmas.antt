-- Judged marks, one after another.
use Rattle.std.proofs.Common.{◌≡◌, ℕ, ◌+◌, ◌<◌, Bool, true, false, cond, List, [], ◌∷◌, ◌++◌, length, get_or}
use Rattle.std.proofs.Common.{take, drop, map, Some, refl, ap, sym, ◌∙◌, arith, append_assoc}
use Rattle.std.specs.List.{enumerate_from}
use Rattle.std.proofs.Math.Seq.{take-append_seam}
use Rattle.std.proofs.lemmas.List.{take_more, drop_more, length_push}
use Rattle.std.proofs.lemmas.List.Sums.{take_while-cons}
use Rattle.ballot_marks.specs.declared.mark.Mark.{Mark}
use Rattle.ballot_marks.specs.declared.treatment.Treatment.{Treatment}
use Rattle.ballot_marks.specs.declared.way.Way.{Way}
use Rattle.ballot_marks.specs.Ways.{goes_on, ends}
use Rattle.ballot_marks.specs.Ballot.{Judged, judge, judged, effective, end_way}

abbrev pub with_way : Mark → Way → Judged
with_way m w = record { mark = m; way = w }

-- marks that stand after others, with their ways
abbrev pub judged_behind : Treatment → List Mark → List Mark → List Judged
judged_behind t before [] = []
judged_behind t before (m ∷ ms) = judge t before m ∷ judged_behind t (before ++ m ∷ []) ms

judged_from :
    (t : Treatment) (all before ms : List Mark) (n : ℕ) → all ≡ before ++ ms → n ≡ length before
    → map (λ m. judge t (take m.0 all) m.1) (enumerate_from n ms) ≡ judged_behind t before ms
judged_from t all before [] n is at = refl
judged_from t all before (m ∷ ms) n is at =
    let here : take n all ≡ before =
    ap (λ (k : ℕ). take k all) at
    ∙ (ap (λ (l : List Mark). take (length before) l) is ∙ take-append_seam before (m ∷ ms)) in
    let later :
    map (λ m. judge t (take m.0 all) m.1) (enumerate_from (n + 1) ms)
    ≡ judged_behind t (before ++ m ∷ []) ms =
    judged_from t all (before ++ m ∷ []) ms (n + 1) (is ∙ sym (append_assoc before (m ∷ []) ms))
    (omega (arith, at, length_push before m)) in
    ap (λ (b : List Mark). judge t b m ∷ map (λ m. judge t (take m.0 all) m.1) (enumerate_from (n + 1) ms))
    here
    ∙ ap (λ (js : List Judged). judge t before m ∷ js) later

pub judged-behind : (t : Treatment) (marks : List Mark) → judged t marks ≡ judged_behind t [] marks
judged-behind t marks = judged_from t marks [] marks 0 refl refl

-- the marks from a place on, with their ways
abbrev pub rest : Treatment → List Mark → ℕ → List Judged
rest t marks p = judged_behind t (take p marks) (drop p marks)

pub rest-more :
    (t : Treatment) (marks : List Mark) (p : ℕ) (d : Mark) → p < length marks
    → rest t marks p ≡ judge t (take p marks) (get_or marks p d) ∷ rest t marks (p + 1)
rest-more t marks p d below =
    let m = get_or marks p d in
    ap (λ (ms : List Mark). judged_behind t (take p marks) ms) (drop_more marks p d below)
    ∙ ap (λ (b : List Mark). judge t (take p marks) m ∷ judged_behind t b (drop (p + 1) marks))
    (sym (take_more marks p d below))

pub effective-on :
    (j : Judged) (js : List Judged) → goes_on j.way ≡ true → effective (j ∷ js) ≡ j ∷ effective js
effective-on j js on =
    take_while-cons (λ (i : Judged). goes_on i.way) j js ∙ ap (λ (b : Bool). cond b (j ∷ effective js) []) on

pub effective-end : (j : Judged) (js : List Judged) → goes_on j.way ≡ false → effective (j ∷ js) ≡ []
effective-end j js on =
    take_while-cons (λ (i : Judged). goes_on i.way) j js ∙ ap (λ (b : Bool). cond b (j ∷ effective js) []) on

pub end_way-on : (j : Judged) (js : List Judged) → ends j.way ≡ false → end_way (j ∷ js) ≡ end_way js
end_way-on j js on = ap (λ (b : Bool). cond b (Some j.way) (end_way js)) on

pub end_way-end : (j : Judged) (js : List Judged) → ends j.way ≡ true → end_way (j ∷ js) ≡ Some j.way
end_way-end j js on = ap (λ (b : Bool). cond b (Some j.way) (end_way js)) on
