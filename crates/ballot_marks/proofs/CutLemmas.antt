-- Where whatever is not plain is cut, a front is left.
use Rattle.std.proofs.Common.{◌≡◌, ℕ, nat_lt, Bool, true, false, cond, List, [], ◌∷◌, ◌++◌, Some, refl, ap}
use Rattle.std.proofs.Common.{sym, ◌∙◌, subst, append_assoc, inl, inr, ◌⊎◌}
use Rattle.ballot_marks.specs.declared.mark.Mark.{Mark}
use Rattle.ballot_marks.specs.declared.says.Says.{Says}
use Rattle.ballot_marks.specs.declared.says.Says.TheVariants.{One, Over}
use Rattle.ballot_marks.specs.declared.way.Way.{Way}
use Rattle.ballot_marks.specs.declared.way.Way.TheVariants.{Ranked, Cut}
use Rattle.ballot_marks.specs.Marks.{said, said_by, is_among}
use Rattle.ballot_marks.specs.Ways.{way, said_way}
use Rattle.ballot_marks.specs.Ballot.{Judged, judged, effective, end_way, ranks_of, unless_refused}
use Rattle.ballot_marks.specs.Laws.{cutting, CutLeavesAFront}
use Rattle.ballot_marks.proofs.JudgedLemmas.{with_way, judged-behind, judged_behind, effective-on}
use Rattle.ballot_marks.proofs.JudgedLemmas.{effective-end}

-- ranked or cut
abbrev IsEither : Way → Type 0
IsEither w = (w ≡ Ranked) ⊎ (w ≡ Cut)

said_either : (again : Bool) → IsEither (cond again Cut Ranked)
said_either true = inr refl
said_either false = inl refl

says_either : (closed : ℕ) (before : List ℕ) (s : Says) → IsEither (said_way (cutting closed) before s)
says_either closed before (One c) = said_either (is_among before c)
says_either closed before Over = inr refl

skips_either :
    (some more : Bool) (other : Way) → IsEither other → IsEither (cond some (cond more Cut other) other)
skips_either true true other either = inr refl
skips_either true false other either = either
skips_either false more other either = either

cutting_either : (closed : ℕ) (before : List Mark) (m : Mark) → IsEither (way (cutting closed) before m)
cutting_either closed before m =
    skips_either (nat_lt 0 m.skipped) (nat_lt closed m.skipped)
    (said_way (cutting closed) (said before) m.says)
    (says_either closed (said before) m.says)

-- Judged marks, none of which is refused, rank a front of the candidates that are said.
record IsFront (ms : List Mark) (js : List Judged) : Type 0 where
  left : List ℕ
  whole : said ms ≡ ranks_of (effective js) ++ left
  accepted : (ranks : List ℕ) → unless_refused (end_way js) ranks ≡ Some ranks

one_more :
    (m : Mark) (ms : List Mark) (js : List Judged) (w : Way) → IsEither w → IsFront ms js
    → IsFront (m ∷ ms) (with_way m w ∷ js)
one_more m ms js w either front =
    let Front : Way → Type 0 = λ (v : Way). IsFront (m ∷ ms) (with_way m v ∷ js) in
    elim either [
      | inl ranked ↦
          let on = effective-on (with_way m Ranked) js refl in
          subst Front (sym ranked) (record {
            left = front.left;
            whole =
                ap (λ (l : List ℕ). said_by m.says ++ l) front.whole
                ∙ (sym (append_assoc (said_by m.says) (ranks_of (effective js)) front.left)
                ∙ ap (λ (l : List Judged). ranks_of l ++ front.left) (sym on));
            accepted = front.accepted;
          })
      | inr cut ↦
          let none = effective-end (with_way m Cut) js refl in
          subst Front (sym cut) (record {
            left = said (m ∷ ms);
            whole = ap (λ (l : List Judged). ranks_of l ++ said (m ∷ ms)) (sym none);
            accepted = λ ranks. refl;
          })
    ]

front_of : (closed : ℕ) (before ms : List Mark) → IsFront ms (judged_behind (cutting closed) before ms)
front_of closed before [] = record { left = []; whole = refl; accepted = λ ranks. refl }
front_of closed before (m ∷ ms) =
    one_more m ms (judged_behind (cutting closed) (before ++ m ∷ []) ms) (way (cutting closed) before m)
    (cutting_either closed before m) (front_of closed (before ++ m ∷ []) ms)

pub cut_leaves_a_front : CutLeavesAFront
cut_leaves_a_front closed marks =
    let js = judged (cutting closed) marks in
    let front : IsFront marks js =
    subst (IsFront marks) (sym (judged-behind (cutting closed) marks)) (front_of closed [] marks) in
    (ranks_of (effective js), front.left, front.accepted (ranks_of (effective js)), front.whole)
