-- No candidate is ranked twice.
use Rattle.std.proofs.Common.{◌≡◌, ◌≢◌, ℕ, Bool, false, ◌||◌, List, [], ◌∷◌, ◌++◌, get_or, Option, Some, None}
use Rattle.std.proofs.Common.{All, refl, ap, sym, ◌∙◌, subst, arith, eq-eqb}
use Rattle.std.specs.List.{AllPairs}
use Rattle.std.proofs.lemmas.Bool.{false≢true}
use Rattle.std.proofs.lemmas.List.Elements.{All-cons}
use Rattle.std.proofs.lemmas.List.Kept.{AllPairs-cons}
use Rattle.ballot_marks.specs.declared.mark.Mark.{Mark}
use Rattle.ballot_marks.specs.declared.says.Says.{Says}
use Rattle.ballot_marks.specs.declared.says.Says.TheVariants.{One, Over}
use Rattle.ballot_marks.specs.declared.treatment.Treatment.{Treatment}
use Rattle.ballot_marks.specs.declared.way.Way.{Way}
use Rattle.ballot_marks.specs.declared.way.Way.TheVariants.{Ranked, Passed, Cut, Refused}
use Rattle.ballot_marks.specs.Marks.{said, said_by, is_among}
use Rattle.ballot_marks.specs.Ways.{way}
use Rattle.ballot_marks.specs.Ballot.{Judged, judged, effective, end_way, ranks_of, unless_refused, ranked}
use Rattle.ballot_marks.specs.SoFar.{SaysNew}
use Rattle.ballot_marks.proofs.WayLemmas.{said_way_on, ranked_is_new}
use Rattle.ballot_marks.proofs.MarkLemmas.{said-push, among_neither}
use Rattle.ballot_marks.proofs.JudgedLemmas.{with_way, judged-behind, judged_behind, effective-on}
use Rattle.ballot_marks.proofs.JudgedLemmas.{effective-end}

-- Candidates who differ from each other and from those before.
record AreNew (before ranks : List ℕ) : Type 0 where
  apart : All (λ c. is_among before c ≡ false) ranks
  different : AllPairs (λ a b. a ≢ b) ranks

nobody : (before : List ℕ) → AreNew before []
nobody before =
    record
    { apart = λ k d inside. absurd (omega arith); different = λ i j d less inside. absurd (omega arith) }

-- they differ from fewer, too
from_fewer : (before more ranks : List ℕ) → AreNew (before ++ more) ranks → AreNew before ranks
from_fewer before more ranks new = record {
  apart = λ k d inside. (among_neither before more (get_or ranks k d) (new.apart k d inside)).0;
  different = new.different;
}

-- from who is not among one other
not_same : (c e : ℕ) → is_among (c ∷ []) e ≡ false → c ≢ e
not_same c e new same = false≢true (sym new ∙ ap (λ (b : Bool). b || false) (eq-eqb c e same))

one_in_front :
    (before : List ℕ) (s : Says) (ranks : List ℕ) → SaysNew before s → AreNew (before ++ said_by s) ranks
    → AreNew before (said_by s ++ ranks)
one_in_front before Over ranks here new = from_fewer before [] ranks new
one_in_front before (One c) ranks here new =
    let others = from_fewer before (c ∷ []) ranks new in
    record {
      apart = All-cons (λ e. is_among before e ≡ false) c ranks here others.apart;
      different =
          AllPairs-cons (λ a b. a ≢ b) c ranks (λ k d inside.
          not_same c (get_or ranks k d)
          (among_neither before (c ∷ []) (get_or ranks k d) (new.apart k d inside)).1)
          new.different;
    }

one_more :
    (before : List Mark) (m : Mark) (js : List Judged) (w : Way) → (w ≡ Ranked → SaysNew (said before) m.says)
    → AreNew (said before ++ said_by m.says) (ranks_of (effective js))
    → AreNew (said before) (ranks_of (effective (with_way m w ∷ js)))
one_more before m js Ranked here new =
    subst (λ (l : List Judged). AreNew (said before) (ranks_of l))
    (sym (effective-on (with_way m Ranked) js refl))
    (one_in_front (said before) m.says (ranks_of (effective js)) (here refl) new)
one_more before m js Passed here new =
    subst (λ (l : List Judged). AreNew (said before) (ranks_of l))
    (sym (effective-on (with_way m Passed) js refl))
    (from_fewer (said before) (said_by m.says) (ranks_of (effective js)) new)
one_more before m js Cut here new =
    subst (λ (l : List Judged). AreNew (said before) (ranks_of l))
    (sym (effective-end (with_way m Cut) js refl))
    (nobody (said before))
one_more before m js (Refused why) here new =
    subst (λ (l : List Judged). AreNew (said before) (ranks_of l))
    (sym (effective-end (with_way m (Refused why)) js refl))
    (nobody (said before))

all_new :
    (t : Treatment) (before ms : List Mark)
    → AreNew (said before) (ranks_of (effective (judged_behind t before ms)))
all_new t before [] = nobody (said before)
all_new t before (m ∷ ms) =
    let later = ranks_of (effective (judged_behind t (before ++ m ∷ []) ms)) in
    one_more before m (judged_behind t (before ++ m ∷ []) ms) (way t before m)
    (λ is. ranked_is_new t (said before) m.says (said_way_on t (said before) m Ranked is refl))
    (subst (λ (l : List ℕ). AreNew l later) (said-push before m) (all_new t (before ++ m ∷ []) ms))

-- what is ranked unless the ballot is refused
pub ranked_is : (last : Option Way) (rs ranks : List ℕ) → unless_refused last rs ≡ Some ranks → rs ≡ ranks
ranked_is None rs ranks is = cc
ranked_is (Some Ranked) rs ranks is = cc
ranked_is (Some Passed) rs ranks is = cc
ranked_is (Some Cut) rs ranks is = cc
ranked_is (Some (Refused why)) rs ranks is = absurd cc

pub ranked_different :
    (t : Treatment) (marks : List Mark) (ranks : List ℕ) → ranked t marks ≡ Some ranks
    → AllPairs (λ a b. a ≢ b) ranks
ranked_different t marks ranks is =
    let js = judged t marks in
    let same : ranks_of (effective (judged_behind t [] marks)) ≡ ranks =
    ap (λ (l : List Judged). ranks_of (effective l)) (sym (judged-behind t marks))
    ∙ ranked_is (end_way js) (ranks_of (effective js)) ranks is in
    subst (AllPairs (λ a b. a ≢ b)) same (all_new t [] marks).different
