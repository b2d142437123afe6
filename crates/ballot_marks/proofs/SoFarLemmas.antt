-- What marks come to so far.
use Rattle.std.proofs.Common.{◌≡◌, ℕ, ◌+◌, ◌<◌, ◌≤◌, ◌==◌, nat_lt, Bool, true, false, ◌||◌, List, [], ◌∷◌}
use Rattle.std.proofs.Common.{◌++◌, length, get_or, take, Option, Some, None, Result, Ok, Err, IfErr, refl}
use Rattle.std.proofs.Common.{ap, sym, ◌∙◌, subst, arith, append_assoc, ◌⊎◌, inl, inr}
use Rattle.std.proofs.Math.Bool.{or-false, or-true, or_assoc}
use Rattle.std.proofs.lemmas.Bool.Decides.{eqb_tells}
use Rattle.std.proofs.lemmas.List.{take_more, drop_all, append-nil}
use Rattle.ballot_marks.specs.declared.mark.Mark.{Mark}
use Rattle.ballot_marks.specs.declared.says.Says.{Says}
use Rattle.ballot_marks.specs.declared.says.Says.TheVariants.{One, Over}
use Rattle.ballot_marks.specs.declared.treated.Treated.{Treated}
use Rattle.ballot_marks.specs.declared.treat_stop.TreatStop.{TreatStop}
use Rattle.ballot_marks.specs.declared.treat_stop.TreatStop.TheVariants.{NoMemory}
use Rattle.ballot_marks.specs.declared.treatment.Treatment.{Treatment}
use Rattle.ballot_marks.specs.declared.why.Why.{Why}
use Rattle.ballot_marks.specs.declared.way.Way.{Way}
use Rattle.ballot_marks.specs.declared.way.Way.TheVariants.{Ranked, Passed, Cut, Refused}
use Rattle.ballot_marks.specs.Marks.{said, said_by, is_among}
use Rattle.ballot_marks.specs.Ways.{way, way_behind, goes_on, ends, said_way}
use Rattle.ballot_marks.specs.Ballot.{Judged, judged, effective, end_way, ranks_of, some_closed, some_passed}
use Rattle.ballot_marks.specs.Ballot.{unless_refused, ranked, IsRefusedAt, IsTreatStop}
use Rattle.ballot_marks.specs.SoFar.{Standing, behind}
use Rattle.ballot_marks.proofs.WayLemmas.{said_way_on, passed_is_again, way_behind-same}
use Rattle.ballot_marks.proofs.MarkLemmas.{said-push, is_among-append}
use Rattle.ballot_marks.proofs.JudgedLemmas.{with_way, judged-behind, judged_behind, rest, rest-more}
use Rattle.ballot_marks.proofs.JudgedLemmas.{effective-on, effective-end, end_way-end}

-- What is before a place, with what judged marks from there on come to, is what all come to.
pub record Makes (s : Standing) (p : ℕ) (left all : List Judged) : Type 0 where
  pub ranks : s.ranks ++ ranks_of (effective left) ≡ ranks_of (effective all)
  pub closed : (s.closed || some_closed (effective left)) ≡ some_closed (effective all)
  pub passed : (s.passed || some_passed (effective left)) ≡ some_passed (effective all)
  pub last : end_way left ≡ end_way all
  pub place : p + length (effective left) ≡ length (effective all)

pub Makes-ranked :
    (s : Standing) (p : ℕ) (m : Mark) (left all : List Judged) → Makes s p (with_way m Ranked ∷ left) all
    → Makes (behind s m Ranked) (p + 1) left all
Makes-ranked s p m left all makes =
    let on : effective (with_way m Ranked ∷ left) ≡ with_way m Ranked ∷ effective left =
    effective-on (with_way m Ranked) left refl in
    record {
      ranks =
          append_assoc s.ranks (said_by m.says) (ranks_of (effective left))
          ∙ (ap (λ (js : List Judged). s.ranks ++ ranks_of js) (sym on) ∙ makes.ranks);
      closed =
          or_assoc s.closed (nat_lt 0 m.skipped) (some_closed (effective left))
          ∙ (ap (λ (js : List Judged). s.closed || some_closed js) (sym on) ∙ makes.closed);
      passed = ap (λ (js : List Judged). s.passed || some_passed js) (sym on) ∙ makes.passed;
      last = makes.last;
      place = omega (arith, makes.place, ap (length {A = Judged}) on);
    }

pub Makes-passed :
    (s : Standing) (p : ℕ) (m : Mark) (left all : List Judged) → Makes s p (with_way m Passed ∷ left) all
    → Makes (behind s m Passed) (p + 1) left all
Makes-passed s p m left all makes =
    let on : effective (with_way m Passed ∷ left) ≡ with_way m Passed ∷ effective left =
    effective-on (with_way m Passed) left refl in
    record {
      ranks = ap (λ (js : List Judged). s.ranks ++ ranks_of js) (sym on) ∙ makes.ranks;
      closed =
          or_assoc s.closed (nat_lt 0 m.skipped) (some_closed (effective left))
          ∙ (ap (λ (js : List Judged). s.closed || some_closed js) (sym on) ∙ makes.closed);
      passed =
          sym (or-true s.passed)
          ∙ (ap (λ (js : List Judged). s.passed || some_passed js) (sym on) ∙ makes.passed);
      last = makes.last;
      place = omega (arith, makes.place, ap (length {A = Judged}) on);
    }

-- What is at the place where the ballot ends.
pub record IsEnd (s : Standing) (p : ℕ) (last : Option Way) (all : List Judged) : Type 0 where
  pub ranks : ranks_of (effective all) ≡ s.ranks
  pub closed : s.closed ≡ some_closed (effective all)
  pub passed : s.passed ≡ some_passed (effective all)
  pub last_is : end_way all ≡ last
  pub place : p ≡ length (effective all)

ended :
    (s : Standing) (p : ℕ) (left all : List Judged) → Makes s p left all → effective left ≡ []
    → IsEnd s p (end_way left) all
ended s p left all makes none = record {
  ranks = sym makes.ranks ∙ (ap (λ (js : List Judged). s.ranks ++ ranks_of js) none ∙ append-nil s.ranks);
  closed =
      sym (or-false s.closed)
      ∙ (ap (λ (js : List Judged). s.closed || some_closed js) (sym none) ∙ makes.closed);
  passed =
      sym (or-false s.passed)
      ∙ (ap (λ (js : List Judged). s.passed || some_passed js) (sym none) ∙ makes.passed);
  last_is = sym makes.last;
  place = omega (arith, makes.place, ap (length {A = Judged}) none);
}

-- What is before a place stands for the marks before it.
pub record IsSoFar (t : Treatment) (marks : List Mark) (p : ℕ) (s : Standing) : Type 0 where
  pub same : (c : ℕ) → is_among (said (take p marks)) c ≡ is_among s.ranks c
  pub makes : Makes s p (rest t marks p) (judged t marks)

pub so_far_begun :
    (t : Treatment) (marks : List Mark) (n : ℕ)
    → IsSoFar t marks 0 (record { candidates = n; ranks = []; closed = false; passed = false })
so_far_begun t marks n =
    let all : rest t marks 0 ≡ judged t marks = sym (judged-behind t marks) in
    record {
      same = λ c. refl;
      makes = record {
        ranks = ap (λ (js : List Judged). ranks_of (effective js)) all;
        closed = ap (λ (js : List Judged). some_closed (effective js)) all;
        passed = ap (λ (js : List Judged). some_passed (effective js)) all;
        last = ap end_way all;
        place = omega (arith, ap (λ (js : List Judged). length (effective js)) all);
      };
    }

said-more :
    (marks : List Mark) (p : ℕ) (d : Mark) (c : ℕ) → p < length marks
    → is_among (said (take (p + 1) marks)) c
    ≡ (is_among (said (take p marks)) c || is_among (said_by (get_or marks p d).says) c)
said-more marks p d c below =
    let m = get_or marks p d in
    ap (λ (l : List Mark). is_among (said l) c) (take_more marks p d below)
    ∙ (ap (λ (l : List ℕ). is_among l c) (said-push (take p marks) m)
    ∙ is_among-append (said (take p marks)) (said_by m.says) c)

-- saying again who was said adds nobody
again :
    (before : List ℕ) (says : Says) (c : ℕ) → ((e : ℕ) → says ≡ One e → is_among before e ≡ true)
    → (is_among before c || is_among (said_by says) c) ≡ is_among before c
again before Over c known = or-false (is_among before c)
again before (One e) c known =
    elim (eqb_tells e c) [
      | inl here ↦
          let found : is_among before c ≡ true =
          subst (λ (k : ℕ). is_among before k ≡ true) here.1 (known e refl) in
          ap (λ (b : Bool). b || (e == c || false)) found ∙ sym found
      | inr other ↦
          ap (λ (b : Bool). is_among before c || (b || false)) other.0 ∙ or-false (is_among before c)
    ]

pub behind-candidates : (s : Standing) (m : Mark) (w : Way) → (behind s m w).candidates ≡ s.candidates
behind-candidates s m Ranked = refl
behind-candidates s m Passed = refl
behind-candidates s m Cut = refl
behind-candidates s m (Refused why) = refl

module _ (t : Treatment) (marks : List Mark) (p : ℕ) (d : Mark) (s : Standing) where
  pub way_at : (w : Way) → IsSoFar t marks p s → w ≡ way_behind t s.ranks (get_or marks p d)
      → way t (take p marks) (get_or marks p d) ≡ w
  way_at w so_far is = way_behind-same t (said (take p marks)) s.ranks (get_or marks p d) so_far.same ∙ sym is

  -- with the mark at the place judged, and what is left
  next : (w : Way) → p < length marks → IsSoFar t marks p s → way t (take p marks) (get_or marks p d) ≡ w
      → Makes s p (with_way (get_or marks p d) w ∷ rest t marks (p + 1)) (judged t marks)
  next w below so_far is =
      subst (λ (js : List Judged). Makes s p js (judged t marks))
      (rest-more t marks p d below
      ∙ ap (λ (v : Way). with_way (get_or marks p d) v ∷ rest t marks (p + 1)) is) so_far.makes

  so_far_ranked : p < length marks → IsSoFar t marks p s → way t (take p marks) (get_or marks p d) ≡ Ranked
      → IsSoFar t marks (p + 1) (behind s (get_or marks p d) Ranked)
  so_far_ranked below so_far is =
      let m = get_or marks p d in
      record {
        same = λ c.
            said-more marks p d c below
            ∙ (ap (λ (b : Bool). b || is_among (said_by m.says) c) (so_far.same c)
            ∙ sym (is_among-append s.ranks (said_by m.says) c));
        makes = Makes-ranked s p m (rest t marks (p + 1)) (judged t marks) (next Ranked below so_far is);
      }

  so_far_passed : p < length marks → IsSoFar t marks p s → way t (take p marks) (get_or marks p d) ≡ Passed
      → IsSoFar t marks (p + 1) (behind s (get_or marks p d) Passed)
  so_far_passed below so_far is =
      let m = get_or marks p d in
      let before = said (take p marks) in
      let passed : said_way t before m.says ≡ Passed = said_way_on t before m Passed is refl in
      record {
        same = λ c.
            said-more marks p d c below
            ∙ (again before m.says c (λ e one. passed_is_again t before e
            (subst (λ (y : Says). said_way t before y ≡ Passed) one passed))
            ∙ so_far.same c);
        makes = Makes-passed s p m (rest t marks (p + 1)) (judged t marks) (next Passed below so_far is);
      }

  -- a mark is taken in
  pub so_far_on : (w : Way) → (w ≡ Ranked) ⊎ (w ≡ Passed) → p < length marks → IsSoFar t marks p s
      → w ≡ way_behind t s.ranks (get_or marks p d) → IsSoFar t marks (p + 1) (behind s (get_or marks p d) w)
  so_far_on w one below so_far is =
      let at = way_at w so_far is in
      let Next : Way → Type 0 = λ (v : Way). IsSoFar t marks (p + 1) (behind s (get_or marks p d) v) in
      elim one [
        | inl ranked ↦ subst Next (sym ranked) (so_far_ranked below so_far (at ∙ ranked))
        | inr passed ↦ subst Next (sym passed) (so_far_passed below so_far (at ∙ passed))
      ]

  -- a mark ends the ballot
  pub ended_at : (w : Way) → goes_on w ≡ false → ends w ≡ true → p < length marks → IsSoFar t marks p s
      → way t (take p marks) (get_or marks p d) ≡ w → IsEnd s p (Some w) (judged t marks)
  ended_at w stops ending below so_far is =
      let m = get_or marks p d in
      let left = with_way m w ∷ rest t marks (p + 1) in
      subst (λ (l : Option Way). IsEnd s p l (judged t marks))
      (end_way-end (with_way m w) (rest t marks (p + 1)) ending)
      (ended s p left (judged t marks) (next w below so_far is)
      (effective-end (with_way m w) (rest t marks (p + 1)) stops))

  -- no mark does
  pub ended_behind_all : length marks ≤ p → IsSoFar t marks p s → IsEnd s p None (judged t marks)
  ended_behind_all all so_far =
      let none : rest t marks p ≡ [] =
      ap (λ (l : List Mark). judged_behind t (take p marks) l) (drop_all p marks all) in
      ended s p [] (judged t marks)
      (subst (λ (js : List Judged). Makes s p js (judged t marks)) none so_far.makes) refl

module _ (t : Treatment) (marks : List Mark) (s : Standing) (p : ℕ) where
  -- what is in the end is ranked, unless the ballot is refused
  pub ranked_in_end :
      (last : Option Way) → IsEnd s p last (judged t marks) → ranked t marks ≡ unless_refused last s.ranks
  ranked_in_end last end =
      ap (λ (l : Option Way). unless_refused l (ranks_of (effective (judged t marks)))) end.last_is
      ∙ ap (unless_refused last) end.ranks

  pub refused_in_end :
      (why : Why) → IsEnd s p (Some (Refused why)) (judged t marks) → IsRefusedAt t marks p why
  refused_in_end why end = record { first = end.place; refused = end.last_is }

-- where marks have a ranking, memory may be wanted
pub only_memory :
    (t : Treatment) (marks : List Mark) (ranks : List ℕ) (r : Result Treated TreatStop)
    → ranked t marks ≡ Some ranks
    → IfErr r (λ stop. stop ≡ NoMemory) → IfErr r (IsTreatStop t marks)
only_memory t marks ranks (Ok treated) is wanted = tt
only_memory t marks ranks (Err stop) is wanted = subst (IsTreatStop t marks) (sym wanted) (ranks, is)
