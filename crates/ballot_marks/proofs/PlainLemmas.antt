-- Marks that are all plain.
use Rattle.std.proofs.Common.{◌≡◌, ℕ, nat_lt, Bool, true, false, cond, ◌||◌, List, [], ◌∷◌, ◌++◌, length, suc}
use Rattle.std.proofs.Common.{Option, Some, None, All, refl, ap, sym, ◌∙◌, subst, arith, inl, inr, ◌⊎◌}
use Rattle.std.proofs.lemmas.Bool.Decides.{leb_tells}
use Rattle.std.proofs.lemmas.List.Elements.{All-cons}
use Rattle.ballot_marks.specs.declared.mark.Mark.{Mark}
use Rattle.ballot_marks.specs.declared.says.Says.{Says}
use Rattle.ballot_marks.specs.declared.says.Says.TheVariants.{One, Over}
use Rattle.ballot_marks.specs.declared.treatment.Treatment.{Treatment}
use Rattle.ballot_marks.specs.declared.why.Why.{Why}
use Rattle.ballot_marks.specs.declared.why.Why.TheVariants.{SkippedRank, EqualRank, Repeated}
use Rattle.ballot_marks.specs.declared.way.Way.{Way}
use Rattle.ballot_marks.specs.declared.way.Way.TheVariants.{Ranked, Refused}
use Rattle.ballot_marks.specs.Marks.{said, said_by, is_among}
use Rattle.ballot_marks.specs.Ways.{way_behind, said_way, skipped_way, chosen}
use Rattle.ballot_marks.specs.Ballot.{Judged, judged, effective, end_way, ranks_of, some_closed, some_passed}
use Rattle.ballot_marks.specs.Ballot.{unless_refused, ranked, ends_in_cut}
use Rattle.ballot_marks.specs.Laws.{strict, IsWhole, IsPlain}
use Rattle.ballot_marks.proofs.DifferentLemmas.{ranked_is}
use Rattle.ballot_marks.proofs.JudgedLemmas.{with_way, judged-behind, judged_behind, effective-on}

-- A mark that says one candidate, who was not said before, with no skipped rank.
pub record IsPlainMark (before : List ℕ) (m : Mark) : Type 0 where
  pub none_skipped : m.skipped ≡ 0
  pub candidate : ℕ
  pub one : m.says ≡ One candidate
  pub new : is_among before candidate ≡ false

-- it is ranked under any treatment
plain_is_ranked :
    (t : Treatment) (before : List ℕ) (m : Mark) → IsPlainMark before m → way_behind t before m ≡ Ranked
plain_is_ranked t before m plain =
    let other = said_way t before m.says in
    ap (λ (k : ℕ). cond (nat_lt 0 k) (skipped_way t.skipped k other) other) plain.none_skipped
    ∙ (ap (said_way t before) plain.one
    ∙ ap (λ (again : Bool). cond again (chosen t.repeated Repeated) Ranked) plain.new)

-- all marks after others are plain
abbrev pub ArePlain : List Mark → List Mark → Type 0
ArePlain before [] = Unit {0}
ArePlain before (m ∷ ms) = IsPlainMark (said before) m × ArePlain (before ++ m ∷ []) ms

-- Judged marks that are all ranked.
pub record AreRanked (ms : List Mark) (js : List Judged) : Type 0 where
  pub last : end_way js ≡ None
  pub ranks : ranks_of (effective js) ≡ said ms
  pub closed : some_closed (effective js) ≡ false
  pub passed : some_passed (effective js) ≡ false

one_more :
    (m : Mark) (c : ℕ) (ms : List Mark) (js : List Judged) → m.skipped ≡ 0 → m.says ≡ One c → AreRanked ms js
    → AreRanked (m ∷ ms) (with_way m Ranked ∷ js)
one_more m c ms js none one others =
    let on = effective-on (with_way m Ranked) js refl in
    record {
      last = others.last;
      ranks = ap ranks_of on ∙ ap (λ (l : List ℕ). said_by m.says ++ l) others.ranks;
      closed =
          ap some_closed on
          ∙ (ap (λ (k : ℕ). nat_lt 0 k || some_closed (effective js)) none ∙ others.closed);
      passed = ap some_passed on ∙ others.passed;
    }

pub plain_are_ranked :
    (t : Treatment) (before ms : List Mark) → ArePlain before ms → AreRanked ms (judged_behind t before ms)
plain_are_ranked t before [] plain = record { last = refl; ranks = refl; closed = refl; passed = refl }
plain_are_ranked t before (m ∷ ms) plain =
    let js = judged_behind t (before ++ m ∷ []) ms in
    subst (λ (w : Way). AreRanked (m ∷ ms) (with_way m w ∷ js))
    (sym (plain_is_ranked t (said before) m plain.0))
    (one_more m plain.0.candidate ms js plain.0.none_skipped plain.0.one
    (plain_are_ranked t (before ++ m ∷ []) ms plain.1))

length-said : (before ms : List Mark) → ArePlain before ms → length (said ms) ≡ length ms
length-said before [] plain = refl
length-said before (m ∷ ms) plain =
    ap (λ (s : Says). length (said_by s ++ said ms)) plain.0.one
    ∙ ap suc (length-said (before ++ m ∷ []) ms plain.1)

plain_skip_none : (before ms : List Mark) → ArePlain before ms → All (λ m. m.skipped ≡ 0) ms
plain_skip_none before [] plain = λ k d inside. absurd (omega arith)
plain_skip_none before (m ∷ ms) plain =
    All-cons (λ (k : Mark). k.skipped ≡ 0) m ms plain.0.none_skipped
    (plain_skip_none (before ++ m ∷ []) ms plain.1)

-- refused for some reason
abbrev IsRefused : Way → Type 0
IsRefused w = (why : Why) × (w ≡ Refused why)

said_once : (before : List ℕ) (c : ℕ) (again : Bool) → is_among before c ≡ again
    → (is_among before c ≡ false) ⊎ IsRefused (said_way strict before (One c))
said_once before c true is = inr (Repeated, ap (λ (b : Bool). cond b (Refused Repeated) Ranked) is)
said_once before c false is = inl is

says_strictly :
    (before : List ℕ) (s : Says)
    → ((c : ℕ) × (s ≡ One c) × (is_among before c ≡ false)) ⊎ IsRefused (said_way strict before s)
says_strictly before (One c) =
    elim (said_once before c (is_among before c) refl) [
      | inl new ↦ inl (c, refl, new)
      | inr refused ↦ inr refused
    ]
says_strictly before Over = inr (EqualRank, refl)

-- where whatever is not plain is refused, a mark is plain or refused
strictly :
    (before : List ℕ) (m : Mark) → IsPlainMark before m ⊎ IsRefused (way_behind strict before m)
strictly before m =
    let other = said_way strict before m.says in
    elim (leb_tells 1 m.skipped) [
      | inl some ↦ inr (SkippedRank, ap (λ (b : Bool). cond b (Refused SkippedRank) other) some.0)
      | inr none ↦
          elim (says_strictly before m.says) [
            | inl one ↦
                inl (record { none_skipped = omega arith; candidate = one.0; one = one.1; new = one.2 })
            | inr refused ↦
                inr (refused.0, ap (λ (b : Bool). cond b (Refused SkippedRank) other) none.0 ∙ refused.1)
          ]
    ]

-- what is accepted there is plain
accepted_are_plain :
    (before ms : List Mark) (rs ranks : List ℕ)
    → unless_refused (end_way (judged_behind strict before ms)) rs ≡ Some ranks → ArePlain before ms
accepted_are_plain before [] rs ranks is = tt
accepted_are_plain before (m ∷ ms) rs ranks is =
    let js = judged_behind strict (before ++ m ∷ []) ms in
    let with = λ (w : Way). unless_refused (end_way (with_way m w ∷ js)) rs in
    elim (strictly (said before) m) [
      | inl plain ↦ (
        plain,
        accepted_are_plain (before ++ m ∷ []) ms rs ranks
            (sym (ap with (plain_is_ranked strict (said before) m plain)) ∙ is),
      )
      | inr refused ↦ absurd (cc (sym (ap with refused.1) ∙ is))
    ]

module _ (marks : List Mark) (ranks : List ℕ) (is : ranked strict marks ≡ Some ranks) where
  all_plain : ArePlain [] marks
  all_plain =
      accepted_are_plain [] marks (ranks_of (effective (judged strict marks))) ranks
      (ap (λ (js : List Judged). unless_refused (end_way js) (ranks_of (effective (judged strict marks))))
      (sym (judged-behind strict marks)) ∙ is)

  under : (t : Treatment) → AreRanked marks (judged t marks)
  under t = subst (AreRanked marks) (sym (judged-behind t marks)) (plain_are_ranked t [] marks all_plain)

  all_said : ranks ≡ said marks
  all_said =
      sym (ranked_is (end_way (judged strict marks)) (ranks_of (effective (judged strict marks))) ranks is)
      ∙ (under strict).ranks

  pub whole : IsWhole marks ranks
  whole = record {
    all = all_said;
    each = ap (length {A = ℕ}) all_said ∙ length-said [] marks all_plain;
    none_skipped = plain_skip_none [] marks all_plain;
  }

  pub plain : (t : Treatment) → IsPlain t marks ranks
  plain t =
      let so : AreRanked marks (judged t marks) = under t in
      record {
        ranked_are =
            ap (λ (l : Option Way). unless_refused l (ranks_of (effective (judged t marks)))) so.last
            ∙ ap Some (so.ranks ∙ sym all_said);
        not_closed = so.closed;
        not_passed = so.passed;
        not_cut = ap ends_in_cut so.last;
      }
