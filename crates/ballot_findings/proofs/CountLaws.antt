-- Which seats and ballots want no look.
use Rattle.std.proofs.Common.{◌≡◌, ◌∙◌, ℕ, suc, Bool, true, false, cond, List, [], ◌∷◌}
use Rattle.std.proofs.Common.{ap, arith, refl, sym, subst, inl, inr, length, get_or, All}
use Rattle.std.specs.Prelude.{◌||◌, not, nat_eq, nat_le, nat_lt, codes, count_by, Contains}
use Rattle.std.specs.List.{list_any}
use Rattle.std.proofs.lemmas.Bool.{cases_Bool, eqb-true, eq-eqb, leb-false, le-ltb, lt-leb, ltb-false}
use Rattle.std.proofs.lemmas.Bool.{not-false, not_from_true}
use Rattle.std.proofs.lemmas.List.Folds.{list_any_at}
use Rattle.std.proofs.lemmas.List.Sums.{get_or-le-sum_by, sum_by-le}
use Rattle.plain_ballots.specs.Ballots.{plain}
use Rattle.candidate_roll.specs.Roll.{is_listed}
use Rattle.ballot_findings.specs.Counts.{how_many, is_ranked, ranks_withdrawn}
use Rattle.ballot_findings.specs.Names.{running}
use Rattle.ballot_findings.specs.Laws.{SeatsAreTold, UnrankedAreTold, WithdrawnAreTold}
use Rattle.ballot_findings.proofs.Told.{candidates_told, not_written, unwritten}

pub seats : SeatsAreTold
seats input roll = (
  (
    λ none. ltb-false (length roll.names) roll.seats (not_written (nat_lt (length roll.names) roll.seats) 108 _ none),
    λ few. unwritten (nat_lt (length roll.names) roll.seats) _ (le-ltb (length roll.names) roll.seats few),
  ),
  (
    λ none. leb-false (running roll) roll.seats (not_written (nat_le (running roll) roll.seats) 108 _ none),
    λ few. unwritten (nat_le (running roll) roll.seats) _ (lt-leb (running roll) roll.seats few),
  ),
)

-- one of a list passes exactly where the test of the list says so
module _ {X : Type 0} (test : X → Bool) where
  pub found : (xs : List X) → list_any test xs ≡ true → (x : X) × Contains xs x × (test x ≡ true)
  found [] none = absurd (cc)
  found (x ∷ xs) some =
      elim (cases_Bool (test x)) [
        | inl is ↦ (x, (0, omega arith, refl), is)
        | inr past ↦
            let rest = found xs (sym (ap (λ (b : Bool). b || list_any test xs) past) ∙ some) in
            (rest.0, (suc rest.1.0, omega (arith, rest.1.1), rest.1.2), rest.2)
      ]

  pub find : (xs : List X) (x : X) → Contains xs x → test x ≡ true → list_any test xs ≡ true
  find xs x (k, inside, is) passes = list_any_at test xs k x inside (ap test is ∙ passes)

abbrev one_or_none : Bool → ℕ
one_or_none b = cond b 1 0

-- none is counted exactly where none passes
pub uncounted : {X : Type 0} (test : X → Bool) (xs : List X) → count_by test xs ≡ 0 → All (λ x. test x ≡ false) xs
uncounted test xs none k d below =
    let one = get_or-le-sum_by (λ x. cond (test x) 1 0) xs k d below in
    elim (cases_Bool (test (get_or xs k d))) [
      | inl is ↦
          let counted : one_or_none (test (get_or xs k d)) ≡ 1 = ap one_or_none is in
          absurd (omega (arith, one, counted, none))
      | inr fails ↦ fails
    ]

pub not_counted : {X : Type 0} (test : X → Bool) (xs : List X) → All (λ x. test x ≡ false) xs → count_by test xs ≡ 0
not_counted test xs none =
    let most =
    sum_by-le (λ x. cond (test x) 1 0) 0 xs
    (λ k d below.
    let none_here : one_or_none (test (get_or xs k d)) ≡ 0 = ap one_or_none (none k d below) in
    omega (arith, none_here)) in
    omega (arith, most)

pub unranked : UnrankedAreTold
unranked input candidates lines =
    let told = candidates_told input 108 (codes "ook on no ballot") candidates (λ c. not (is_ranked lines c)) in (
      λ none c from below.
          let ballot =
          found (λ b. is_listed b c) (plain lines)
          (not-false (is_ranked lines c) (told.0 none c (from, below))) in
          let rank = found (λ d. nat_eq d c) ballot.0 ballot.2 in
          (ballot.0, ballot.1, subst (λ (d : ℕ). Contains ballot.0 d) (eqb-true rank.0 c rank.2) rank.1),
      λ all.
          told.1 (λ c of.
          let on = all c of.0 of.1 in
          not_from_true (is_ranked lines c)
          (find (λ b. is_listed b c) (plain lines) on.0 on.1 (find (λ d. nat_eq d c) on.0 c on.2 (eq-eqb c c refl)))),
    )

pub withdrawn : WithdrawnAreTold
withdrawn input marks lines =
    let test : List ℕ → Bool = ranks_withdrawn marks in
    let n = how_many test lines in (
      λ none. uncounted test (plain lines)
          (eqb-true n 0 (not-false (nat_eq n 0) (not_written (not (nat_eq n 0)) 108 _ none))),
      λ none.
          unwritten (not (nat_eq n 0)) _ (not_from_true (nat_eq n 0) (eq-eqb n 0 (not_counted test (plain lines) none))),
    )
