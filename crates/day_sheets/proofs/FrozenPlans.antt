-- How the plans of a day's versions are taken, one version after another.
use Rattle.std.proofs.Common.{◌≡◌, ℕ, List, [], ◌∷◌, ◌++◌, map, All, sym, ap, ◌∙◌, subst}
use Rattle.std.proofs.lemmas.List.{append-nil, append_assoc}
use Rattle.std.proofs.lemmas.List.Elements.{All-nil, All-head, All-tail, All-push}
use Rattle.frozen_plan.specs.Plan.{PlanRows}
use Rattle.frozen_version.specs.Versions.{VersionState}
use Rattle.lane_sheet.specs.Plans.{CanBeCounted}

abbrev pub plans_in : VersionState → List PlanRows
plans_in version = version.plans

-- the plans of some versions are taken, and these versions are left
pub record AreTaken (candidates : ℕ) (versions : List VersionState) (taken : List (List PlanRows))
    (left : List VersionState) : Type 0 where
  pub whole : taken ++ map plans_in left ≡ map plans_in versions
  pub each : All (CanBeCounted candidates) taken
  pub left_of_all : All (λ v. v.candidates ≡ candidates) left

pub taken_none :
    (candidates : ℕ) (versions : List VersionState) (taken : List (List PlanRows)) (left : List VersionState)
    → taken ≡ [] → left ≡ versions → All (λ v. v.candidates ≡ candidates) versions
    → AreTaken candidates versions taken left
taken_none candidates versions taken left none is all = record {
  whole = λ i. none i ++ map plans_in (is i);
  each = subst (All (CanBeCounted candidates)) (sym none) (All-nil (CanBeCounted candidates));
  left_of_all = subst (All (λ (v : VersionState). v.candidates ≡ candidates)) (sym is) all;
}

pub of_next :
    (candidates : ℕ) (versions : List VersionState) (taken : List (List PlanRows)) (left rest : List VersionState)
    (version : VersionState) → AreTaken candidates versions taken left → left ≡ version ∷ rest
    → version.candidates ≡ candidates
of_next candidates versions taken left rest version so_far is =
    let Of : VersionState → Type 0 = λ v. v.candidates ≡ candidates in
    All-head Of version rest (subst (All Of) is so_far.left_of_all)

pub taken_more :
    (candidates : ℕ) (versions : List VersionState) (taken taken' : List (List PlanRows)) (left rest : List VersionState)
    (version : VersionState) (plans : List PlanRows) → AreTaken candidates versions taken left
    → left ≡ version ∷ rest → taken' ≡ taken ++ plans ∷ [] → plans ≡ version.plans → CanBeCounted candidates plans
    → AreTaken candidates versions taken' rest
taken_more candidates versions taken taken' left rest version plans so_far is put same counted =
    let Of : VersionState → Type 0 = λ v. v.candidates ≡ candidates in
    record {
      whole =
          ap (λ (l : List (List PlanRows)). l ++ map plans_in rest) put
          ∙ (append_assoc taken (plans ∷ []) (map plans_in rest)
          ∙ (ap (λ (p : List PlanRows). taken ++ p ∷ map plans_in rest) same
          ∙ (ap (λ (l : List VersionState). taken ++ map plans_in l) (sym is) ∙ so_far.whole)));
      each =
          subst (All (CanBeCounted candidates)) (sym put)
          (All-push (CanBeCounted candidates) taken plans so_far.each counted);
      left_of_all = All-tail Of version rest (subst (All Of) is so_far.left_of_all);
    }

pub taken_all :
    (candidates : ℕ) (versions : List VersionState) (taken : List (List PlanRows)) (left : List VersionState)
    → AreTaken candidates versions taken left → left ≡ [] → taken ≡ map plans_in versions
taken_all candidates versions taken left so_far none =
    sym (append-nil taken)
    ∙ (ap (λ (l : List VersionState). taken ++ map plans_in l) (sym none) ∙ so_far.whole)
