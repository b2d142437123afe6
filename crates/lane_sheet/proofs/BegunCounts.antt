-- How counts are begun, one after another.
use Rattle.std.proofs.Common.{◌≡◌, ◌⊎◌, ℕ, ◌≤◌, List, [], ◌∷◌, ◌++◌, length, map, refl, sym, ap, ◌∙◌, subst, inl, inr}
use Rattle.std.specs.Prelude.{All}
use Rattle.std.proofs.lemmas.List.{append-nil, append_assoc}
use Rattle.std.proofs.lemmas.List.Elements.{All-nil, All-head, All-tail, All-push}
use Rattle.plain_ballots.specs.declared.limits.TheConstants.{MOST_BALLOTS}
use Rattle.candidate_roll.specs.Roll.{RollList}
use Rattle.lane_sheet.specs.Due.{CountDue, due_of, dues_of, HasSheet}

module _ {D : Type 0} (ballots : D → List (List ℕ)) (candidates : D → ℕ) (can : D → Type 0) (places omega : ℕ)
    (lots : List ℕ) where
  -- the roll is of the candidates of the lots
  abbrev pub IsRollOf : RollList → Type 0
  IsRollOf roll = length roll.names ≡ length lots

  -- these sheets are begun, and those of these rolls and distributions are left
  pub record IsBeginning (all begun : List CountDue) (rolls : List RollList) (spreads : List D) : Type 0 where
    pub whole : begun ++ dues_of omega lots rolls (map ballots spreads) ≡ all
    pub sheets : All (HasSheet places) begun
    pub rolls_of_all : All (IsRollOf) rolls
    pub can_spread : All can spreads
    pub spreads_of_all : All (λ s. candidates s ≡ length lots) spreads
    pub few : All (λ s. length (ballots s) ≤ MOST_BALLOTS) spreads

  module _ {all begun : List CountDue} {rolls : List RollList} {spreads : List D}
      (so_far : IsBeginning all begun rolls spreads) where
    pub begun_more :
        (roll : RollList) (rolls' : List RollList) (s : D) (spreads' : List D) (due : CountDue)
        → rolls ≡ roll ∷ rolls' → spreads ≡ s ∷ spreads'
        → due ≡ due_of omega lots roll (ballots s) → HasSheet places due
        → IsBeginning all (begun ++ due ∷ []) rolls' spreads'
    begun_more roll rolls' s spreads' due is_roll is_spread is sheet =
        let rest = dues_of omega lots rolls' (map ballots spreads') in
        let Of : D → Type 0 = λ x. candidates x ≡ length lots in
        let Few : D → Type 0 = λ x. length (ballots x) ≤ MOST_BALLOTS in
        record {
          whole =
              append_assoc begun (due ∷ []) rest
              ∙ (ap (λ (d : CountDue). begun ++ d ∷ rest) is
              ∙ ((λ i. begun ++ dues_of omega lots (sym is_roll i) (map ballots (sym is_spread i))) ∙ so_far.whole));
          sheets = All-push (HasSheet places) begun due so_far.sheets sheet;
          rolls_of_all =
              All-tail (IsRollOf) roll rolls'
              (subst (All (IsRollOf)) is_roll so_far.rolls_of_all);
          can_spread = All-tail can s spreads' (subst (All can) is_spread so_far.can_spread);
          spreads_of_all = All-tail Of s spreads' (subst (All Of) is_spread so_far.spreads_of_all);
          few = All-tail Few s spreads' (subst (All Few) is_spread so_far.few);
        }

    pub next_roll : (roll : RollList) (rolls' : List RollList) → rolls ≡ roll ∷ rolls' → IsRollOf roll
    next_roll roll rolls' is =
        All-head (IsRollOf) roll rolls'
        (subst (All (IsRollOf)) is so_far.rolls_of_all)

    pub next_can : (s : D) (spreads' : List D) → spreads ≡ s ∷ spreads' → can s
    next_can s spreads' is = All-head can s spreads' (subst (All can) is so_far.can_spread)

    pub next_of_all : (s : D) (spreads' : List D) → spreads ≡ s ∷ spreads' → candidates s ≡ length lots
    next_of_all s spreads' is =
        let Of : D → Type 0 = λ x. candidates x ≡ length lots in
        All-head Of s spreads' (subst (All Of) is so_far.spreads_of_all)

    pub next_few : (s : D) (spreads' : List D) → spreads ≡ s ∷ spreads' → length (ballots s) ≤ MOST_BALLOTS
    next_few s spreads' is =
        let Few : D → Type 0 = λ x. length (ballots x) ≤ MOST_BALLOTS in
        All-head Few s spreads' (subst (All Few) is so_far.few)

    nothing_left : (rolls ≡ []) ⊎ (spreads ≡ []) → dues_of omega lots rolls (map ballots spreads) ≡ []
    nothing_left (inl is) = ap (λ (l : List RollList). dues_of omega lots l (map ballots spreads)) is
    nothing_left (inr is) = ap (λ (l : List D). dues_of omega lots rolls (map ballots l)) is ∙ no_spreads rolls
      where
        no_spreads : (l : List RollList) → dues_of omega lots l [] ≡ []
        no_spreads [] = refl
        no_spreads (r ∷ rs) = refl

    pub begun_all : (rolls ≡ []) ⊎ (spreads ≡ []) → begun ≡ all
    begun_all left =
        sym (append-nil begun)
        ∙ (ap (λ (l : List CountDue). begun ++ l) (sym (nothing_left left)) ∙ so_far.whole)

  pub begun_none :
      (rolls rolls' : List RollList) (spreads spreads' : List D) (begun : List CountDue) → begun ≡ []
      → rolls' ≡ rolls → spreads' ≡ spreads
      → All (IsRollOf) rolls → All can spreads → All (λ s. candidates s ≡ length lots) spreads
      → All (λ s. length (ballots s) ≤ MOST_BALLOTS) spreads
      → IsBeginning (dues_of omega lots rolls (map ballots spreads)) begun rolls' spreads'
  begun_none rolls rolls' spreads spreads' begun none is_rolls is_spreads of_rolls can' of_spreads few' = record {
    whole = λ i. none i ++ dues_of omega lots (is_rolls i) (map ballots (is_spreads i));
    sheets = subst (All (HasSheet places)) (sym none) (All-nil (HasSheet places));
    rolls_of_all = subst (All (IsRollOf)) (sym is_rolls) of_rolls;
    can_spread = subst (All can) (sym is_spreads) can';
    spreads_of_all = subst (All (λ (s : D). candidates s ≡ length lots)) (sym is_spreads) of_spreads;
    few = subst (All (λ (s : D). length (ballots s) ≤ MOST_BALLOTS)) (sym is_spreads) few';
  }
