-- Lines with one for each candidate are read one place after another.
use Rattle.std.proofs.Common.{◌≡◌, ℕ, ◌+◌, ◌<◌, ◌≤◌, List, [], ◌∷◌, ◌++◌, length, set, get_or, sym, ◌∙◌, ap}
use Rattle.std.proofs.Common.{subst, arith, append_assoc}
use Rattle.std.specs.Prelude.{◌≢◌, All, decimal, slice_index, slice_index_or, slice_set}
use Rattle.std.proofs.lemmas.List.{get_or-set_same, get_or-set_other, get_or_push, get_or_append_left}
use Rattle.std.proofs.lemmas.List.Elements.{All-get_or}
use Rattle.plain_ballots.specs.declared.limits.TheConstants.{MOST_CANDIDATES}
use Rattle.candidate_roll.specs.declared.limits.TheConstants.{MOST_NAME_BYTES}
use Rattle.candidate_roll.specs.Name.{IsName}
use Rattle.candidate_roll.specs.State.{state_at}
use Rattle.candidate_roll.specs.declared.state.State.{State}
use Rattle.candidate_roll.specs.declared.state.State.TheVariants.{Withdrawn}
use Rattle.fixed_place.specs.Rounding.{scale, most}
use Rattle.meek_rule.specs.Places.{each_place}
use Rattle.sheet_text.specs.Lines.{state_word, outcome_line}
use Rattle.sheet_reader.specs.Cut.{standing_line}
use Rattle.sheet_reader.specs.Parts.{ReadsStanding, standing_at, standing_lines, outcome_of}
use Rattle.sheet_reader.proofs.LineLemmas.{outcome_once}
use Rattle.sheet_reader.proofs.LineParts.{heads, next_place, read_more}

apart : (q p : ℕ) → q < p → q ≢ p
apart q p below e = omega (arith, below, e)

-- the candidate at place p was read
pub standing_more :
    (places p : ℕ) (states : List State) (keeps votes : List ℕ) (states' : List State) (keeps' votes' : List ℕ)
    (all left new : List (List ℕ))
    → p < length states → p < length keeps → p < length votes → all ≡ standing_lines places p states keeps votes ++ left
    → ReadsStanding places p states keeps votes states' keeps' votes' left new
    → all ≡ standing_lines places (p + 1) states' keeps' votes' ++ new
standing_more places p states keeps votes states' keeps' votes' all left new s k v read is =
    read_more (standing_at places states keeps votes) (standing_at places states' keeps' votes') p all left new
    (standing_line places p is.state is.keep is.vote) before read is.read here
  where
    before : (q : ℕ) → q < p → standing_at places states keeps votes q ≡ standing_at places states' keeps' votes' q
    before q below =
        let s' : state_at states q ≡ state_at states' q =
        sym (ap (λ (l : List State). get_or l q Withdrawn) is.states_are
        ∙ get_or-set_other states p q is.state Withdrawn (apart q p below)) in
        let k' : slice_index keeps q ≡ slice_index keeps' q =
        sym (ap (λ (l : List ℕ). get_or l q 0) is.keeps_are
        ∙ get_or-set_other keeps p q is.keep 0 (apart q p below)) in
        let v' : slice_index votes q ≡ slice_index votes' q =
        sym (ap (λ (l : List ℕ). get_or l q 0) is.votes_are
        ∙ get_or-set_other votes p q is.vote 0 (apart q p below)) in
        (λ i. standing_line places q (s' i) (k' i) (v' i))

    here : standing_line places p is.state is.keep is.vote ≡ standing_at places states' keeps' votes' p
    here =
        let s' : is.state ≡ state_at states' p =
        sym (ap (λ (l : List State). get_or l p Withdrawn) is.states_are
        ∙ get_or-set_same states p is.state Withdrawn s) in
        let k' : is.keep ≡ slice_index keeps' p =
        sym (ap (λ (l : List ℕ). get_or l p 0) is.keeps_are ∙ get_or-set_same keeps p is.keep 0 k) in
        let v' : is.vote ≡ slice_index votes' p =
        sym (ap (λ (l : List ℕ). get_or l p 0) is.votes_are ∙ get_or-set_same votes p is.vote 0 v) in
        (λ i. standing_line places p (s' i) (k' i) (v' i))

-- at the place p there is no candidate's line
pub no_standings :
    (places n p : ℕ) (states : List State) (keeps votes : List ℕ) (s : List State) (k v : List ℕ)
    (all left rest : List (List ℕ))
    → p < n → length k ≡ n → length v ≡ n → All (λ keep. keep ≤ scale places) k → All (λ vote. vote ≤ most places) v
    → all ≡ standing_lines places p states keeps votes ++ left
    → ((state : State) (keep vote : ℕ) (rest : List (List ℕ)) → keep ≤ scale places → vote ≤ most places
    → left ≢ standing_line places p state keep vote ∷ rest)
    → all ≢ standing_lines places n s k v ++ rest
no_standings places n p states keeps votes s k v all left rest below lk lv ks vs read none other =
    let next = next_place (standing_at places states keeps votes) (standing_at places s k v) p n all left rest below read other in
    none (state_at s p) (slice_index k p) (slice_index v p) next.0
    (All-get_or (λ keep. keep ≤ scale places) k p 0 (omega (arith, below, lk)) ks)
    (All-get_or (λ vote. vote ≤ most places) v p 0 (omega (arith, below, lv)) vs) next.1

-- an outcome's line, of its parts
pub outcome_line_is :
    (states : List State) (names : List (List ℕ)) (p : ℕ)
    → outcome_line states names p ≡ outcome_of p (state_at states p) (slice_index_or names p [])
unfolding outcome_line
outcome_line_is states names p =
    append_assoc (decimal (p + 1)) (32 ∷ state_word (state_at states p)) (32 ∷ slice_index_or names p [])

pub no_outcome :
    (p : ℕ) (state : State) (bytes text : List ℕ) (lines new : List (List ℕ)) → p < MOST_CANDIDATES → lines ≡ text ∷ new
    → text ≡ outcome_of p state bytes
    → (¬ (IsName MOST_NAME_BYTES bytes)) → (other : State) (name : List ℕ) (rest : List (List ℕ)) → IsName MOST_NAME_BYTES name
    → lines ≢ outcome_of p other name ∷ rest
no_outcome p state bytes text lines new few read is unnamed other name rest named e =
    let same = heads text (outcome_of p other name) new rest (sym read ∙ e) in
    unnamed (subst (λ (t : List ℕ). IsName MOST_NAME_BYTES t)
    (sym (outcome_once p state other bytes name few (sym is ∙ same.0)).1) named)

-- the outcome at place p was read
pub outcome_more :
    (p : ℕ) (states : List State) (names : List (List ℕ)) (states' : List State) (names' : List (List ℕ))
    (state : State) (name : List ℕ) (all left new : List (List ℕ))
    → p < length states → length names ≡ p → states' ≡ slice_set states p state → names' ≡ names ++ name ∷ []
    → all ≡ each_place p (outcome_line states names) ++ left → left ≡ outcome_of p state name ∷ new
    → all ≡ each_place (p + 1) (outcome_line states' names') ++ new
outcome_more p states names states' names' state name all left new within long set pushed read next =
    read_more (outcome_line states names) (outcome_line states' names') p all left new
    (outcome_of p state name) before read next here
  where
    before : (q : ℕ) → q < p → outcome_line states names q ≡ outcome_line states' names' q
    before q below =
        let s : state_at states q ≡ state_at states' q =
        sym (ap (λ (l : List State). get_or l q Withdrawn) set
        ∙ get_or-set_other states p q state Withdrawn (apart q p below)) in
        let t : slice_index_or names q [] ≡ slice_index_or names' q [] =
        sym (ap (λ (l : List (List ℕ)). get_or l q []) pushed
        ∙ get_or_append_left names (name ∷ []) [] q (omega (arith, below, long))) in
        outcome_line_is states names q ∙ (λ i. outcome_of q (s i) (t i)) ∙ sym (outcome_line_is states' names' q)

    here : outcome_of p state name ≡ outcome_line states' names' p
    here =
        let s : state ≡ state_at states' p =
        sym (ap (λ (l : List State). get_or l p Withdrawn) set
        ∙ get_or-set_same states p state Withdrawn within) in
        let t : name ≡ slice_index_or names' p [] =
        sym (ap (λ (l : List (List ℕ)). get_or l p []) pushed ∙ get_or_push names name [] p long) in
        (λ i. outcome_of p (s i) (t i)) ∙ sym (outcome_line_is states' names' p)

-- at the place p there is no outcome
pub no_outcomes : (n p : ℕ) (states : List State) (names : List (List ℕ)) (all left : List (List ℕ)) → p < n
    → all ≡ each_place p (outcome_line states names) ++ left
    → ((state : State) (name : List ℕ) (rest : List (List ℕ)) → IsName MOST_NAME_BYTES name → left ≢ outcome_of p state name ∷ rest)
    → (others : List State) (called : List (List ℕ)) (rest : List (List ℕ)) → length called ≡ n
    → All (IsName MOST_NAME_BYTES) called → all ≢ each_place n (outcome_line others called) ++ rest
no_outcomes n p states names all left below read none others called rest long named other =
    let next = next_place (outcome_line states names) (outcome_line others called) p n all left rest below read other in
    none (state_at others p) (slice_index_or called p []) next.0
    (All-get_or (IsName MOST_NAME_BYTES) called p [] (omega (arith, below, long)) named)
    (next.1 ∙ ap (λ (l : List ℕ). l ∷ next.0) (outcome_line_is others called p))
