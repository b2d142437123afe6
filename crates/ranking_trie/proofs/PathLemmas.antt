-- The nodes to which candidates lead, as siblings change.
use Rattle.std.proofs.Common.{◌≡◌, ◌≢◌, ℕ, ◌<◌, ◌≤◌, List, [], ◌∷◌, length, take, cond, Bool}
use Rattle.std.proofs.Common.{inl, inr, arith, refl, ap, sym, subst, ◌∙◌}
use Rattle.std.proofs.lemmas.Bool.{cases_eq, eq-eqb, ne_eqb}
use Rattle.ranking_trie.specs.Arena.{HasNode, join, last_place, top}
use Rattle.ranking_trie.specs.Bag.{IsRising}
use Rattle.ranking_trie.specs.Forest.{Forest, Empty, Grow}
use Rattle.ranking_trie.specs.Fronts.{place_on, KeepsPlaces, KeepsOthers}
use Rattle.ranking_trie.proofs.JoinLemmas.{top-le}

-- through a node that the candidate has, and past one that is another's
pub on_own :
    (from c d n p : ℕ) (s : List ℕ) (inner next : Forest) → c ≡ d
    → place_on from (c ∷ s) (Grow d n p inner next) ≡ place_on p s inner
on_own from c d n p s inner next same =
    ap (λ (b : Bool). cond b (place_on p s inner) (place_on from (c ∷ s) next)) (eq-eqb c d same)

pub on_other :
    (from c d n p : ℕ) (s : List ℕ) (inner next : Forest) → c ≢ d
    → place_on from (c ∷ s) (Grow d n p inner next) ≡ place_on from (c ∷ s) next
on_other from c d n p s inner next other =
    ap (λ (b : Bool). cond b (place_on p s inner) (place_on from (c ∷ s) next)) (ne_eqb c d other)

-- a way on, from a node below which others stay
pub keeps_all : (f : Forest) → KeepsPlaces f f
keeps_all f = λ from path some. refl

pub keeps_on : (f g h : Forest) → KeepsPlaces f g → KeepsPlaces g h → KeepsPlaces f h
keeps_on f g h one two = λ from path some.
    let first : place_on from path g ≡ place_on from path f = one from path some in
    two from path (λ none. some (sym first ∙ none)) ∙ first

keeps_at :
    (d n m p : ℕ) (inner low next rest : Forest) → KeepsPlaces inner low → KeepsPlaces next rest → (from : ℕ)
    → (path : List ℕ) → place_on from path (Grow d n p inner next) ≢ 0
    → place_on from path (Grow d m p low rest) ≡ place_on from path (Grow d n p inner next)
keeps_at d n m p inner low next rest inside behind from [] some = refl
keeps_at d n m p inner low next rest inside behind from (c ∷ s) some =
    elim (cases_eq c d) [
      | inl same ↦
          let old : place_on from (c ∷ s) (Grow d n p inner next) ≡ place_on p s inner =
          on_own from c d n p s inner next same in
          on_own from c d m p s low rest same ∙ (inside p s (λ none. some (old ∙ none)) ∙ sym old)
      | inr other ↦
          let old : place_on from (c ∷ s) (Grow d n p inner next) ≡ place_on from (c ∷ s) next =
          on_other from c d n p s inner next other in
          on_other from c d m p s low rest other
          ∙ (behind from (c ∷ s) (λ none. some (old ∙ none)) ∙ sym old)
    ]

pub keeps_node :
    (d n m p : ℕ) (inner low next rest : Forest) → KeepsPlaces inner low → KeepsPlaces next rest
    → KeepsPlaces (Grow d n p inner next) (Grow d m p low rest)
keeps_node d n m p inner low next rest inside behind = keeps_at d n m p inner low next rest inside behind

pub keeps_join : (a b c : Forest) → KeepsPlaces b c → KeepsPlaces (join a b) (join a c)
keeps_join Empty b c kept = kept
keeps_join (Grow d n p inner next) b c kept =
    keeps_node d n n p inner inner (join next b) (join next c) (keeps_all inner) (keeps_join next b c kept)

-- no candidate leads on among siblings that rise from above it
pub none_above :
    (from c low : ℕ) (s : List ℕ) (f : Forest) → c ≤ low → IsRising low f → place_on from (c ∷ s) f ≡ 0
none_above from c low s Empty under rising = refl
none_above from c low s (Grow d n p inner next) under rising =
    on_other from c d n p s inner next (λ same. omega (arith, same, rising.0))
    ∙ none_above from c d s next (omega (arith, rising.0)) rising.3

-- a node that comes
keeps_past :
    (c p : ℕ) (rest : Forest) → IsRising c rest → (from : ℕ) → (path : List ℕ) → place_on from path rest ≢ 0
    → place_on from path (Grow c 0 p Empty rest) ≡ place_on from path rest
keeps_past c p rest rising from [] some = refl
keeps_past c p rest rising from (d ∷ s) some =
    on_other from d c 0 p s Empty rest
    (λ same. some (none_above from d c s rest (omega (arith, same)) rising))

pub keeps_new : (c p : ℕ) (rest : Forest) → IsRising c rest → KeepsPlaces rest (Grow c 0 p Empty rest)
keeps_new c p rest rising = keeps_past c p rest rising

-- where all nodes stay, the others do
pub others_all : (ranking : List ℕ) (f g : Forest) → KeepsPlaces f g → KeepsOthers ranking f g
others_all ranking f g kept = λ from path other some. kept from path some

others_past :
    (ranking : List ℕ) (d n p : ℕ) (inner next rest : Forest) → KeepsOthers ranking next rest → (from : ℕ)
    → (path : List ℕ) → take (length path) ranking ≢ path → place_on from path (Grow d n p inner next) ≢ 0
    → place_on from path (Grow d n p inner rest) ≡ place_on from path (Grow d n p inner next)
others_past ranking d n p inner next rest behind from [] other some = refl
others_past ranking d n p inner next rest behind from (c ∷ s) other some =
    elim (cases_eq c d) [
      | inl same ↦ on_own from c d n p s inner rest same ∙ sym (on_own from c d n p s inner next same)
      | inr apart ↦
          let old : place_on from (c ∷ s) (Grow d n p inner next) ≡ place_on from (c ∷ s) next =
          on_other from c d n p s inner next apart in
          on_other from c d n p s inner rest apart
          ∙ (behind from (c ∷ s) other (λ none. some (old ∙ none)) ∙ sym old)
    ]

pub others_join :
    (ranking : List ℕ) (a b c : Forest) → KeepsOthers ranking b c → KeepsOthers ranking (join a b) (join a c)
others_join ranking Empty b c kept = kept
others_join ranking (Grow d n p inner next) b c kept =
    others_past ranking d n p inner (join next b) (join next c) (others_join ranking next b c kept)

-- others below a node
others_at :
    (r : ℕ) (ranking : List ℕ) (n m p : ℕ) (inner low next : Forest) → KeepsOthers ranking inner low → (from : ℕ)
    → (path : List ℕ) → take (length path) (r ∷ ranking) ≢ path → place_on from path (Grow r n p inner next) ≢ 0
    → place_on from path (Grow r m p low next) ≡ place_on from path (Grow r n p inner next)
others_at r ranking n m p inner low next inside from [] other some = refl
others_at r ranking n m p inner low next inside from (c ∷ s) other some =
    elim (cases_eq c r) [
      | inl same ↦
          let old : place_on from (c ∷ s) (Grow r n p inner next) ≡ place_on p s inner =
          on_own from c r n p s inner next same in
          let on : take (length s) ranking ≢ s =
          λ e. other (ap (λ (t : List ℕ). r ∷ t) e ∙ ap (λ (x : ℕ). x ∷ s) (sym same)) in
          on_own from c r m p s low next same ∙ (inside p s on (λ none. some (old ∙ none)) ∙ sym old)
      | inr apart ↦ on_other from c r m p s low next apart ∙ sym (on_other from c r n p s inner next apart)
    ]

pub others_node :
    (r : ℕ) (ranking : List ℕ) (n m p : ℕ) (inner low next : Forest) → KeepsOthers ranking inner low
    → KeepsOthers (r ∷ ranking) (Grow r n p inner next) (Grow r m p low next)
others_node r ranking n m p inner low next inside = others_at r ranking n m p inner low next inside

-- a node that goes
others_gone :
    (r p : ℕ) (next : Forest) → (from : ℕ) → (path : List ℕ) → take (length path) (r ∷ []) ≢ path
    → place_on from path (Grow r 0 p Empty next) ≢ 0
    → place_on from path next ≡ place_on from path (Grow r 0 p Empty next)
others_gone r p next from [] other some = refl
others_gone r p next from (c ∷ []) other some =
    sym (on_other from c r 0 p [] Empty next (λ same. other (ap (λ (x : ℕ). x ∷ []) (sym same))))
others_gone r p next from (c ∷ d ∷ s) other some =
    sym (on_other from c r 0 p (d ∷ s) Empty next (λ same. some (on_own from c r 0 p (d ∷ s) Empty next same)))

pub others_dropped : (r p : ℕ) (next : Forest) → KeepsOthers (r ∷ []) (Grow r 0 p Empty next) next
others_dropped r p next = others_gone r p next

-- one change after another: whoever is not on the way to a ranking is not on that to its beginning
not_begun :
    (r : ℕ) (ranking path : List ℕ) → take (length path) (r ∷ ranking) ≢ path → take (length path) (r ∷ []) ≢ path
not_begun r ranking [] other = other
not_begun r ranking (c ∷ []) other = other
not_begun r ranking (c ∷ d ∷ s) other = λ same. absurd (omega (arith, ap length same))

pub others_on :
    (r : ℕ) (ranking : List ℕ) (f g h : Forest) → KeepsOthers (r ∷ ranking) f g → KeepsOthers (r ∷ []) g h
    → KeepsOthers (r ∷ ranking) f h
others_on r ranking f g h one two = λ from path other some.
    let first : place_on from path g ≡ place_on from path f = one from path other some in
    two from path (not_begun r ranking path other) (λ none. some (sym first ∙ none)) ∙ first

-- siblings below a candidate are passed
past_join :
    (from c low : ℕ) (s : List ℕ) (a b : Forest) → IsRising low a → top low a < c
    → place_on from (c ∷ s) (join a b) ≡ place_on from (c ∷ s) b
past_join from c low s Empty b rising under = refl
past_join from c low s (Grow d n p inner next) b rising under =
    let less : d ≤ top d next = top-le d next rising.3 in
    on_other from c d n p s inner (join next b) (λ same. omega (arith, same, under))
    ∙ past_join from c d s next b rising.3 under

-- a node is where its candidate leads
pub leads_to :
    (from c before place : ℕ) (s : List ℕ) (f : Forest) (h : HasNode f c before place)
    → place_on from (c ∷ s) f ≡ place_on place s h.inner
leads_to from c before place s f h =
    ap (place_on from (c ∷ s)) h.is
    ∙ (past_join from c 0 s h.passed (Grow c h.ends place h.inner h.next) h.passed_rising h.under
    ∙ on_own from c c h.ends place s h.inner h.next refl)

-- of equal forests
pub keeps_is : (f g was is : Forest) → f ≡ was → g ≡ is → KeepsPlaces was is → KeepsPlaces f g
keeps_is f g was is old new kept =
    subst (λ (x : Forest). KeepsPlaces x g) (sym old) (subst (λ (y : Forest). KeepsPlaces was y) (sym new) kept)

pub others_is :
    (ranking : List ℕ) (f g was is : Forest) → f ≡ was → g ≡ is → KeepsOthers ranking was is → KeepsOthers ranking f g
others_is ranking f g was is old new kept =
    subst (λ (x : Forest). KeepsOthers ranking x g) (sym old)
    (subst (λ (y : Forest). KeepsOthers ranking was y) (sym new) kept)

-- where a candidate leads on from siblings that rise, one of them is its node
record IsParted (low from c : ℕ) (s : List ℕ) (f : Forest) : Type 0 where
  ends : ℕ
  place : ℕ
  passed : Forest
  inner : Forest
  next : Forest
  is : f ≡ join passed (Grow c ends place inner next)
  passed_rising : IsRising low passed
  under : top low passed < c
  inner_rising : IsRising 0 inner
  next_rising : IsRising c next
  leads : place_on from (c ∷ s) f ≡ place_on place s inner

parted :
    (low from c : ℕ) (s : List ℕ) (f : Forest) → IsRising low f → place_on from (c ∷ s) f ≢ 0
    → IsParted low from c s f
parted low from c s Empty rising some = absurd (some refl)
parted low from c s (Grow d n p inner next) rising some =
    elim (cases_eq c d) [
      | inl same ↦ record {
        ends = n;
        place = p;
        passed = Empty;
        inner = inner;
        next = next;
        is = ap (λ (e : ℕ). Grow e n p inner next) (sym same);
        passed_rising = tt;
        under = omega (arith, same, rising.0);
        inner_rising = rising.2;
        next_rising = subst (λ (e : ℕ). IsRising e next) (sym same) rising.3;
        leads = on_own from c d n p s inner next same;
      }
      | inr other ↦
          let on : place_on from (c ∷ s) (Grow d n p inner next) ≡ place_on from (c ∷ s) next =
          on_other from c d n p s inner next other in
          let rest : IsParted d from c s next = parted d from c s next rising.3 (λ none. some (on ∙ none)) in
          record {
            ends = rest.ends;
            place = rest.place;
            passed = Grow d n p inner rest.passed;
            inner = rest.inner;
            next = rest.next;
            is = ap (λ (g : Forest). Grow d n p inner g) rest.is;
            passed_rising = (rising.0, rising.1, rising.2, rest.passed_rising);
            under = rest.under;
            inner_rising = rest.inner_rising;
            next_rising = rest.next_rising;
            leads = on ∙ rest.leads;
          }
    ]

-- a node on the way
pub record IsOnWay (from c : ℕ) (s : List ℕ) (f : Forest) : Type 0 where
  pub before : ℕ
  pub place : ℕ
  pub node : HasNode f c before place
  pub leads : place_on from (c ∷ s) f ≡ place_on place s node.inner

pub on_way : (from c : ℕ) (s : List ℕ) (f : Forest) → IsRising 0 f → place_on from (c ∷ s) f ≢ 0 → IsOnWay from c s f
on_way from c s f rising some =
    let p : IsParted 0 from c s f = parted 0 from c s f rising some in
    record {
      before = last_place p.passed;
      place = p.place;
      node = record {
        ends = p.ends;
        passed = p.passed;
        inner = p.inner;
        next = p.next;
        is = p.is;
        last = refl;
        passed_rising = p.passed_rising;
        under = p.under;
        inner_rising = p.inner_rising;
        next_rising = p.next_rising;
      };
      leads = p.leads;
    }
