-- What stood at the freezes of a history.
use Rattle.std.proofs.Common.{◌≡◌, ℕ, ◌+◌, ◌-◌, ◌<◌, ◌≤◌, Bool, true, false, cond, List, [], ◌∷◌, ◌++◌, length, filter, map, take, get_or}
use Rattle.std.proofs.Common.{refl, sym, ap, ◌∙◌, subst, arith}
use Rattle.std.specs.Prelude.{All, Some, slice_get, IsPermutation, unwrap_or, Option}
use Rattle.std.specs.List.{enumerate_from}
use Rattle.std.proofs.lemmas.List.{append-nil, append_assoc, map-append, length-take-le, take_all}
use Rattle.std.proofs.lemmas.List.Elements.{All-nil, All-push}
use Rattle.std.proofs.lemmas.Option.{slice_get-get_or}
use Rattle.plain_ballots.specs.Ballots.{plain}
use Rattle.batch_core.specs.declared.call.Call.{Call}
use Rattle.batch_core.specs.declared.call.Call.TheVariants.{Change, Freeze, Strike}
use Rattle.batch_core.specs.declared.reply.Reply.TheVariants.{Frozen}
use Rattle.batch_core.specs.declared.entry.Entry.{Entry}
use Rattle.batch_core.specs.Book.{BookState, empty, after, reply, standing}
use Rattle.batch_core.specs.Histories.{IsLegal, after_all}
use Rattle.batch_core.specs.Laws.{AnswersEachCall, LeadsOn}
use Rattle.call_register.specs.Weaving.{freeze_entry}
use Rattle.frozen_plan.specs.Plan.{all_ballots}
use Rattle.day_reader.specs.Call.{is_freeze}
use Rattle.frozen_version.specs.Versions.{VersionState, StandsIn}
use Rattle.day_lines.specs.DayText.{freeze_places}
use Rattle.day_sheets.specs.Frozen.{AreFrozen}
use Rattle.day_replay.proofs.HistoryFronts.{front_more, reply_here, book_here}
use Rattle.day_replay.proofs.Lists.{inside}

-- ---- at a freeze

freeze_is : (asked : Call) → is_freeze asked ≡ true → asked ≡ Freeze
freeze_is Freeze is = refl
freeze_is (Change change) is = absurd (cc)
freeze_is (Strike c) is = absurd (cc)

pub item_at : {X : Type 0} (xs : List X) (n : ℕ) (x : X) → slice_get xs n ≡ Some x → x ≡ get_or xs n x
item_at {X = X} xs n x at =
    ap (λ (o : Option X). unwrap_or o x) (sym at ∙ slice_get-get_or xs n x (inside xs n x at))

-- what stands after the calls before a freeze is what is at the freeze
module _ (leads : LeadsOn) (answers : AnswersEachCall) (history : List Entry) (legal : IsLegal history) (n : ℕ) (e : Entry)
    (at : slice_get history n ≡ Some e) (freezes : is_freeze e.call ≡ true) where
  below : n < length history
  below = inside history n e at

  here : e ≡ get_or history n e
  here = item_at history n e at

  abbrev earlier : List Entry
  earlier = take n history

  asked : e.call ≡ Freeze
  asked = freeze_is e.call freezes

  answer : e.reply ≡ Frozen
  answer = reply_here history n e below here answers legal ∙ ap (reply (after_all empty earlier)) asked

  entry : e ≡ freeze_entry e.caller
  entry = λ i. record { caller = e.caller; call = asked i; reply = answer i }

  book : (k : ℕ) → k ≡ n + 1 → after_all empty earlier ≡ after_all empty (take k history)
  book k is =
      sym (ap (after (after_all empty earlier)) asked)
      ∙ (sym (book_here history n e below here leads) ∙ ap (λ (m : ℕ). after_all empty (take m history)) (sym is))

  pub stands_at :
      (v : VersionState) → v.at ≡ n + 1
      → IsPermutation (all_ballots v.plans) (plain (standing (after_all empty (take n history))))
      → v.struck ≡ (after_all empty (take n history)).struck → StandsIn v history
  stands_at v is ballots struck = record {
    some = omega (arith, is);
    inside = omega (arith, is, below);
    freeze = (
      e.caller,
      (let place : v.at - 1 ≡ n = omega (arith, is) in ap (slice_get history) place ∙ (at ∙ ap (λ (x : Entry). Some x) entry)),
    );
    ballots =
        subst (λ (b : BookState). IsPermutation (all_ballots v.plans) (plain (standing b))) (book v.at is) ballots;
    struck = struck ∙ ap (λ (b : BookState). b.struck) (book v.at is);
  }

-- ---- at all freezes

-- the places of the freezes, where the first call has this place
abbrev places_from : ℕ → List Entry → List ℕ
places_from place history = map (λ e. e.0) (filter (λ e. is_freeze e.1.call) (enumerate_from place history))

abbrev places_of : List (ℕ × Entry) → List ℕ
places_of entries = map (λ (e : ℕ × Entry). e.0) entries

taken_if :
    (b : Bool) (first : ℕ × Entry) (rest : List (ℕ × Entry)) (front back : List ℕ) → places_of rest ≡ front ++ back
    → places_of (cond b (first ∷ rest) rest) ≡ places_of (cond b (first ∷ []) []) ++ (front ++ back)
taken_if true first rest front back is = ap (λ (l : List ℕ). first.0 ∷ l) is
taken_if false first rest front back is = is

abbrev freezes_in : List (ℕ × Entry) → List (ℕ × Entry)
freezes_in entries = filter (λ (e : ℕ × Entry). is_freeze e.1.call) entries

abbrev place_if : Bool → ℕ → List ℕ
place_if b place = cond b (place ∷ []) []

one_place : (b : Bool) (place : ℕ) (e : Entry) → places_of (cond b ((place, e) ∷ []) []) ≡ place_if b place
one_place true place e = refl
one_place false place e = refl

places_on :
    (place : ℕ) (history : List Entry) (e : Entry)
    → places_from place (history ++ e ∷ [])
    ≡ places_from place history ++ place_if (is_freeze e.call) (place + length history)
places_on place [] e =
    let here : place ≡ place + 0 = omega arith in
    one_place (is_freeze e.call) place e ∙ ap (place_if (is_freeze e.call)) here
places_on place (x ∷ xs) e =
    let last = place_if (is_freeze e.call) (place + 1 + length xs) in
    let same : place + 1 + length xs ≡ place + length (x ∷ xs) = omega arith in
    let front = places_from (place + 1) xs in
    taken_if (is_freeze x.call) (place, x) (freezes_in (enumerate_from (place + 1) (xs ++ e ∷ []))) front last
    (places_on (place + 1) xs e)
    ∙ (sym (append_assoc (places_of (cond (is_freeze x.call) ((place, x) ∷ []) [])) front last)
    ∙ (λ i. sym (kept (is_freeze x.call)) i ++ place_if (is_freeze e.call) (same i)))
  where
    kept :
        (b : Bool)
        → places_of (cond b ((place, x) ∷ freezes_in (enumerate_from (place + 1) xs))
        (freezes_in (enumerate_from (place + 1) xs)))
        ≡ places_of (cond b ((place, x) ∷ []) []) ++ places_from (place + 1) xs
    kept true = refl
    kept false = refl

-- what stood at the freezes among the first k calls
pub record AreSoFar (n : ℕ) (history : List Entry) (k : ℕ) (versions : List VersionState) : Type 0 where
  pub places : map (λ version. version.at) versions ≡ freeze_places (take k history)
  pub stand : All (λ version. StandsIn version history) versions
  pub of_all : All (λ version. version.candidates ≡ n) versions

pub none_so_far : (n : ℕ) (history : List Entry) → AreSoFar n history 0 []
none_so_far n history = record {
  places = refl;
  stand = All-nil (λ (v : VersionState). StandsIn v history);
  of_all = All-nil (λ (v : VersionState). v.candidates ≡ n);
}

module _ (n : ℕ) (history : List Entry) (k : ℕ) (e : Entry) (versions : List VersionState) (below : k < length history)
    (at : e ≡ get_or history k e) (are : AreSoFar n history k versions) where
  grown : freeze_places (take (k + 1) history) ≡ freeze_places (take k history) ++ place_if (is_freeze e.call) (k + 1)
  grown =
      let long : length (take k history) ≡ k = length-take-le k history (omega (arith, below)) in
      let place : 1 + length (take k history) ≡ k + 1 = omega (arith, long) in
      ap freeze_places (front_more history k e below at)
      ∙ (places_on 1 (take k history) e
      ∙ ap (λ (m : ℕ). freeze_places (take k history) ++ place_if (is_freeze e.call) m) place)

  -- a call that is no freeze
  pub no_more : is_freeze e.call ≡ false → AreSoFar n history (k + 1) versions
  no_more not = record {
    places =
        are.places
        ∙ (sym (append-nil (freeze_places (take k history)))
        ∙ (ap (λ (b : Bool). freeze_places (take k history) ++ place_if b (k + 1)) (sym not) ∙ sym grown));
    stand = are.stand;
    of_all = are.of_all;
  }

  -- a freeze
  pub one_more :
      (v : VersionState) → is_freeze e.call ≡ true → v.at ≡ k + 1 → v.candidates ≡ n → StandsIn v history
      → AreSoFar n history (k + 1) (versions ++ v ∷ [])
  one_more v freezes is of stands = record {
    places =
        map-append (λ (w : VersionState). w.at) versions (v ∷ [])
        ∙ ((λ i. are.places i ++ is i ∷ [])
        ∙ (ap (λ (b : Bool). freeze_places (take k history) ++ place_if b (k + 1)) (sym freezes) ∙ sym grown));
    stand = All-push (λ (w : VersionState). StandsIn w history) versions v are.stand stands;
    of_all = All-push (λ (w : VersionState). w.candidates ≡ n) versions v are.of_all of;
  }

pub all_frozen :
    (n : ℕ) (history : List Entry) (k : ℕ) (versions : List VersionState) → AreSoFar n history k versions
    → length history ≤ k → AreFrozen n history versions
all_frozen n history k versions are all = record {
  places = are.places ∙ ap freeze_places (take_all k history all);
  stand = are.stand;
  of_all = are.of_all;
}
