-- The last version of a day is that of the clerk's freeze, the last of all calls.
use Rattle.std.proofs.Common.{◌≡◌, ℕ, ◌+◌, ◌≤◌, Bool, true, false, cond, List, [], ◌∷◌, ◌++◌, length, map}
use Rattle.std.proofs.Common.{filter, sym, ap, ◌∙◌, arith, length-append}
use Rattle.std.specs.Prelude.{Some}
use Rattle.std.specs.List.{enumerate_from}
use Rattle.std.proofs.lemmas.List.{map-append, length-map, same_from_push}
use Rattle.std.proofs.lemmas.List.Elements.{All-pop}
use Rattle.batch_core.specs.declared.entry.Entry.{Entry}
use Rattle.day_reader.specs.Call.{is_freeze}
use Rattle.frozen_version.specs.Versions.{VersionState, StandsIn}
use Rattle.day_lines.specs.DayText.{freeze_places}
use Rattle.day_lines.specs.DayHistory.{clerk_freeze, EndsWithTheClerk}
use Rattle.day_sheets.specs.Frozen.{AreFrozen}

-- the places of the freezes, where the first call has this place
abbrev places_from : ℕ → List Entry → List ℕ
places_from place history = map (λ e. e.0) (filter (λ e. is_freeze e.1.call) (enumerate_from place history))

first_place : (frozen : Bool) (place : ℕ) (e : Entry) (rest : List (ℕ × Entry)) (front : List ℕ) (n : ℕ)
    → (map (λ x. x.0) rest ≡ front ++ n ∷ [])
    → (more : List ℕ) × (map (λ x. x.0) (cond frozen ((place, e) ∷ rest) rest) ≡ more ++ n ∷ [])
first_place true place e rest front n is = (place ∷ front, ap (λ (l : List ℕ). place ∷ l) is)
first_place false place e rest front n is = (front, is)

-- the last freeze is at the end
ends_at :
    (place : ℕ) (before : List Entry)
    → (front : List ℕ)
    × (places_from place (before ++ clerk_freeze ∷ []) ≡ front ++ (place + length before) ∷ [])
ends_at place [] =
    let here : place ≡ place + 0 = omega arith in
    ([], ap (λ (n : ℕ). n ∷ []) here)
ends_at place (e ∷ es) =
    let rest = ends_at (place + 1) es in
    let same : place + 1 + length es ≡ place + length (e ∷ es) = omega arith in
    first_place (is_freeze e.call) place e
    (filter (λ (x : ℕ × Entry). is_freeze x.1.call) (enumerate_from (place + 1) (es ++ clerk_freeze ∷ [])))
    rest.0 (place + length (e ∷ es)) (rest.1 ∙ ap (λ (n : ℕ). rest.0 ++ n ∷ []) same)

last_place :
    (history : List Entry) → EndsWithTheClerk history
    → (front : List ℕ) × (freeze_places history ≡ front ++ length history ∷ [])
last_place history ends =
    let at = ends_at 1 ends.before in
    let long : length history ≡ 1 + length ends.before =
    ap length ends.last ∙ (length-append ends.before (clerk_freeze ∷ []) ∙ omega arith) in
    (at.0, ap freeze_places ends.last ∙ (at.1 ∙ ap (λ (n : ℕ). at.0 ++ n ∷ []) (sym long)))

-- some call is a freeze
pub some_version :
    (n : ℕ) (history : List Entry) (versions : List VersionState) → AreFrozen n history versions
    → EndsWithTheClerk history → 1 ≤ length versions
some_version n history versions frozen ends =
    let last = last_place history ends in
    let long = ap length (frozen.places ∙ last.1) in
    let many = length-map versions (λ (v : VersionState). v.at) in
    let one = length-append last.0 (length history ∷ []) in
    omega (arith, long, many, one)

-- The version of the clerk's freeze: it has what stands after all calls.
pub record IsClerks (n : ℕ) (history : List Entry) (version : VersionState) : Type 0 where
  pub at : version.at ≡ length history
  pub stands : StandsIn version history
  pub candidates : version.candidates ≡ n

pub clerks :
    (n : ℕ) (history : List Entry) (versions before : List VersionState) (version : VersionState)
    → AreFrozen n history versions → EndsWithTheClerk history
    → versions ≡ before ++ version ∷ [] → IsClerks n history version
clerks n history versions before version frozen ends is =
    let last = last_place history ends in
    let places : map (λ v. v.at) before ++ version.at ∷ [] ≡ last.0 ++ length history ∷ [] =
    sym (map-append (λ (v : VersionState). v.at) before (version ∷ []))
    ∙ (ap (map (λ (v : VersionState). v.at)) (sym is) ∙ (frozen.places ∙ last.1)) in
    record {
      at = (same_from_push (map (λ (v : VersionState). v.at) before) last.0 version.at (length history) places).1;
      stands =
          (All-pop (λ (v : VersionState). StandsIn v history) versions before (Some version) is frozen.stand).1;
      candidates =
          (All-pop (λ (v : VersionState). v.candidates ≡ n) versions before (Some version) is frozen.of_all).1;
    }
