-- A team's next call is taken.
use Rattle.std.proofs.Common.{◌≡◌, ◌≢◌, ⊎_elim, ℕ, zero, suc, ◌+◌, ◌-◌, ◌<◌, ◌≤◌, List, [], ◌∷◌, ◌++◌, length, get_or, set}
use Rattle.std.proofs.Common.{refl, sym, ap, ◌∙◌, subst, arith}
use Rattle.std.specs.Prelude.{All, reverse}
use Rattle.std.proofs.lemmas.Bool.{cases_eq}
use Rattle.std.proofs.lemmas.List.{length-append, length-set, reverse-append, get_or-set_same, get_or-set_other, get_or_default, get_or_past}
use Rattle.std.proofs.lemmas.List.Elements.{All-head, All-tail}
use Rattle.batch_core.specs.declared.call.Call.{Call}
use Rattle.day_reader.specs.Said.{IsAnswerable}
use Rattle.day_replay.specs.Calls.{left_of, calls_left, AreAnswerable, IsTaken}

-- no team beyond the last has calls left
pub none_beyond : (left : List (List Call)) (team : ℕ) → length left < team → left_of left team ≡ []
none_beyond left team beyond = ap reverse (get_or_past left (team - 1) [] (omega (arith, beyond)))

fewer_by_one :
    (old : List (List Call)) (i : ℕ) (rest : List Call) (call : Call) → i < length old → get_or old i [] ≡ rest ++ call ∷ []
    → calls_left (set old i rest) + 1 ≡ calls_left old
fewer_by_one [] i rest call below is = absurd (omega (arith, below))
fewer_by_one (x ∷ xs) zero rest call below is =
    let long : length x ≡ length rest + 1 = ap length is ∙ length-append rest (call ∷ []) in
    let now : calls_left (rest ∷ xs) ≡ length rest + calls_left xs = refl in
    let before : calls_left (x ∷ xs) ≡ length x + calls_left xs = refl in
    omega (arith, long, now, before)
fewer_by_one (x ∷ xs) (suc i) rest call below is =
    let less = fewer_by_one xs i rest call (omega (arith, below)) is in
    let now : calls_left (x ∷ set xs i rest) ≡ length x + calls_left (set xs i rest) = refl in
    let before : calls_left (x ∷ xs) ≡ length x + calls_left xs = refl in
    omega (arith, less, now, before)

module _ (old : List (List Call)) (team : ℕ) (list rest : List Call) (call : Call) (some : 1 ≤ team) (few : team ≤ 16)
    (teams : length old ≡ 16) (read : list ≡ get_or old (team - 1) list) (parts : list ≡ rest ++ call ∷ []) where
  below : team - 1 < length old
  below = omega (arith, some, few, teams)

  now : get_or old (team - 1) [] ≡ rest ++ call ∷ []
  now = get_or_default old (team - 1) [] list below ∙ (sym read ∙ parts)

  later : get_or (set old (team - 1) rest) (team - 1) [] ≡ rest
  later = get_or-set_same old (team - 1) rest [] below

  next : left_of old team ≡ call ∷ left_of (set old (team - 1) rest) team
  next = ap reverse now ∙ (reverse-append rest (call ∷ []) ∙ ap (λ (l : List Call). call ∷ reverse l) (sym later))

  others : (other : ℕ) → 1 ≤ other → other ≢ team → left_of (set old (team - 1) rest) other ≡ left_of old other
  others other from differs =
      ap reverse (get_or-set_other old (team - 1) (other - 1) rest [] (λ same. differs (omega (arith, same, from, some))))

  answerable :
      (candidates : ℕ) → AreAnswerable candidates old
      → IsAnswerable candidates call × AreAnswerable candidates (set old (team - 1) rest)
  answerable candidates are =
      let own = subst (All (IsAnswerable candidates)) next (are team some) in (
        All-head (IsAnswerable candidates) call (left_of (set old (team - 1) rest) team) own,
        λ other from.
            ⊎_elim
            (λ same. subst (λ (t : ℕ). All (IsAnswerable candidates) (left_of (set old (team - 1) rest) t)) (sym same)
            (All-tail (IsAnswerable candidates) call (left_of (set old (team - 1) rest) team) own))
            (λ differs. subst (All (IsAnswerable candidates)) (sym (others other from differs)) (are other from))
            (cases_eq other team),
      )

  pub taken : IsTaken team call old (set old (team - 1) rest)
  taken = record {
    next = next;
    others = others;
    fewer = fewer_by_one old (team - 1) rest call below now;
    teams = length-set old (team - 1) rest;
    answerable = answerable;
  }
