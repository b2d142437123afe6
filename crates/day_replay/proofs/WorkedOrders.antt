-- Two orders of two teams' calls, worked by hand.
use Rattle.std.proofs.Common.{◌≡◌, ℕ, zero, suc, ◌-◌, ◌==◌, ◌<◌, ◌≤◌, false}
use Rattle.std.proofs.Common.{cond, List, [], ◌∷◌, ◌++◌}
use Rattle.std.proofs.Common.{refl, sym, ap, ◌∙◌, subst, arith, codes, get_or, take}
use Rattle.std.specs.Prelude.{All, slice_get, slice_index_or, reverse, Option, unwrap_or}
use Rattle.std.specs.List.{flat_map}
use Rattle.std.specs.Fmt.{digits}
use Rattle.std.proofs.lemmas.Bool.{ne_eqb}
use Rattle.std.proofs.lemmas.List.Elements.{All-cons, All-nil}
use Rattle.batch_core.specs.declared.call.Call.{Call}
use Rattle.batch_core.specs.declared.call.Call.TheVariants.{Strike}
use Rattle.batch_core.specs.declared.reply.Reply.TheVariants.{Struck}
use Rattle.batch_core.specs.declared.entry.Entry.{Entry}
use Rattle.batch_core.specs.Histories.{own_calls}
use Rattle.batch_core.specs.Laws.{AnswersEachCall}
use Rattle.day_reader.specs.declared.script.Script.{Script}
use Rattle.day_lines.specs.DayHistory.{calls_of, calls_in, clerk_freeze, IsHistoryOf}
use Rattle.day_lines.specs.EntryText.{entry_line}
use Rattle.sheet_text.specs.Lines.{ended}
use Rattle.sheet_check.specs.Difference.{line_at}
use Rattle.day_replay.specs.Calls.{IsUnderWay, left_of}
use Rattle.day_replay.specs.Saying.{Says}
use Rattle.day_replay.specs.Nearest.{BeginsAs, HasFollowed, HasSaid, IsNearest}
use Rattle.day_replay.specs.Worked.{WorkedOrders, made_by, two_teams, one_first, two_first, two_teams_text}
use Rattle.day_replay.proofs.Nearest.{nearest}

-- a team from 3 on is in no script, and has made no call
module _ (k : ℕ) where
  abbrev late : ℕ
  late = suc (suc (suc k))

  no : (n : ℕ) → n < 3 → (n == late) ≡ false
  no n small = ne_eqb n late (λ is. absurd (omega (arith, is, small)))

  none_left : calls_in two_teams late ≡ []
  none_left i =
      flat_map (λ (s : Script). s.calls)
      (cond (no 1 (omega arith) i) (record { team = 1; calls = Strike 1 ∷ [] }
      ∷ cond (no 2 (omega arith) i) (record { team = 2; calls = Strike 2 ∷ [] } ∷ []) [])
      (cond (no 2 (omega arith) i) (record { team = 2; calls = Strike 2 ∷ [] } ∷ []) []))

  none_made :
      (a b : ℕ) → a < 3 → b < 3
      → own_calls late (made_by a (Strike a) Struck ∷ made_by b (Strike b) Struck ∷ clerk_freeze ∷ []) ≡ []
  none_made a b one other i =
      cond (no a one i)
      (made_by a (Strike a) Struck
      ∷ cond (no b other i)
      (made_by b (Strike b) Struck ∷ cond (no 0 (omega arith) i) (clerk_freeze ∷ []) [])
      (cond (no 0 (omega arith) i) (clerk_freeze ∷ []) []))
      (cond (no b other i) (made_by b (Strike b) Struck ∷ cond (no 0 (omega arith) i) (clerk_freeze ∷ []) [])
      (cond (no 0 (omega arith) i) (clerk_freeze ∷ []) []))

whole_one : (team : ℕ) → 1 ≤ team → calls_of (own_calls team one_first) ≡ calls_in two_teams team
whole_one zero some = absurd (omega (arith, some))
whole_one (suc zero) some = refl
whole_one (suc (suc zero)) some = refl
whole_one (suc (suc (suc k))) some = ap calls_of (none_made k 1 2 (omega arith) (omega arith)) ∙ sym (none_left k)

whole_two : (team : ℕ) → 1 ≤ team → calls_of (own_calls team two_first) ≡ calls_in two_teams team
whole_two zero some = absurd (omega (arith, some))
whole_two (suc zero) some = refl
whole_two (suc (suc zero)) some = refl
whole_two (suc (suc (suc k))) some = ap calls_of (none_made k 2 1 (omega arith) (omega arith)) ∙ sym (none_left k)

pub one_is : IsHistoryOf two_teams one_first
one_is = record {
  legal = (refl, (refl, (refl, tt)));
  ends = record { before = made_by 1 (Strike 1) Struck ∷ made_by 2 (Strike 2) Struck ∷ []; last = refl; no_other = refl };
  whole = whole_one;
}

pub two_is : IsHistoryOf two_teams two_first
two_is = record {
  legal = (refl, (refl, (refl, tt)));
  ends = record { before = made_by 2 (Strike 2) Struck ∷ made_by 1 (Strike 1) Struck ∷ []; last = refl; no_other = refl };
  whole = whole_two;
}

-- ---- along the text

abbrev first_call : List Entry
first_call = made_by 2 (Strike 2) Struck ∷ []

said_first : HasSaid two_teams_text first_call
unfolding digits
said_first zero e at =
    subst (λ (x : Entry). (1 ≤ x.caller) × Says 1 x.caller (line_at 0 two_teams_text))
    (ap (λ (o : Option Entry). unwrap_or o (made_by 2 (Strike 2) Struck)) at)
    (omega arith, (codes "strike 2 struck\n", refl))
said_first (suc k) e at = absurd (cc)

-- only team 1 has a call left, and the second line is not its line
stops_there :
    (team : ℕ) → 1 ≤ team → Says 2 team (line_at 1 two_teams_text) → left_of ((Strike 1 ∷ []) ∷ []) team ≡ []
unfolding digits
stops_there zero some says = absurd (omega (arith, some))
stops_there (suc zero) some says = absurd (omega (arith, ap (λ (l : List ℕ). get_or l 7 0) says.1))
stops_there (suc (suc k)) some says =
    let one : suc (suc k) - 1 ≡ suc k = omega arith in
    ap (λ (n : ℕ). reverse (slice_index_or ((Strike 1 ∷ []) ∷ []) n [])) one

pub followed : HasFollowed two_teams_text ((Strike 1 ∷ []) ∷ []) first_call
followed = record { said = said_first; stops = stops_there }

-- team 1's call is left
abbrev one_left : List (List Call)
one_left = (Strike 1 ∷ []) ∷ []

each_left : (team : ℕ) → 1 ≤ team → calls_of (own_calls team first_call) ++ left_of one_left team ≡ calls_in two_teams team
each_left zero some = absurd (omega (arith, some))
each_left (suc zero) some = refl
each_left (suc (suc zero)) some = refl
each_left (suc (suc (suc k))) some =
    (λ i. calls_of (cond (no k 2 (omega arith) i) first_call [])
    ++ reverse (slice_index_or one_left (one i) [])) ∙ sym (none_left k)
  where
    one : suc (suc (suc k)) - 1 ≡ suc (suc k)
    one = omega arith

abbrev IsNumbered : Script → Type 0
IsNumbered script = (1 ≤ script.team) × (script.team ≤ 16)

pub nearest_is : AnswersEachCall → IsNearest two_teams two_teams_text two_first
nearest_is replies =
    nearest two_teams numbers replies two_teams_text one_left two_first first_call
    (made_by 1 (Strike 1) Struck ∷ clerk_freeze ∷ []) two_is refl way followed
  where
    numbers : All IsNumbered two_teams
    numbers =
        All-cons IsNumbered (record { team = 1; calls = Strike 1 ∷ [] }) (record { team = 2; calls = Strike 2 ∷ [] } ∷ [])
        (omega arith, omega arith)
        (All-cons IsNumbered (record { team = 2; calls = Strike 2 ∷ [] }) [] (omega arith, omega arith) (All-nil IsNumbered))

    way : IsUnderWay two_teams one_left first_call
    way = record { legal = (refl, tt); no_clerk = refl; each = each_left }

-- the first line is that of the other order
pub not_nearest : ¬ IsNearest two_teams two_teams_text one_first
unfolding digits
not_nearest nearest =
    let same : take 1 two_first ≡ take 1 one_first = nearest two_first 1 two_is (omega arith) begins in
    absurd (omega (arith, ap (λ (l : List Entry). (unwrap_or (slice_get l 0) clerk_freeze).caller) same))
  where
    begins : BeginsAs 1 two_teams_text two_first
    begins zero e below at =
        subst (λ (x : Entry). line_at 0 two_teams_text ≡ ended (entry_line 1 x))
        (ap (λ (o : Option Entry). unwrap_or o (made_by 2 (Strike 2) Struck)) at) refl
    begins (suc k) e below at = absurd (omega (arith, below))

pub worked_orders : AnswersEachCall → WorkedOrders
worked_orders replies = record {
  one = one_is;
  two = two_is;
  followed = followed;
  nearest = nearest_is replies;
  not_nearest = not_nearest;
}
