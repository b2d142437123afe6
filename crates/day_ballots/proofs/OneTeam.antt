-- A day of one team with two calls has one history.
use Rattle.std.proofs.Common.{◌≡◌, ℕ, zero, suc, Bool, cond}
use Rattle.std.proofs.Common.{List, [], ◌∷◌, ◌++◌}
use Rattle.std.proofs.Common.{refl, sym, ap, ◌∙◌, subst, arith}
use Rattle.std.specs.Prelude.{slice_get, Some, unwrap_or}
use Rattle.std.specs.List.{flat_map}
use Rattle.std.proofs.lemmas.Bool.{ne_eqb}
use Rattle.std.proofs.lemmas.List.{append-nil}
use Rattle.batch_core.specs.declared.call.Call.{Call}
use Rattle.batch_core.specs.declared.entry.Entry.{Entry}
use Rattle.batch_core.specs.Book.{empty, reply, after}
use Rattle.batch_core.specs.Histories.{IsLegal, own_calls}
use Rattle.day_reader.specs.declared.script.Script.{Script}
use Rattle.day_lines.specs.DayHistory.{calls_of, calls_in, IsHistoryOf, clerk_freeze}
use Rattle.day_replay.specs.Worked.{made_by}
use Rattle.day_replay.proofs.Own.{own_append, own_first, none_by}

module _ (es : List Entry) (clerk : own_calls 0 es ≡ []) (others : (k : ℕ) → own_calls (suc (suc k)) es ≡ []) where
  -- a call that neither the clerk nor another team has made is team 1's
  made_by_one : (n : ℕ) (e : Entry) → slice_get es n ≡ Some e → e.caller ≡ 1
  made_by_one n e at = by e.caller refl
    where
      by : (caller : ℕ) → e.caller ≡ caller → e.caller ≡ 1
      by zero is = absurd (none_by 0 es n e clerk at is)
      by (suc zero) is = is
      by (suc (suc k)) is = absurd (none_by (suc (suc k)) es n e (others k) at is)

all_of_one : (es : List Entry) → ((n : ℕ) (e : Entry) → slice_get es n ≡ Some e → e.caller ≡ 1) → own_calls 1 es ≡ es
all_of_one [] ones = refl
all_of_one (e ∷ es) ones =
    own_first 1 e es (ones 0 e refl) ∙ ap (λ (l : List Entry). e ∷ l) (all_of_one es (λ n. ones (suc n)))

no_calls : (es : List Entry) → calls_of es ≡ [] → es ≡ []
no_calls [] none = refl
no_calls (e ∷ es) none = absurd (cc)

no_front : (xs ys : List Entry) → xs ++ ys ≡ [] → xs ≡ []
no_front [] ys none = refl
no_front (x ∷ xs) ys none = absurd (cc)

module _ (first second : Call) where
  abbrev scripts : List Script
  scripts = record { team = 1; calls = first ∷ second ∷ [] } ∷ []

  no_script : (k : ℕ) → calls_in scripts (suc (suc k)) ≡ []
  no_script k =
      ap (λ (b : Bool). flat_map (λ (s : Script). s.calls) (cond b scripts []))
      (ne_eqb 1 (suc (suc k)) (λ is. absurd (omega (arith, is))))

  -- before the clerk's freeze all calls are team 1's
  module _ (history : List Entry) (is : IsHistoryOf scripts history) where
    abbrev before : List Entry
    before = is.ends.before

    others : (k : ℕ) → own_calls (suc (suc k)) before ≡ []
    others k =
        no_front (own_calls (suc (suc k)) before) (own_calls (suc (suc k)) (clerk_freeze ∷ []))
        (sym (own_append (suc (suc k)) before (clerk_freeze ∷ []))
        ∙ (ap (own_calls (suc (suc k))) (sym is.ends.last)
        ∙ no_calls (own_calls (suc (suc k)) history) (is.whole (suc (suc k)) (omega arith) ∙ no_script k)))

    ones : (n : ℕ) (e : Entry) → slice_get before n ≡ Some e → e.caller ≡ 1
    ones = made_by_one before is.ends.no_other others

    calls : calls_of before ≡ first ∷ second ∷ []
    calls =
        ap calls_of (sym (all_of_one before ones)
        ∙ (sym (append-nil (own_calls 1 before)) ∙ sym (own_append 1 before (clerk_freeze ∷ []))))
        ∙ (ap (λ (l : List Entry). calls_of (own_calls 1 l)) (sym is.ends.last) ∙ is.whole 1 (omega arith))

  -- what is before the clerk's freeze, by its calls and their replies
  two_entries :
      (es : List Entry) → ((n : ℕ) (e : Entry) → slice_get es n ≡ Some e → e.caller ≡ 1) → calls_of es ≡ first ∷ second ∷ []
      → IsLegal (es ++ clerk_freeze ∷ [])
      → es ≡ made_by 1 first (reply empty first) ∷ made_by 1 second (reply (after empty first) second) ∷ []
  two_entries [] ones calls legal = absurd (cc)
  two_entries (e ∷ []) ones calls legal = absurd (cc)
  two_entries (e ∷ (f ∷ (g ∷ es))) ones calls legal = absurd (cc)
  two_entries (e ∷ (f ∷ [])) ones calls legal =
      λ i. made_by (ones 0 e refl i) (call i) (answer i) ∷ made_by (ones 1 f refl i) (next i) (last i) ∷ []
    where
      call : e.call ≡ first
      call = ap (λ (l : List Call). unwrap_or (slice_get l 0) first) calls

      next : f.call ≡ second
      next = ap (λ (l : List Call). unwrap_or (slice_get l 1) second) calls

      answer : e.reply ≡ reply empty first
      answer = legal.0 ∙ ap (reply empty) call

      last : f.reply ≡ reply (after empty first) second
      last = legal.1.0 ∙ (λ i. reply (after empty (call i)) (next i))

  -- so there is no other history
  pub only_history :
      (history : List Entry) → IsHistoryOf scripts history
      → history
      ≡ made_by 1 first (reply empty first)
      ∷ made_by 1 second (reply (after empty first) second)
      ∷ clerk_freeze
      ∷ []
  only_history history is =
      is.ends.last
      ∙ ap (λ (l : List Entry). l ++ clerk_freeze ∷ [])
      (two_entries is.ends.before (ones history is) (calls history is) (subst IsLegal is.ends.last is.legal))
