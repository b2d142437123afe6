-- What a sight shows of the history that goes on from it.
use Rattle.std.proofs.Common.{◌≡◌, ℕ, zero, suc, ◌-◌, ◌<◌, ◌≤◌, List, [], ◌∷◌, ◌++◌, length, map, take, refl}
use Rattle.std.proofs.Common.{sym, ap, ◌∙◌, subst, inl, inr, ⊎_elim, arith, append_assoc, length-append}
use Rattle.std.specs.Prelude.{slice_get, Some, IsPermutation}
use Rattle.std.specs.List.{range_with_len}
use Rattle.std.proofs.lemmas.Bool.{cases_lt}
use Rattle.std.proofs.lemmas.List.{get_or_past}
use Rattle.std.proofs.lemmas.List.FromFn.{get_or-map-range_with_len, length-map-range_with_len}
use Rattle.turn_lock.specs.Entries.{Begins}
use Rattle.plain_ballots.specs.Ballots.{plain}
use Rattle.batch_core.specs.declared.entry.Entry.{Entry}
use Rattle.batch_core.specs.declared.reply.Reply.{Reply}
use Rattle.batch_core.specs.Book.{empty, standing}
use Rattle.batch_core.specs.Histories.{after_all, IsLegal}
use Rattle.call_register.specs.declared.mark.Mark.{Mark}
use Rattle.call_register.specs.declared.mark.Mark.TheVariants.{Shard, Freeze, Strike}
use Rattle.call_register.specs.Marks.{marks_of, struck_by}
use Rattle.call_register.specs.Walk.{left, followed}
use Rattle.call_register.specs.Weaving.{Lists, HaveEntries, weave, weave_from, freeze_entry, mark_of, marks_in, part, parts}
use Rattle.call_register.proofs.Alike.{marks_of_part, no_part}
use Rattle.call_register.proofs.Back.{woven_back}
use Rattle.call_register.proofs.Places.{length_woven, change_at, freeze_at, strike_at}
use Rattle.call_register.proofs.Sights.{weave-append, entries_ahead}
use Rattle.call_register.proofs.Woven.{front_of_sight, front_marks}
use Rattle.frozen_plan.specs.Plan.{all_ballots}
use Rattle.shard_office.specs.Names.{strike_answer}
use Rattle.shard_office.specs.Sight.{Sight, by_shard, entries_of, history_of, GoesOn, IsWhole, IsChange, IsStrike}
use Rattle.frozen_version.specs.Versions.{VersionState, StandsIn}
use Rattle.shard_office.specs.Versions.{IsVersionOf, IsFreeze, history_at}
use Rattle.shard_office.specs.Closing.{sight_in}
use Rattle.shard_office.proofs.Places.{length_map}
use Rattle.shard_office.proofs.Tallied.{more_here}

-- a whole sight's history begins that of every longer one
pub histories_go_on : (before now : Sight) → IsWhole before → GoesOn before now → Begins (history_of before) (history_of now)
histories_go_on before now whole on =
    let L = by_shard before.lists in
    let more : Lists = λ s. (on.entries s).0 in
    let lists : by_shard now.lists ≡ followed L more = λ k s. (on.entries s).1 k in
    let enough : HaveEntries before.marks L = λ s. let e = whole s in omega arith in
    let rest = weave_from (struck_by before.marks) on.marks.0 (left before.marks (followed L more)) in (
      rest,
      (λ k. weave (on.marks.1 k) (lists k))
          ∙ (weave-append [] before.marks on.marks.0 (followed L more)
          ∙ ap (λ l. l ++ rest) (entries_ahead before.marks L more enough)),
    )

take_twice : {A : Type 0} (n : ℕ) (l : List A) → take n (take n l) ≡ take n l
take_twice zero l = refl
take_twice (suc n) [] = refl
take_twice (suc n) (x ∷ xs) = ap (λ t. x ∷ t) (take_twice n xs)

take_front : (l k : List Mark) → take (length l) (l ++ k) ≡ l
take_front [] k = refl
take_front (x ∷ l) k = ap (λ t. x ∷ t) (take_front l k)

split_at :
    {A : Type 0} (l : List A) (i : ℕ) (x : A) → slice_get l i ≡ Some x
    → (before : List A) × (after : List A) × (l ≡ before ++ x ∷ after) × (length before ≡ i)
split_at [] i x e = absurd (cc e)
split_at (y ∷ ys) zero x e = let is : y ≡ x = cc e in ([], ys, ap (λ z. z ∷ ys) is, refl)
split_at (y ∷ ys) (suc i) x e = let s = split_at ys i x e in (y ∷ s.0, s.1, ap (λ l. y ∷ l) s.2, ap suc s.3)

at_end : (l more : List Entry) (e : Entry) → slice_get (l ++ e ∷ more) (length l) ≡ Some e
at_end [] more e = refl
at_end (x ∷ l) more e = at_end l more e

-- the sight of a legal history
module _ (shards : ℕ) (history : List Entry) (some : 1 ≤ shards) (legal : IsLegal history) where
  abbrev P : Lists
  P = parts shards history

  abbrev M : List Mark
  M = marks_in shards history

  parts_at : (s : ℕ) → entries_of (sight_in shards history) s ≡ P s
  parts_at zero = sym (no_part shards some zero history (inl refl))
  parts_at (suc i) = ⊎_elim
      (λ (lt : i < shards). get_or-map-range_with_len (λ s. part shards s history) 1 shards i (suc i) [] lt (omega arith))
      (λ (le : shards ≤ i). get_or_past (map (λ s. part shards s history) (range_with_len 1 shards)) i []
      (let n = length-map-range_with_len (λ s. part shards s history) 1 shards in omega arith)
      ∙ sym (no_part shards some (suc i) history (inr (omega arith))))
      (cases_lt i shards)

  parts_seen : by_shard (sight_in shards history).lists ≡ P
  parts_seen k s = parts_at s k

  pub sight_whole : IsWhole (sight_in shards history)
  sight_whole s = marks_of_part shards s history ∙ ap length (sym (parts_at s))

  pub sight_shows : history_of (sight_in shards history) ≡ history
  sight_shows = ap (weave M) parts_seen ∙ woven_back shards history legal

  -- a sight from which the history goes on, whose last mark is this one
  module _ (now : Sight) (front : List Mark) (m : Mark) (last : now.marks ≡ front ++ m ∷ [])
      (on : GoesOn now (sight_in shards history)) where
    abbrev R : List Mark
    R = on.marks.0

    marks_are : M ≡ front ++ m ∷ R
    marks_are = on.marks.1 ∙ (ap (λ l. l ++ R) last ∙ append_assoc front (m ∷ []) R)

    enough_all : HaveEntries (front ++ m ∷ R) P
    enough_all =
        subst (λ (l : List Mark). HaveEntries l P) marks_are
        (λ s. let e = marks_of_part shards s history in omega arith)

    enough_front : HaveEntries front P
    enough_front s =
        let a = enough_all s in
        let b = front_marks s (length front) (front ++ m ∷ R) in
        let c = ap (marks_of s) (take_front front (m ∷ R)) in omega arith

    history_is : weave (front ++ m ∷ R) P ≡ history
    history_is = ap (λ l. weave l P) (sym marks_are) ∙ woven_back shards history legal

    front_is : length now.marks - 1 ≡ length front
    front_is = let e = ap length last ∙ length-append front (m ∷ []) in omega arith

    -- what is at the place of its mark
    pub stands :
        (e : Entry) → slice_get (weave (front ++ m ∷ R) P) (length front) ≡ Some e
        → slice_get history (length now.marks - 1) ≡ Some e
    stands e is = (λ k. slice_get (sym history_is k) (front_is k)) ∙ is

  pub change_stands :
      (s : ℕ) (e : Entry) (before now : Sight) → IsChange s e before now
      → GoesOn now (sight_in shards history) → slice_get history (length now.marks - 1) ≡ Some e
  change_stands s e before now is on =
      let front = before.marks ++ is.marks.0 in
      let l = entries_of before s ++ is.entries.0 in
      let more = (on.entries s).0 in
      let list : P s ≡ l ++ e ∷ more =
      sym (parts_at s)
      ∙ ((on.entries s).1 ∙ (ap (λ x. x ++ more) is.entries.1 ∙ append_assoc l (e ∷ []) more)) in
      let count : marks_of s front ≡ length l =
      let a = more_here s front in
      let b = ap (marks_of s) is.marks.1 in
      let c = is.whole in
      let d = ap length is.entries.1 ∙ length-append l (e ∷ []) in omega arith in
      stands now front (Shard s) is.marks.1 on e
      (change_at s front on.marks.0 P (enough_all now front (Shard s) is.marks.1 on)
      ∙ ((λ k. slice_get (list k) (count k)) ∙ at_end l more e))

  pub strike_stands :
      (caller candidate : ℕ) (answer : Reply) (before now : Sight)
      → IsStrike caller candidate answer before now → GoesOn now (sight_in shards history)
      → slice_get history (length now.marks - 1) ≡ Some (strike_answer caller candidate answer)
  strike_stands caller candidate answer before now is on =
      let front = before.marks ++ is.marks.0 in
      let m = Strike caller candidate in
      stands now front m is.marks.1 on (strike_answer caller candidate answer)
      (strike_at caller candidate front on.marks.0 P (enough_front now front m is.marks.1 on)
      ∙ ap (λ a. Some (strike_answer caller candidate a)) (sym is.marks.2))

  pub freeze_stands :
      (caller : ℕ) (version : VersionState) (before now : Sight) → IsFreeze shards caller version before now
      → GoesOn now (sight_in shards history) → slice_get history (version.at - 1) ≡ Some (freeze_entry caller)
  freeze_stands caller version before now is on =
      let front = before.marks ++ is.marks.0 in
      let place : version.at - 1 ≡ length now.marks - 1 =
      let a = is.at in
      let b = length_woven [] now.marks (by_shard now.lists) (λ s. let e = is.whole s in omega arith) in omega arith in
      ap (slice_get history) place
      ∙ stands now front (Freeze caller) is.marks.1 on (freeze_entry caller)
      (freeze_at caller front on.marks.0 P (enough_front now front (Freeze caller) is.marks.1 on))

  -- a version of the sight is in the history
  pub version_stands : (version : VersionState) → IsVersionOf version (sight_in shards history) → StandsIn version history
  version_stands version is =
      let at = version.at in
      let same : history_at at (sight_in shards history) ≡ take at history =
      sym (front_of_sight at [] M (by_shard (sight_in shards history).lists) is.entries)
      ∙ ap (take at) sight_shows in
      let split = split_at M (at - 1) (Freeze is.freeze.0) is.freeze.1 in
      let enough : HaveEntries split.0 P = λ s.
      let a = marks_of_part shards s history in
      let b = front_marks s (length split.0) M in
      let c =
      ap (marks_of s)
      (ap (take (length split.0)) split.2 ∙ take_front split.0 (Freeze is.freeze.0 ∷ split.1)) in
      omega arith in
      let whole : weave (split.0 ++ Freeze is.freeze.0 ∷ split.1) P ≡ history =
      ap (λ l. weave l P) (sym split.2) ∙ woven_back shards history legal in
      record {
        some = is.some;
        inside =
            (let a =
            is.seen in
            let b = length_map (λ (e : Entry). mark_of shards e.caller e.call) history in omega arith);
        freeze = (
          is.freeze.0,
          (λ k. slice_get (sym whole k) (sym split.3 k))
              ∙ freeze_at is.freeze.0 split.0 split.1 P enough,
        );
        ballots =
            subst (λ (h : List Entry). IsPermutation (all_ballots version.plans)
            (plain (standing (after_all empty h)))) (ap (take at) same ∙ take_twice at history)
            is.ballots;
        struck = is.struck ∙ ap (λ (h : List Entry). (after_all empty h).struck) (ap (take at) same ∙ take_twice at history);
      }
