-- What stays in longer sights.
use Rattle.std.proofs.Common.{◌≡◌, ℕ, ◌+◌, ◌-◌, ◌<◌, List, [], ◌∷◌, ◌++◌, length, refl, sym, ap, subst, ◌∙◌}
use Rattle.std.proofs.Common.{append_assoc, append-nil, length-append, arith}
use Rattle.std.specs.Prelude.{slice_get, Option, Some}
use Rattle.std.proofs.lemmas.List.{length-map}
use Rattle.turn_lock.specs.Entries.{Begins}
use Rattle.batch_core.specs.declared.entry.Entry.{Entry}
use Rattle.call_register.specs.declared.mark.Mark.{Mark}
use Rattle.call_register.specs.declared.mark.Mark.TheVariants.{Freeze}
use Rattle.call_register.specs.Weaving.{mark_of}
use Rattle.shard_office.specs.Sight.{Sight, GoesOn, history_of}
use Rattle.shard_office.specs.Passes.{PassState}
use Rattle.frozen_version.specs.Versions.{VersionState}
use Rattle.shard_office.specs.Versions.{IsFreeze}
use Rattle.shard_office.specs.Laws.{VersionsStay}
use Rattle.team_run.specs.Teams.{FrozeAt, IsFreezeOf}
use Rattle.team_run.specs.Runs.{IsSamePass}
use Rattle.team_run.proofs.Lists.{get_ahead, get_last}

begins_further : {E : Type 0} (xs ys zs : List E) → Begins xs ys → Begins ys zs → Begins xs zs
begins_further {E = E} xs ys zs one other =
    (one.0 ++ other.0, other.1 ∙ (ap (λ (l : List E). l ++ other.0) one.1 ∙ append_assoc xs one.0 other.0))

pub goes_on_further : (s t u : Sight) → GoesOn s t → GoesOn t u → GoesOn s u
goes_on_further s t u one other = record {
  marks = begins_further s.marks t.marks u.marks one.marks other.marks;
  entries = λ k. begins_further _ _ _ (one.entries k) (other.entries k);
  shards = other.shards ∙ one.shards;
}

pub goes_on_same : (s : Sight) → GoesOn s s
goes_on_same s = record {
  marks = ([], sym (append-nil s.marks));
  entries = λ k. ([], sym (append-nil _));
  shards = refl;
}

-- ---- freezes

pub froze_stays :
    (before now : Sight) (caller : ℕ) (v : VersionState) → FrozeAt before caller v → GoesOn before now
    → FrozeAt now caller v
froze_stays before now caller v froze on =
    ap (λ (l : List Mark). slice_get l (v.at - 1)) on.marks.1
    ∙ get_ahead before.marks on.marks.0 (v.at - 1) (Freeze caller) froze

abbrev frozen_by : Option Mark → ℕ
frozen_by (Some (Freeze caller)) = caller
frozen_by mark = 0

-- at one place one caller froze
pub one_caller : (sight : Sight) (p q : ℕ) (v w : VersionState) → FrozeAt sight p v → FrozeAt sight q w → v.at ≡ w.at → p ≡ q
one_caller sight p q v w one other same =
    ap frozen_by (sym one ∙ (ap (λ (n : ℕ). slice_get sight.marks (n - 1)) same ∙ other))

pub freeze_stays :
    VersionsStay → (old new : PassState) (v : VersionState) → IsSamePass old new → IsFreezeOf old v
    → IsFreezeOf new v
freeze_stays stay old new v same f = record {
  seen = stay v old.sight new.sight f.seen same.goes_on;
  froze =
      subst (λ (p : ℕ). FrozeAt new.sight p v) (sym same.caller)
      (froze_stays old.sight new.sight old.caller v f.froze same.goes_on);
  candidates = f.candidates ∙ sym (ap (λ o. o.candidates) same.office);
}

module _ (shards caller : ℕ) (v : VersionState) (before now : Sight) (f : IsFreeze shards caller v before now) where
  pub at_the_end : v.at ≡ length now.marks
  at_the_end =
      f.at
      ∙ (sym (length-map (history_of now) (λ (e : Entry). mark_of shards e.caller e.call))
      ∙ ap length f.woven.order)

  abbrev ahead : List Mark
  ahead = before.marks ++ f.marks.0

  one_more : v.at ≡ length ahead + 1
  one_more =
      let more =
      ap length f.marks.1 in
      let one = length-append ahead (Freeze caller ∷ []) in let last = at_the_end in omega arith

  -- a freeze is after all that was seen before
  pub later : length before.marks < v.at
  later = let long = length-append before.marks f.marks.0 in let one = one_more in omega arith

  pub froze_last : FrozeAt now caller v
  froze_last =
      let place : v.at - 1 ≡ length ahead = (let one = one_more in omega arith) in
      (λ i. slice_get (f.marks.1 i) (place i)) ∙ get_last ahead (Freeze caller)
