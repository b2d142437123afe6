-- Where the marks and parts of one legal history begin those of another, the one begins the other.
use Rattle.std.proofs.Common.{◌≡◌, ◌≢◌, ◌⊎◌, ℕ, zero, suc, ◌-◌, ◌≤◌, ◌<◌, ◌==◌, Bool, true, false, cond, List}
use Rattle.std.proofs.Common.{[], ◌∷◌, ◌++◌, length, refl, sym, ap, ◌∙◌, inl, inr, ⊎_elim, arith, eq-eqb}
use Rattle.std.proofs.Common.{ne_eqb, mod-lt}
use Rattle.std.specs.Prelude.{filter}
use Rattle.std.proofs.lemmas.Bool.{cases_lt}
use Rattle.std.proofs.lemmas.Bool.Decides.{eqb_tells}
use Rattle.batch_core.specs.declared.call.Call.{Call}
use Rattle.batch_core.specs.declared.call.Call.TheVariants.{Change, Freeze as FreezeCall, Strike as StrikeCall}
use Rattle.batch_core.specs.declared.entry.Entry.{Entry}
use Rattle.batch_core.specs.Book.{batch_of}
use Rattle.batch_core.specs.Histories.{IsLegal}
use Rattle.batch_core.specs.Shards.{shard_of, is_of_shard}
use Rattle.call_register.specs.Marks.{is_mark_of, marks_of, struck_by}
use Rattle.call_register.specs.Walk.{left, followed}
use Rattle.call_register.specs.Weaving.{HaveEntries, Lists, weave_from, weave, mark_of, marks_in, part, parts}
use Rattle.call_register.specs.declared.mark.Mark.{Mark}
use Rattle.call_register.proofs.Back.{woven_back}
use Rattle.call_register.proofs.ShardBooks.{part-else}
use Rattle.call_register.proofs.Sights.{weave-append, entries_ahead}

eqb-swap : (a b : ℕ) → (a == b) ≡ (b == a)
eqb-swap a b = ⊎_elim
    (λ (t : ((a == b) ≡ true) × (a ≡ b)). t.0 ∙ sym (eq-eqb b a (sym t.1)))
    (λ (t : ((a == b) ≡ false) × (a ≢ b)). t.0 ∙ sym (ne_eqb b a (λ e. t.1 (sym e))))
    (eqb_tells a b)

module _ (shards : ℕ) where
  marks_alike : (s caller : ℕ) (call : Call) → is_mark_of s (mark_of shards caller call) ≡ is_of_shard shards s call
  marks_alike s caller (Change change) = eqb-swap s (shard_of (batch_of change) shards)
  marks_alike s caller FreezeCall = refl
  marks_alike s caller (StrikeCall candidate) = refl

  more_by :
      (b : Bool) (m : Mark) (ms : List Mark) (e : Entry) (es : List Entry) → length ms ≡ length es
      → length (cond b (m ∷ ms) ms) ≡ length (cond b (e ∷ es) es)
  more_by true m ms e es same = ap suc same
  more_by false m ms e es same = same

  -- a history has as many marks of a shard as its part has entries
  pub marks_of_part : (s : ℕ) (history : List Entry) → marks_of s (marks_in shards history) ≡ length (part shards s history)
  marks_of_part s [] = refl
  marks_of_part s (e ∷ es) =
      let m = mark_of shards e.caller e.call in
      let ms = filter (is_mark_of s) (marks_in shards es) in
      ap (λ b. length (cond b (m ∷ ms) ms)) (marks_alike s e.caller e.call)
      ∙ more_by (is_of_shard shards s e.call) m ms e (part shards s es) (marks_of_part s es)

  module _ (some : 1 ≤ shards) where
    no_shard : (s : ℕ) (call : Call) → (s ≡ 0) ⊎ (shards < s) → is_of_shard shards s call ≡ false
    no_shard s (Change change) out =
        let below = mod-lt (batch_of change - 1) {m = shards} (omega arith) in
        ne_eqb (shard_of (batch_of change) shards) s
        (λ e. ⊎_elim (λ (z : s ≡ 0). omega arith) (λ (lt : shards < s). omega arith) out)
    no_shard s FreezeCall out = refl
    no_shard s (StrikeCall candidate) out = refl

    -- a number that is no shard's has no part
    pub no_part : (s : ℕ) (history : List Entry) → (s ≡ 0) ⊎ (shards < s) → part shards s history ≡ []
    no_part s [] out = refl
    no_part s (e ∷ es) out = part-else shards s e es (no_shard s e.call out) ∙ no_part s es out

    module _ (history longer : List Entry) (begins : (s : ℕ) → 1 ≤ s → s ≤ shards
        → (more : List Entry) × (part shards s longer ≡ part shards s history ++ more)) where
      outside :
          (s : ℕ) → (s ≡ 0) ⊎ (shards < s)
          → (more : List Entry) × (part shards s longer ≡ part shards s history ++ more)
      outside s out = ([], no_part s longer out ∙ ap (λ l. l ++ []) (sym (no_part s history out)))

      -- each part goes on, also that of a number that is no shard's
      goes_on : (s : ℕ) → (more : List Entry) × (part shards s longer ≡ part shards s history ++ more)
      goes_on zero = outside zero (inl refl)
      goes_on (suc i) = ⊎_elim
          (λ (lt : i < shards). begins (suc i) (omega arith) (omega arith))
          (λ (le : shards ≤ i). outside (suc i) (inr (omega arith)))
          (cases_lt i shards)

      pub begin_alike :
          IsLegal history → IsLegal longer
          → (after : List Mark) × (marks_in shards longer ≡ marks_in shards history ++ after)
          → (rest : List Entry) × (longer ≡ history ++ rest)
      begin_alike legal legal' marks =
          let more : Lists = λ s. (goes_on s).0 in
          let all : Lists = followed (parts shards history) more in
          let lists : parts shards longer ≡ all = λ i s. (goes_on s).1 i in
          let enough : HaveEntries (marks_in shards history) (parts shards history) =
          λ s. let e = marks_of_part s history in omega arith in
          let front : weave (marks_in shards history) all ≡ history =
          entries_ahead (marks_in shards history) (parts shards history) more enough
          ∙ woven_back shards history legal in
          let rest = weave_from (struck_by (marks_in shards history)) marks.0 (left (marks_in shards history) all) in (
            rest,
            sym (woven_back shards longer legal')
                ∙ ((λ i. weave (marks.1 i) (lists i))
                ∙ (weave-append [] (marks_in shards history) marks.0 all ∙ ap (λ l. l ++ rest) front)),
          )
