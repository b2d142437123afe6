-- What is frozen under all turns is a version of the history there.
use Rattle.std.proofs.Common.{◌≡◌, ◌≢◌, ◌⊎◌, ℕ, zero, suc, ◌+◌, ◌-◌, ◌<◌, ◌≤◌, true, List, [], ◌∷◌, ◌++◌}
use Rattle.std.proofs.Common.{length, take, get_or, refl, sym, ap, ◌∙◌, subst, inl, inr, ⊎_elim, arith}
use Rattle.std.proofs.Common.{take_all, length-append, ne_eqb, cond}
use Rattle.std.specs.Prelude.{slice_get, Some, All, IsPermutation, filter}
use Rattle.std.specs.List.{flat_map, range_with_len}
use Rattle.std.proofs.lemmas.Bool.{cases_lt}
use Rattle.std.proofs.lemmas.List.{get_or_past}
use Rattle.std.proofs.lemmas.List.Elements.{All-nil, All-head, All-tail}
use Rattle.std.proofs.lemmas.List.Sorted.{IsPermutation-refl, IsPermutation-sym, IsPermutation-trans}
use Rattle.std.proofs.lemmas.List.Sorted.{IsPermutation-append, length_permutation}
use Rattle.plain_ballots.specs.declared.ballot_line.BallotLine.{BallotLine}
use Rattle.plain_ballots.specs.Ballots.{plain}
use Rattle.plain_ballots.proofs.PlainLemmas.{plain-append, plain-IsPermutation, length-plain}
use Rattle.batch_core.specs.declared.entry.Entry.{Entry}
use Rattle.batch_core.specs.Book.{empty, standing}
use Rattle.batch_core.specs.Histories.{after_all, IsLegal, standing_after}
use Rattle.batch_core.specs.Lawful.{MayStep, AreLawful}
use Rattle.batch_core.specs.Shards.{is_of_shard}
use Rattle.batch_core.proofs.LawfulLemmas.{standing_total_after}
use Rattle.call_register.specs.declared.mark.Mark.{Mark}
use Rattle.call_register.specs.declared.mark.Mark.TheVariants.{Shard, Freeze, Strike}
use Rattle.call_register.specs.Marks.{MayMark, is_mark_of, marks_of, struck_by}
use Rattle.call_register.specs.Weaving.{Lists, weave, MatchEntries}
use Rattle.call_register.specs.Woven.{AreOfShards, IsWoven}
use Rattle.call_register.proofs.Lawful.{lawful_woven}
use Rattle.call_register.proofs.Places.{length_woven}
use Rattle.call_register.proofs.Standing.{woven_law}
use Rattle.call_register.proofs.Sights.{freeze_adds}
use Rattle.call_register.proofs.Steps.{struck-append}
use Rattle.frozen_plan.specs.Plan.{PlanRows, plan_ballots, all_ballots}
use Rattle.shard_office.specs.Values.{SeenShard}
use Rattle.shard_office.specs.Sight.{Sight, by_shard}
use Rattle.shard_office.specs.Turned.{IsAgreed, AreAgreed, IsNamed, AreNamed, ArePlansOf, entries_held}
use Rattle.frozen_version.specs.Versions.{VersionState}
use Rattle.shard_office.specs.Versions.{IsVersionOf, IsFreeze}
use Rattle.shard_office.proofs.Places.{get_lt, get_some, get_map, length_map}
use Rattle.shard_office.proofs.Lists.{read_at}
use Rattle.shard_office.proofs.TurnLists.{get_last}
use Rattle.shard_office.proofs.Tallied.{more_freeze}

-- a number that is no shard's has no marks
pub none_outside :
    (n candidates s : ℕ) (marks : List Mark) → All (MayMark n candidates) marks → (s ≡ 0) ⊎ (n < s)
    → marks_of s marks ≡ 0
none_outside n candidates s [] may out = refl
none_outside n candidates s (Freeze c ∷ marks) may out =
    none_outside n candidates s marks (All-tail (MayMark n candidates) (Freeze c) marks may) out
none_outside n candidates s (Strike c k ∷ marks) may out =
    none_outside n candidates s marks (All-tail (MayMark n candidates) (Strike c k) marks may) out
none_outside n candidates s (Shard t ∷ marks) may out =
    let here = All-head (MayMark n candidates) (Shard t) marks may in
    let ne : s ≢ t = λ e. ⊎_elim (λ (z : s ≡ 0). omega (arith, here.0)) (λ (lt : n < s). omega (arith, here.1)) out in
    ap (λ b. length (cond b (Shard t ∷ filter (is_mark_of s) marks) (filter (is_mark_of s) marks))) (ne_eqb s t ne)
    ∙ none_outside n candidates s marks (All-tail (MayMark n candidates) (Shard t) marks may) out

-- single ballots of lines in pieces
plain-flat_map : (f : ℕ → List BallotLine) (ss : List ℕ) → plain (flat_map f ss) ≡ flat_map (λ s. plain (f s)) ss
plain-flat_map f [] = refl
plain-flat_map f (s ∷ ss) = plain-append (f s) (flat_map f ss) ∙ ap (λ l. plain (f s) ++ l) (plain-flat_map f ss)

-- plans that have the ballots of one piece each have those of all
all_pieces :
    (g : ℕ → List (List ℕ)) (plans : List PlanRows) (a : ℕ)
    → ((i : ℕ) (p : PlanRows) → slice_get plans i ≡ Some p → IsPermutation (plan_ballots p.rows) (g (a + i)))
    → IsPermutation (all_ballots plans) (flat_map g (range_with_len a (length plans)))
all_pieces g [] a each = IsPermutation-refl []
all_pieces g (p ∷ ps) a each =
    IsPermutation-append (plan_ballots p.rows) (g a) (all_ballots ps) (flat_map g (range_with_len (a + 1) (length ps)))
    (subst (λ k. IsPermutation (plan_ballots p.rows) (g k)) (let e : a + 0 ≡ a = omega arith in e) (each 0 p refl))
    (all_pieces g ps (a + 1) (λ i q e. subst (λ k. IsPermutation (plan_ballots q.rows) (g k))
    (let h : a + suc i ≡ a + 1 + i = omega arith in h) (each (suc i) q e)))

-- what is in each shard is what stands after all of its entries
whole_standing : (n : ℕ) (l : List Entry) → n ≡ length l → standing_after l n ≡ standing (after_all empty l)
whole_standing n l is = ap (λ es. standing (after_all empty es)) (take_all n l (omega arith))

module _ (n : ℕ) (marks : List Mark) (lists : Lists) (own : AreOfShards n lists)
    (fit : MatchEntries marks lists) (plans : List PlanRows) (count : length plans ≡ n)
    (each : (i : ℕ) (p : PlanRows) → slice_get plans i ≡ Some p
    → IsPermutation (plan_ballots p.rows) (plain (standing (after_all empty (lists (i + 1)))))) where
  law : IsWoven n marks lists (weave marks lists)
  law = woven_law n marks lists own fit

  -- the plans' ballots are those that stand after the whole history
  pub plans_stand :
      (at : ℕ) → at ≡ length marks
      → IsPermutation (all_ballots plans) (plain (standing_after (weave marks lists) at))
  plans_stand at is =
      let front : take at marks ≡ marks = take_all at marks (omega arith) in
      let pieces : List BallotLine = flat_map (λ s. standing (after_all empty (lists s))) (range_with_len 1 n) in
      let same : flat_map (λ s. standing_after (lists s) (marks_of s (take at marks))) (range_with_len 1 n) ≡ pieces =
      λ k. flat_map (λ s. (ap (λ m. standing_after (lists s) (marks_of s m)) front
      ∙ whole_standing (marks_of s marks) (lists s) (fit s)) k) (range_with_len 1 n) in
      let stands : IsPermutation (standing_after (weave marks lists) at) pieces =
      subst (λ l. IsPermutation (standing_after (weave marks lists) at) l) same (law.standing at) in
      let turned :
      IsPermutation (all_ballots plans)
      (flat_map (λ s. plain (standing (after_all empty (lists s)))) (range_with_len 1 n)) =
      subst (λ k. IsPermutation (all_ballots plans)
      (flat_map (λ s. plain (standing (after_all empty (lists s)))) (range_with_len 1 k))) count
      (all_pieces (λ s. plain (standing (after_all empty (lists s)))) plans 1
      (λ i p e. subst
      (λ k. IsPermutation (plan_ballots p.rows) (plain (standing (after_all empty (lists k)))))
      (let h : i + 1 ≡ 1 + i = omega arith in h) (each i p e))) in
      let through : IsPermutation (all_ballots plans) (plain pieces) =
      subst (λ l. IsPermutation (all_ballots plans) l)
      (sym (plain-flat_map (λ s. standing (after_all empty (lists s))) (range_with_len 1 n))) turned in
      IsPermutation-trans (all_ballots plans) (plain pieces) (plain (standing_after (weave marks lists) at)) through
      (IsPermutation-sym (plain (standing_after (weave marks lists) at)) (plain pieces)
      (plain-IsPermutation (standing_after (weave marks lists) at) pieces stands))

  -- they are few enough to count
  pub plans_few :
      (candidates : ℕ) → candidates ≤ 250 → All (MayMark n candidates) marks
      → ((s : ℕ) → AreLawful candidates (lists s)) → length (all_ballots plans) ≤ 999900000
  plans_few candidates few may lawful =
      let h = weave marks lists in
      let total =
      standing_total_after candidates h (length marks)
      (lawful_woven n candidates few [] marks lists may lawful) in
      let same =
      length_permutation (all_ballots plans) (plain (standing_after h (length marks)))
      (plans_stand (length marks) refl) in
      let count = length-plain (standing_after h (length marks)) in
      omega arith

-- the lists of the values that are held together
module _ (n candidates : ℕ) (marks : List Mark) (held : List SeenShard) (len : length held ≡ n) (some : 1 ≤ n)
    (may : All (MayMark n candidates) marks) (named : AreNamed n candidates held)
    (agreed : AreAgreed n marks held) where
  abbrev H : Lists
  H = by_shard (entries_held held)

  read_held : (i : ℕ) (v : SeenShard) → slice_get held i ≡ Some v → get_or (entries_held held) i [] ≡ v.book.entries
  read_held i v e = read_at (entries_held held) i v.book.entries [] (get_map (λ (w : SeenShard). w.book.entries) held i v e)

  past_held : (i : ℕ) → n ≤ i → get_or (entries_held held) i [] ≡ []
  past_held i le =
      get_or_past (entries_held held) i []
      (let l = length_map (λ (w : SeenShard). w.book.entries) held in omega arith)

  pub held_fit : MatchEntries marks H
  held_fit zero = none_outside n candidates zero marks may (inl refl)
  held_fit (suc i) = ⊎_elim
      (λ (lt : i < n).
      let v = get_some held i (omega arith) in
      ap (λ k. marks_of k marks) (let e : suc i ≡ i + 1 = omega arith in e)
      ∙ ((agreed i v.0 lt v.1).whole ∙ ap length (sym (read_held i v.0 v.1))))
      (λ (le : n ≤ i). none_outside n candidates (suc i) marks may (inr (omega arith)) ∙ ap length (sym (past_held i le)))
      (cases_lt i n)

  each_held :
      (P : ℕ → List Entry → Type 0) → ((s : ℕ) → P s [])
      → ((i : ℕ) (v : SeenShard) → slice_get held i ≡ Some v → IsAgreed marks i v → IsNamed n candidates i v
      → P (suc i) v.book.entries) → (s : ℕ) → P s (H s)
  each_held P none one zero = none zero
  each_held P none one (suc i) = ⊎_elim
      (λ (lt : i < n). let v =
      get_some held i (omega arith) in
      subst (P (suc i)) (sym (read_held i v.0 v.1)) (one i v.0 v.1 (agreed i v.0 lt v.1) (named i v.0 v.1)))
      (λ (le : n ≤ i). subst (P (suc i)) (sym (past_held i le)) (none (suc i)))
      (cases_lt i n)

  pub held_own : AreOfShards n H
  held_own = record {
    some = some;
    changes =
        each_held (λ s l. All (λ e. is_of_shard n s e.call ≡ true) l)
        (λ s. All-nil (λ (e : Entry). is_of_shard n s e.call ≡ true))
        (λ i v e a k. subst
        (λ (z : ℕ × ℕ). All (λ (x : Entry). is_of_shard z.0 z.1 x.call ≡ true) v.book.entries)
        (λ j. (k.of_shards j, (k.shard ∙ (let h : i + 1 ≡ suc i = omega arith in h)) j))
        a.of_shard.changes);
    legal = each_held (λ s l. IsLegal l) (λ s. tt) (λ i v e a k. a.of_shard.legal);
  }

  pub held_lawful : (s : ℕ) → AreLawful candidates (H s)
  held_lawful =
      each_held (λ s l. AreLawful candidates l) (λ s. All-nil (λ (e : Entry). MayStep candidates e.call))
      (λ i v e a k. subst (λ c. AreLawful c v.book.entries) k.of_candidates a.of_shard.lawful)

  module _ (plans : List PlanRows) (count : length plans ≡ n) (are : ArePlansOf held plans) where
    pub held_plans :
        (i : ℕ) (p : PlanRows) → slice_get plans i ≡ Some p
        → IsPermutation (plan_ballots p.rows) (plain (standing (after_all empty (H (i + 1)))))
    held_plans i p e =
        let lt = get_lt plans i p e in
        let v = get_some held i (omega arith) in
        subst (λ l. IsPermutation (plan_ballots p.rows) (plain (standing (after_all empty l))))
        (sym (ap H (let h : i + 1 ≡ suc i = omega arith in h) ∙ read_held i v.0 v.1))
        (are i v.0 p v.1 e).ballots

    pub held_few : candidates ≤ 250 → length (all_ballots plans) ≤ 999900000
    held_few few = plans_few n marks H held_own held_fit plans count held_plans candidates few may held_lawful

    -- the freeze, where the caller saw all that was held and its mark as the last
    module _ (p : ℕ) (before now : Sight) (between : List Mark)
        (seen : now.marks ≡ (before.marks ++ between) ++ Freeze p ∷ [])
        (was : before.marks ++ between ≡ marks) (lists : by_shard now.lists ≡ H)
        (version : VersionState) (at : version.at ≡ length marks + 1) (theirs : version.plans ≡ plans)
        (struck : version.struck ≡ struck_by marks) where
      marks' : now.marks ≡ marks ++ Freeze p ∷ []
      marks' = seen ∙ ap (λ m. m ++ Freeze p ∷ []) was

      own' : AreOfShards n (by_shard now.lists)
      own' = subst (AreOfShards n) (sym lists) held_own

      fit' : MatchEntries now.marks (by_shard now.lists)
      fit' s =
          subst (λ (z : List Mark × Lists). marks_of s z.0 ≡ length (z.1 s))
          (λ k. (sym marks' k, sym lists k)) (more_freeze s p marks ∙ held_fit s)

      each' :
          (i : ℕ) (q : PlanRows) → slice_get version.plans i ≡ Some q
          → IsPermutation (plan_ballots q.rows)
          (plain (standing (after_all empty (by_shard now.lists (i + 1)))))
      each' i q e =
          subst (λ (L : Lists). IsPermutation (plan_ballots q.rows)
          (plain (standing (after_all empty (L (i + 1)))))) (sym lists)
          (held_plans i q (ap (λ l. slice_get l i) (sym theirs) ∙ e))

      count' : length version.plans ≡ n
      count' = ap length theirs ∙ count

      at' : version.at ≡ length now.marks
      at' = at ∙ (sym (length-append marks (Freeze p ∷ [])) ∙ ap length (sym marks'))

      front' : take version.at now.marks ≡ now.marks
      front' = take_all version.at now.marks (let e = at' in omega arith)

      woven' : IsWoven n now.marks (by_shard now.lists) (weave now.marks (by_shard now.lists))
      woven' = woven_law n now.marks (by_shard now.lists) own' fit'

      version_is : IsVersionOf version now
      version_is = record {
        some = (let e = at in omega arith);
        seen = (let e = at' in omega arith);
        entries =
            λ s. subst (λ m. marks_of s m ≤ length (by_shard now.lists s)) (sym front')
            (let e = fit' s in omega arith);
        freeze = (
          p,
          ap (λ m. slice_get m (version.at - 1)) marks'
              ∙ (ap (λ k. slice_get (marks ++ Freeze p ∷ []) k)
              (let e = at in let h : version.at - 1 ≡ length marks = omega arith in h)
              ∙ get_last marks (Freeze p)),
        );
        ballots =
            subst (λ m. IsPermutation (all_ballots version.plans)
            (plain (standing_after (weave m (by_shard now.lists)) version.at))) (sym front')
            (plans_stand n now.marks (by_shard now.lists) own' fit' version.plans count' each' version.at at');
        struck =
            struck
            ∙ (sym (struck-append [] marks (Freeze p ∷ []))
            ∙ (ap struck_by (sym marks')
            ∙ (ap struck_by (sym front') ∙ (sym (woven'.struck version.at)
            ∙ ap (λ m. (after_all empty (take version.at (weave m (by_shard now.lists)))).struck) (sym front')))));
      }

      pub freeze_is : IsFreeze n p version before now
      freeze_is = record {
        marks = (between, seen);
        of_shards = own';
        whole = fit';
        woven = woven';
        last = (
          weave marks (by_shard now.lists),
          ap (λ m. weave m (by_shard now.lists)) marks' ∙ freeze_adds p marks (by_shard now.lists),
        );
        at = at' ∙ sym (length_woven [] now.marks (by_shard now.lists) (λ s. let e = fit' s in omega arith));
        version_of = version_is;
        plans = each';
        count = count';
      }
