-- Of a pass that was taken in nothing comes after what a whole clerk has seen.
use Rattle.std.proofs.Common.{◌≡◌, ◌≢◌, ℕ, ◌+◌, ◌≤◌, zero, suc, Bool, true, false, cond, ◌||◌, List, [], ◌∷◌}
use Rattle.std.proofs.Common.{◌++◌, ◌==◌, length, refl, sym, ap, ◌∙◌, subst, ⊎_elim, arith, length-append}
use Rattle.std.proofs.Common.{append-nil, eq-eqb}
use Rattle.std.specs.Prelude.{slice_get, Some}
use Rattle.std.proofs.lemmas.Bool.Decides.{eqb_tells}
use Rattle.turn_lock.specs.Numbers.{has}
use Rattle.std.proofs.lemmas.List.Elements.{filter-append}
use Rattle.batch_core.specs.declared.entry.Entry.{Entry}
use Rattle.batch_core.specs.Histories.{own_calls}
use Rattle.call_register.specs.Weaving.{Lists}
use Rattle.call_register.specs.Walk.{calls_seen, followed, NoneBy}
use Rattle.call_register.proofs.OwnCalls.{never_fewer}
use Rattle.shard_office.specs.Office.{OfficeState}
use Rattle.shard_office.specs.Sight.{Sight, by_shard, history_of, GoesOn, IsWhole}
use Rattle.shard_office.specs.Passes.{PassState, own}
use Rattle.shard_office.specs.Clerk.{ClerkState, IsTaken, callers_of}
use Rattle.shard_office.specs.Closing.{sight_in, FitsHistory, IsClosed}
use Rattle.shard_office.proofs.HistoryLemmas.{histories_go_on, sight_shows}

none_long : (l : List Entry) → length l ≡ 0 → l ≡ []
none_long [] is = refl
none_long (e ∷ es) is = absurd (omega (arith, is))

seen_more : (p : ℕ) (before now : Sight) → GoesOn before now
    → length (calls_seen p before.marks (by_shard before.lists)) ≤ length (calls_seen p now.marks (by_shard now.lists))
seen_more p before now on =
    let more : Lists = λ s. (on.entries s).0 in
    let lists : by_shard now.lists ≡ followed (by_shard before.lists) more = λ i s. (on.entries s).1 i in
    let same :
    length (calls_seen p now.marks (by_shard now.lists))
    ≡ length (calls_seen p (before.marks ++ on.marks.0) (followed (by_shard before.lists) more)) =
    λ i. length (calls_seen p (on.marks.1 i) (lists i)) in
    let le :
    length (calls_seen p before.marks (by_shard before.lists))
    ≤ length (calls_seen p (before.marks ++ on.marks.0) (followed (by_shard before.lists) more)) =
    never_fewer p before.marks on.marks.0 (by_shard before.lists) more in
    subst (λ n. length (calls_seen p before.marks (by_shard before.lists)) ≤ n) (sym same) le

pub nothing_late :
    (o : OfficeState) (now : Sight) (q : PassState) (more history : List Entry) → IsTaken o now q
    → FitsHistory q history
    → history ≡ history_of now ++ more → NoneBy q.caller more
nothing_late o now q more history is fits split =
    let parts : own_calls q.caller history ≡ own_calls q.caller (history_of now) ++ own_calls q.caller more =
    ap (own_calls q.caller) split ∙ filter-append (λ (e : Entry). e.caller == q.caller) (history_of now) more in
    let long :
    length (own_calls q.caller history)
    ≡ length (own_calls q.caller (history_of now)) + length (own_calls q.caller more) =
    ap length parts ∙ length-append (own_calls q.caller (history_of now)) (own_calls q.caller more) in
    let all : length (own_calls q.caller history) ≡ length (own q) = ap length fits.own_are in
    let le : length (own q) ≤ length (own_calls q.caller (history_of now)) = seen_more q.caller q.sight now is.begins in
    none_long (own_calls q.caller more) (omega (arith, long, all, le))

none_of_one : (p : ℕ) (e : Entry) (es : List Entry) → e.caller ≡ p → NoneBy p (e ∷ es) → ⊥
none_of_one p e es is none =
    let bad : e ∷ own_calls p es ≡ [] =
    subst (λ b. cond b (e ∷ own_calls p es) (own_calls p es) ≡ []) (eq-eqb e.caller p is) none in
    cc bad

-- a caller of this number was taken in
found :
    (p : ℕ) (taken : List PassState) → has p (callers_of taken) ≡ true
    → (k : ℕ) × (q : PassState) × (slice_get taken k ≡ Some q) × (q.caller ≡ p)
found p [] e = absurd (cc e)
found p (q ∷ qs) e = ⊎_elim
    (λ (t : ((p == q.caller) ≡ true) × (p ≡ q.caller)). (0, q, refl, sym t.1))
    (λ (t : ((p == q.caller) ≡ false) × (p ≢ q.caller)).
    let it = found p qs (subst (λ b. (b || has p (callers_of qs)) ≡ true) t.0 e) in
    (suc it.0, it.1, it.2, it.3))
    (eqb_tells p q.caller)

-- where nobody has a call in it, a list of calls is empty
module _ (clerk : ClerkState) (history more : List Entry) (zero_is : clerk.desk.caller ≡ 0) (closed : IsClosed clerk history)
    (taken : (k : ℕ) (q : PassState) → slice_get clerk.taken k ≡ Some q
    → IsTaken clerk.desk.office clerk.desk.sight q)
    (split : history ≡ history_of clerk.desk.sight ++ more) where
  parts_are : (p : ℕ) → own_calls p history ≡ own_calls p (history_of clerk.desk.sight) ++ own_calls p more
  parts_are p = ap (own_calls p) split ∙ filter-append (λ (e : Entry). e.caller == p) (history_of clerk.desk.sight) more

  clerk_none : NoneBy 0 more
  clerk_none =
      let long = ap length (parts_are 0) ∙ length-append (own_calls 0 (history_of clerk.desk.sight)) (own_calls 0 more) in
      let same : length (own_calls 0 history) ≡ length (own_calls 0 (history_of clerk.desk.sight)) =
      subst (λ c. length (own_calls c history) ≡ length (own_calls c (history_of clerk.desk.sight))) zero_is
      (ap length closed.desk.own_are) in
      none_long (own_calls 0 more) (omega arith)

  other_none : (p : ℕ) → 1 ≤ p → (b : Bool) → has p (callers_of clerk.taken) ≡ b → NoneBy p more
  other_none p one true e =
      let q = found p clerk.taken e in
      subst (λ c. NoneBy c more) q.3 (nothing_late clerk.desk.office clerk.desk.sight q.1 more history
      (taken q.0 q.1 q.2) (closed.passes q.0 q.1 q.2) split)
  other_none p one false e =
      let long = ap length (parts_are p) ∙ length-append (own_calls p (history_of clerk.desk.sight)) (own_calls p more) in
      let none = ap length (closed.others p one e) in
      none_long (own_calls p more) (omega arith)

  nobody : (p : ℕ) → NoneBy p more
  nobody zero = clerk_none
  nobody (suc p) = other_none (suc p) (omega arith) (has (suc p) (callers_of clerk.taken)) refl

  pub nothing_more : more ≡ []
  nothing_more = by_list more nobody
    where
      by_list : (l : List Entry) → ((p : ℕ) → NoneBy p l) → l ≡ []
      by_list [] none = refl
      by_list (e ∷ es) none = absurd (none_of_one e.caller e es refl (none e.caller))

pub clerk_saw_all :
    (clerk : ClerkState) (history : List Entry) → 1 ≤ clerk.desk.office.shards → clerk.desk.caller ≡ 0
    → IsClosed clerk history
    → ((k : ℕ) (q : PassState) → slice_get clerk.taken k ≡ Some q
    → IsTaken clerk.desk.office clerk.desk.sight q) → IsWhole clerk.desk.sight
    → history ≡ history_of clerk.desk.sight
clerk_saw_all clerk history some zero_is closed taken whole =
    let begins = histories_go_on clerk.desk.sight (sight_in clerk.desk.office.shards history) whole closed.desk.begins in
    let split : history ≡ history_of clerk.desk.sight ++ begins.0 =
    sym (sight_shows clerk.desk.office.shards history some closed.legal) ∙ begins.1 in
    split
    ∙ (ap (λ l. history_of clerk.desk.sight ++ l)
    (nothing_more clerk history begins.0 zero_is closed taken split)
    ∙ append-nil (history_of clerk.desk.sight))
