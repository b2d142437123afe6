-- The history that was made along the lines of a text is the nearest to it.
use Rattle.std.proofs.Common.{◌≡◌, ◌⊎◌, inl, inr, ℕ, zero, suc, ◌+◌, ◌==◌, ◌<◌, ◌≤◌, Bool, true, false, cond}
use Rattle.std.proofs.Common.{List, [], ◌∷◌, ◌++◌}
use Rattle.std.proofs.Common.{length, take, drop, get_or, refl, sym, ap, ◌∙◌, subst, arith, filter}
use Rattle.std.specs.Prelude.{All, slice_get, Option, Some, unwrap_or}
use Rattle.std.specs.List.{flat_map}
use Rattle.std.proofs.lemmas.Bool.{eqb-true, ne_eqb, cases_lt}
use Rattle.std.proofs.lemmas.List.{append-nil, append_assoc, append_cancel_left, take_at, take-take, length-append}
use Rattle.std.proofs.lemmas.Option.{slice_get-get_or}
use Rattle.std.proofs.lemmas.List.Elements.{All-head, All-tail}
use Rattle.batch_core.specs.declared.call.Call.{Call}
use Rattle.batch_core.specs.declared.entry.Entry.{Entry}
use Rattle.batch_core.specs.Histories.{IsLegal, own_calls, after_all}
use Rattle.batch_core.specs.Book.{empty, reply}
use Rattle.batch_core.specs.Laws.{AnswersEachCall}
use Rattle.day_reader.specs.declared.script.Script.{Script}
use Rattle.day_lines.specs.DayHistory.{calls_of, calls_in, IsHistoryOf, clerk_freeze}
use Rattle.day_lines.specs.EntryText.{entry_line, call_text, reply_text}
use Rattle.sheet_text.specs.Lines.{ended}
use Rattle.sheet_check.specs.Difference.{line_at}
use Rattle.day_replay.specs.Calls.{IsUnderWay}
use Rattle.day_replay.specs.Saying.{Says}
use Rattle.day_replay.specs.Nearest.{IsNearest, HasFollowed}
use Rattle.day_replay.proofs.Lists.{inside, parted, got_behind, got_ahead, same_fronts}
use Rattle.day_replay.proofs.Own.{own_append, calls_around, none_by}
use Rattle.day_replay.proofs.Fronts.{same_caller}

-- the line of an answered call names its caller
says_its_caller : (n : ℕ) (e : Entry) (line : List ℕ) → line ≡ ended (entry_line n e) → Says n e.caller line
says_its_caller n e line is = (call_text e.call ++ 32 ∷ (reply_text e.reply ++ 10 ∷ []), is ∙ grind (arith, append_assoc))

-- ---- teams

abbrev IsNumbered : Script → Type 0
IsNumbered script = (1 ≤ script.team) × (script.team ≤ 16)

-- only teams of the scripts have calls
team_small :
    (scripts : List Script) (team : ℕ) (c : Call) (cs : List Call) → All IsNumbered scripts
    → calls_in scripts team ≡ c ∷ cs → team ≤ 16
team_small [] team c cs all is = absurd (cc)
team_small (s ∷ ss) team c cs all is =
    by (s.team == team) refl is (team_small ss team c cs (All-tail IsNumbered s ss all))
  where
    by :
        (b : Bool) → s.team == team ≡ b
        → flat_map (λ (x : Script). x.calls)
        (cond b (s ∷ filter (λ x. x.team == team) ss) (filter (λ x. x.team == team) ss)) ≡ c ∷ cs
        → (calls_in ss team ≡ c ∷ cs → team ≤ 16) → team ≤ 16
    by true same there others =
        let here = All-head IsNumbered s ss all in
        let equal = eqb-true s.team team same in
        omega (arith, here.1, equal)
    by false other there others = others there

-- calls around one of them are not those before it
no_more : (xs ys : List Call) (c : Call) → xs ++ c ∷ ys ≡ xs → ⊥
no_more xs ys c same =
    let wrong = append_cancel_left xs (c ∷ ys) [] (same ∙ sym (append-nil xs)) in
    cc

module _ (scripts : List Script) (numbers : All IsNumbered scripts) (replies : AnswersEachCall) where
  -- a team's calls in a history, around one of them
  around :
      (history before behind : List Entry) (e : Entry) → IsHistoryOf scripts history → history ≡ before ++ e ∷ behind
      → 1 ≤ e.caller
      → calls_in scripts e.caller ≡ calls_of (own_calls e.caller before) ++ e.call ∷ calls_of (own_calls e.caller behind)
  around history before behind e is parts some =
      sym (is.whole e.caller some)
      ∙ (ap (λ (l : List Entry). calls_of (own_calls e.caller l)) parts ∙ calls_around e.caller before e behind refl)

  caller_small :
      (history : List Entry) (n : ℕ) (e : Entry) → IsHistoryOf scripts history → slice_get history n ≡ Some e
      → 1 ≤ e.caller → e.caller ≤ 16
  caller_small history n e is at some =
      first (calls_of (own_calls e.caller (take n history))) e.call (calls_of (own_calls e.caller (drop (suc n) history)))
      (around history (take n history) (drop (suc n) history) e is (parted history n e at) some)
    where
      first : (xs : List Call) (c : Call) (ys : List Call) → calls_in scripts e.caller ≡ xs ++ c ∷ ys → e.caller ≤ 16
      first [] c ys is = team_small scripts e.caller c ys numbers is
      first (x ∷ xs) c ys is = team_small scripts e.caller x (xs ++ c ∷ ys) numbers is

  -- after the same calls the same caller makes the same call
  same_call :
      (one other : List Entry) (n : ℕ) (a b : Entry) → IsHistoryOf scripts one → IsHistoryOf scripts other
      → take n other ≡ take n one → slice_get one n ≡ Some a → slice_get other n ≡ Some b
      → 1 ≤ a.caller → a.caller ≡ b.caller → a ≡ b
  same_call one other n a b is others same at there some caller =
      let p = parted one n a at in
      let q = parted other n b there in
      let before : calls_of (own_calls b.caller (take n other)) ≡ calls_of (own_calls a.caller (take n one)) =
      λ i. calls_of (own_calls (sym caller i) (same i)) in
      let mine = around one (take n one) (drop (suc n) one) a is p some in
      let theirs = around other (take n other) (drop (suc n) other) b others q (subst (λ (k : ℕ). 1 ≤ k) caller some) in
      let tails =
      append_cancel_left (calls_of (own_calls a.caller (take n one)))
      (a.call ∷ calls_of (own_calls a.caller (drop (suc n) one)))
      (b.call ∷ calls_of (own_calls b.caller (drop (suc n) other)))
      (sym mine
      ∙ (ap (calls_in scripts) caller
      ∙ (theirs
      ∙ ap (λ (l : List Call). l ++ b.call
      ∷ calls_of (own_calls b.caller (drop (suc n) other))) before))) in
      let call : a.call ≡ b.call =
      ap (λ (o : Option Call). unwrap_or o a.call) (ap (λ (l : List Call). slice_get l 0) tails) in
      let here = replies (take n one) (drop (suc n) one) a (subst IsLegal p is.legal) in
      let far = replies (take n other) (drop (suc n) other) b (subst IsLegal q others.legal) in
      let answer : a.reply ≡ b.reply = here ∙ ((λ i. reply (after_all empty (sym same i)) (call i)) ∙ sym far) in
      λ i. record { caller = caller i; call = call i; reply = answer i }

  -- the clerk's call is the last
  clerk_is_last :
      (history : List Entry) (n : ℕ) (e : Entry) → IsHistoryOf scripts history → slice_get history n ≡ Some e
      → e.caller ≡ 0 → (n + 1 ≡ length history) × (e ≡ clerk_freeze)
  clerk_is_last history n e is at clerk =
      let before = is.ends.before in
      let there : slice_get (before ++ clerk_freeze ∷ []) n ≡ Some e =
      subst (λ (l : List Entry). slice_get l n ≡ Some e) is.ends.last at in
      let long : length history ≡ length before + 1 = ap length is.ends.last ∙ length-append before (clerk_freeze ∷ []) in
      let below = inside history n e at in
      cases (cases_lt n (length before)) below there long
    where
      cases :
          (n < length is.ends.before) ⊎ (length is.ends.before ≤ n) → n < length history
          → slice_get (is.ends.before ++ clerk_freeze ∷ []) n ≡ Some e → length history ≡ length is.ends.before + 1
          → (n + 1 ≡ length history) × (e ≡ clerk_freeze)
      cases (inl ahead) below there long =
          absurd (none_by 0 is.ends.before n e is.ends.no_other
          (sym (got_ahead is.ends.before (clerk_freeze ∷ []) n ahead) ∙ there) clerk)
      cases (inr behind) below there long =
          let end : n ≡ length is.ends.before = omega (arith, behind, below, long) in
          let got : Some clerk_freeze ≡ Some e =
          sym (got_behind is.ends.before clerk_freeze [])
          ∙ (ap (slice_get (is.ends.before ++ clerk_freeze ∷ [])) (sym end) ∙ there) in
          (omega (arith, long, end), sym (ap (λ (o : Option Entry). unwrap_or o e) got))

  -- Along the lines of a text the calls of any history are those that were made.
  module _ (text : List ℕ) (left : List (List Call)) (history front more : List Entry)
      (is : IsHistoryOf scripts history) (goes : history ≡ front ++ more)
      (way : IsUnderWay scripts left front) (followed : HasFollowed text left front) where
    -- a call that its line names is the history's
    at_a_line :
        (other : List Entry) (n : ℕ) (e : Entry) → IsHistoryOf scripts other → take n other ≡ take n history
        → slice_get other n ≡ Some e → line_at n text ≡ ended (entry_line (n + 1) e) → n < length front
        → slice_get history n ≡ Some e
    at_a_line other n e others same at line below =
        let f = get_or front n clerk_freeze in
        let front_at : slice_get front n ≡ Some f = slice_get-get_or front n clerk_freeze below in
        let made : slice_get history n ≡ Some f =
        ap (λ (l : List Entry). slice_get l n) goes ∙ (got_ahead front more n below ∙ front_at) in
        let said = followed.said n f front_at in
        let caller =
        same_caller (n + 1) f.caller e.caller (line_at n text) said.0 (caller_small history n f is made said.0)
        (caller_small other n e others at) said.1 (says_its_caller (n + 1) e (line_at n text) line) in
        made ∙ ap (λ (x : Entry). Some x) (same_call history other n f e is others same made at said.0 caller)

    -- after the last such call only the clerk's is left
    behind_the_lines :
        (other : List Entry) (e : Entry) → IsHistoryOf scripts other → take (length front) other ≡ front
        → slice_get other (length front) ≡ Some e → line_at (length front) text ≡ ended (entry_line (length front + 1) e)
        → (length front + 1 ≡ length other) × (slice_get history (length front) ≡ Some e)
    behind_the_lines other e others same at line = by e.caller refl
      where
        -- who is named has no calls left
        named : 1 ≤ e.caller → ⊥
        named some =
            let none =
            followed.stops e.caller some
            (says_its_caller (length front + 1) e (line_at (length front) text) line) in
            let all : calls_of (own_calls e.caller front) ≡ calls_in scripts e.caller =
            sym (append-nil (calls_of (own_calls e.caller front)))
            ∙ (ap (λ (l : List Call). calls_of (own_calls e.caller front) ++ l) (sym none) ∙ way.each e.caller some) in
            let rest = drop (suc (length front)) other in
            let parts = parted other (length front) e at ∙ ap (λ (l : List Entry). l ++ e ∷ rest) same in
            no_more (calls_of (own_calls e.caller front)) (calls_of (own_calls e.caller rest)) e.call
            (sym (around other front rest e others parts some) ∙ sym all)

        -- who calls next in the history is the clerk
        by_caller :
            (g : Entry) (later : List Entry) → history ≡ front ++ g ∷ later → slice_get history (length front) ≡ Some g
            → (length front + 1 ≡ length other) × (e ≡ clerk_freeze) → (k : ℕ) → g.caller ≡ k
            → slice_get history (length front) ≡ Some e
        by_caller g later there got last zero is_clerk =
            let mine = clerk_is_last history (length front) g is got is_clerk in
            got ∙ ap (λ (x : Entry). Some x) (mine.1 ∙ sym last.1)
        by_caller g later there got last (suc k) is_team =
            let some : 1 ≤ g.caller = omega (arith, is_team) in
            let before = others.ends.before in
            let long : length before ≡ length front =
            omega (arith, last.0, ap length others.ends.last, length-append before (clerk_freeze ∷ [])) in
            let before_is : before ≡ front =
            sym (take_at before (clerk_freeze ∷ []) (length front) long)
            ∙ (ap (take (length front)) (sym others.ends.last) ∙ same) in
            let not_theirs : own_calls g.caller (clerk_freeze ∷ []) ≡ [] =
            ap (λ (b : Bool). cond b (clerk_freeze ∷ []) [])
            (ne_eqb 0 g.caller (λ zero_is. absurd (omega (arith, some, zero_is)))) in
            let own : own_calls g.caller other ≡ own_calls g.caller front =
            ap (own_calls g.caller) (others.ends.last ∙ ap (λ (l : List Entry). l ++ clerk_freeze ∷ []) before_is)
            ∙ (own_append g.caller front (clerk_freeze ∷ [])
            ∙ (ap (λ (l : List Entry). own_calls g.caller front ++ l) not_theirs ∙ append-nil (own_calls g.caller front))) in
            absurd (no_more (calls_of (own_calls g.caller front)) (calls_of (own_calls g.caller later)) g.call
            (sym (around history front later g is there some) ∙ (sym (others.whole g.caller some) ∙ ap calls_of own)))

        -- so the clerk's call comes next in the history
        clerks :
            (length front + 1 ≡ length other) × (e ≡ clerk_freeze) → (later : List Entry) → history ≡ front ++ later
            → slice_get history (length front) ≡ Some e
        clerks last [] there =
            let none : own_calls 0 history ≡ [] =
            ap (own_calls 0) (there ∙ append-nil front) ∙ way.no_clerk in
            let end : slice_get history (length is.ends.before) ≡ Some clerk_freeze =
            ap (λ (l : List Entry). slice_get l (length is.ends.before)) is.ends.last
            ∙ got_behind is.ends.before clerk_freeze [] in
            absurd (none_by 0 history (length is.ends.before) clerk_freeze none end refl)
        clerks last (g ∷ later) there =
            let got : slice_get history (length front) ≡ Some g =
            ap (λ (l : List Entry). slice_get l (length front)) there ∙ got_behind front g later in
            by_caller g later there got last g.caller refl

        by : (k : ℕ) → e.caller ≡ k → (length front + 1 ≡ length other) × (slice_get history (length front) ≡ Some e)
        by zero is_clerk =
            let last = clerk_is_last other (length front) e others at is_clerk in
            (last.0, clerks last more goes)
        by (suc k) is_team = absurd (named (omega (arith, is_team)))

    pub nearest : IsNearest scripts text history
    nearest other zero others within begins = refl
    nearest other (suc n) others within begins =
        let same = nearest other n others (omega (arith, within)) (λ k e below at. begins k e (omega (arith, below)) at) in
        cases (cases_lt n (length front)) same
      where
        cases :
            (n < length front) ⊎ (length front ≤ n) → take n other ≡ take n history
            → take (suc n) other ≡ take (suc n) history
        cases (inl below) same =
            let e = get_or other n clerk_freeze in
            let at : slice_get other n ≡ Some e = slice_get-get_or other n clerk_freeze within in
            same_fronts other history n e same at
            (at_a_line other n e others same at (begins n e (omega arith) at) below)
        cases (inr behind) same =
            let f = length front in
            let e = get_or other f clerk_freeze in
            let at : slice_get other f ≡ Some e = slice_get-get_or other f clerk_freeze (omega (arith, behind, within)) in
            let mine : take f history ≡ front = ap (take f) goes ∙ take_at front more f refl in
            let theirs : take f other ≡ take f history =
            sym (take-take f n other behind) ∙ (ap (take f) same ∙ take-take f n history behind) in
            let end =
            behind_the_lines other e others (theirs ∙ mine) at (begins f e (omega (arith, behind)) at) in
            let here : f ≡ n = omega (arith, end.0, behind, within) in
            subst (λ (k : ℕ). take (suc k) other ≡ take (suc k) history) here
            (same_fronts other history f e theirs at end.1)
