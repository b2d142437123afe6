-- A text begins with the calls of one history, up to the clerk's freeze.
use Rattle.std.proofs.Common.{◌≡◌, ◌≢◌, ◌⊎◌, inl, inr, ℕ, suc, ◌+◌, ◌==◌, Bool, true, false, cond, List, []}
use Rattle.std.proofs.Common.{◌∷◌, ◌++◌, length}
use Rattle.std.proofs.Common.{All, map, refl, sym, ap, subst, ◌∙◌, arith, append_assoc}
use Rattle.std.specs.List.{enumerate_from, flat_map}
use Rattle.std.proofs.lemmas.Bool.{ne_eqb, eq-eqb}
use Rattle.std.proofs.lemmas.List.{append-nil}
use Rattle.std.proofs.lemmas.List.Elements.{All-nil, All-cons, All-append, All-head, All-tail, filter-append}
use Rattle.batch_core.specs.declared.entry.Entry.{Entry}
use Rattle.batch_core.specs.Histories.{own_calls}
use Rattle.day_lines.specs.EntryText.{entry_line, entries_text}
use Rattle.sheet_text.specs.Lines.{ended}
use Rattle.sheet_reader.specs.Cut.{IsWithout}
use Rattle.day_lines.specs.DayHistory.{clerk_freeze, EndsWithTheClerk}
use Rattle.day_text.specs.Said.{IsSaidEntry}
use Rattle.day_text.specs.Parts.{BeginsWithCalls}
use Rattle.day_text.proofs.Cuts.{cut_once, without_none}
use Rattle.day_text.proofs.EntryLines.{entry_once}
use Rattle.day_text.proofs.Feedless.{entry_none}

-- the lines of calls, the first with this number
abbrev pub entries_from : ℕ → List Entry → List ℕ
entries_from n history = flat_map ended (map (λ (e : ℕ × Entry). entry_line e.0 e.1) (enumerate_from n history))

-- one call more
pub entries_push :
    (n : ℕ) (history : List Entry) (e : Entry)
    → entries_from n (history ++ e ∷ []) ≡ entries_from n history ++ ended (entry_line (n + length history) e)
entries_push n [] e =
    append-nil (ended (entry_line n e)) ∙ ap (λ (k : ℕ). ended (entry_line k e)) {x = n} {y = n + 0} (omega arith)
entries_push n (x ∷ history) e =
    ap (λ (t : List ℕ). ended (entry_line n x) ++ t)
    (entries_push (n + 1) history e
    ∙ ap (λ (k : ℕ). entries_from (n + 1) history ++ ended (entry_line k e)) {x = n + 1 + length history}
    {y = n + suc (length history)} (omega arith))
    ∙ sym (append_assoc (ended (entry_line n x)) (entries_from (n + 1) history)
    (ended (entry_line (n + suc (length history)) e)))

-- a line, its end, and what is after
pub line_front : (line more rest : List ℕ) → (ended line ++ more) ++ rest ≡ line ++ 10 ∷ (more ++ rest)
line_front line more rest = append_assoc (ended line) more rest ∙ append_assoc line (10 ∷ []) (more ++ rest)

-- ---- the clerk's freeze ends the calls

abbrev pub Closes : List Entry → Type 0
Closes [] = ⊥
Closes (e ∷ es) = ((e ≡ clerk_freeze) × (es ≡ [])) ⊎ ((e.caller ≢ 0) × Closes es)

-- the first of calls of which none is the clerk's
pub not_the_clerk :
    (e : Entry) (es : List Entry) → own_calls 0 (e ∷ es) ≡ [] → (e.caller ≢ 0) × (own_calls 0 es ≡ [])
not_the_clerk e es none = by (e.caller == 0) refl none
  where
    by :
        (t : Bool) → (e.caller == 0) ≡ t → cond t (e ∷ own_calls 0 es) (own_calls 0 es) ≡ []
        → (e.caller ≢ 0) × (own_calls 0 es ≡ [])
    by true is wrong = absurd cc
    by false is rest = ((λ same. absurd (otherwise (sym (eq-eqb e.caller 0 same) ∙ is))), rest)
      where
        otherwise : true ≡ false → ⊥
        otherwise e = cc

pub still_none :
    (done : List Entry) (e : Entry) → own_calls 0 done ≡ [] → e.caller ≢ 0 → own_calls 0 (done ++ e ∷ []) ≡ []
still_none done e none other =
    filter-append (λ (x : Entry). x.caller == 0) done (e ∷ [])
    ∙ (ap (λ (l : List Entry). l ++ own_calls 0 (e ∷ [])) none
    ∙ ap (λ (t : Bool). cond t (e ∷ []) []) (ne_eqb e.caller 0 other))

closes_behind : (before : List Entry) → own_calls 0 before ≡ [] → Closes (before ++ clerk_freeze ∷ [])
closes_behind [] none = inl (refl, refl)
closes_behind (e ∷ before) none =
    let first = not_the_clerk e before none in inr (first.0, closes_behind before first.1)

pub closes_of : (history : List Entry) → EndsWithTheClerk history → Closes history
closes_of history ends = subst Closes (sym ends.last) (closes_behind ends.before ends.no_other)

-- ---- calls that are read

All-append-front : {X : Type 0} (P : X → Type 0) (xs ys : List X) → All P (xs ++ ys) → All P xs
All-append-front P [] ys all = All-nil P
All-append-front P (x ∷ xs) ys all =
    All-cons P x xs (All-head P x (xs ++ ys) all) (All-append-front P xs ys (All-tail P x (xs ++ ys) all))

-- What is left of a history after calls that were read.
pub record Behind (n : ℕ) (done history : List Entry) (rest other : List ℕ) : Type 0 where
  pub left : List Entry
  pub whole : history ≡ done ++ left
  pub closes : Closes left
  pub said : All IsSaidEntry left
  pub rest_is : rest ≡ entries_from (n + length done) left ++ other

pub behind :
    (n : ℕ) (done history : List Entry) (rest other : List ℕ) → All IsSaidEntry done → All IsSaidEntry history
    → own_calls 0 done ≡ [] → Closes history → entries_from n done ++ rest ≡ entries_from n history ++ other
    → Behind n done history rest other
behind n [] history rest other said all none closes e = record {
  left = history;
  whole = refl;
  closes = closes;
  said = all;
  rest_is = e ∙ ap (λ (k : ℕ). entries_from k history ++ other) {x = n} {y = n + 0} (omega arith);
}
behind n (d ∷ done) [] rest other said all none closes e = absurd closes
behind n (d ∷ done) (h ∷ history) rest other said all none closes e =
    let cut =
    cut_once 10 (entry_line n d) (entry_line n h) (entries_from (n + 1) done ++ rest)
    (entries_from (n + 1) history ++ other) (entry_none n d) (entry_none n h)
    (sym (line_front (entry_line n d) (entries_from (n + 1) done) rest)
    ∙ (e ∙ line_front (entry_line n h) (entries_from (n + 1) history) other)) in
    let same =
    entry_once n d h (All-head IsSaidEntry d done said) (All-head IsSaidEntry h history all) cut.0 in
    let first = not_the_clerk d done none in
    by same first.0 cut.1 (λ on. behind (n + 1) done history rest other (All-tail IsSaidEntry d done said)
    (All-tail IsSaidEntry h history all) first.1 on cut.1) closes
  where
    by :
        d ≡ h → d.caller ≢ 0 → entries_from (n + 1) done ++ rest ≡ entries_from (n + 1) history ++ other
        → (Closes history → Behind (n + 1) done history rest other)
        → ((h ≡ clerk_freeze) × (history ≡ [])) ⊎ ((h.caller ≢ 0) × Closes history)
        → Behind n (d ∷ done) (h ∷ history) rest other
    by same not_clerk is later (inl close) =
        absurd (not_clerk (ap (λ (x : Entry). x.caller) (same ∙ close.0)))
    by same not_clerk is later (inr on) =
        let more = later on.1 in
        record {
          left = more.left;
          whole = λ i. sym same i ∷ more.whole i;
          closes = more.closes;
          said = more.said;
          rest_is = more.rest_is
              ∙ ap (λ (k : ℕ). entries_from k more.left ++ other) {x = n + 1 + length done}
              {y = n + suc (length done)} (omega arith);
        }

-- Calls of which none is the clerk's were read at the front of a text.
pub record AreRead (text : List ℕ) (done : List Entry) (rest : List ℕ) : Type 0 where
  pub said : All IsSaidEntry done
  pub no_clerk : own_calls 0 done ≡ []
  pub text_is : text ≡ entries_text done ++ rest

pub none_read : (text : List ℕ) → AreRead text [] text
none_read text = record { said = All-nil IsSaidEntry; no_clerk = refl; text_is = refl }

-- the text with one call more
one_more :
    (text : List ℕ) (done : List Entry) (e : Entry) (rest line back : List ℕ) (n : ℕ) → AreRead text done rest
    → n ≡ length done + 1 → rest ≡ line ++ 10 ∷ back → line ≡ entry_line n e → text ≡ entries_text (done ++ e ∷ []) ++ back
one_more text done e rest line back n are place cut is =
    let number : n ≡ 1 + length done = omega (arith, place) in
    are.text_is
    ∙ (ap (λ (t : List ℕ). entries_text done ++ t)
    (cut ∙ (ap (λ (l : List ℕ). l ++ 10 ∷ back) (is ∙ ap (λ (k : ℕ). entry_line k e) number)
    ∙ sym (append_assoc (entry_line (1 + length done) e) (10 ∷ []) back)))
    ∙ (sym (append_assoc (entries_text done) (ended (entry_line (1 + length done) e)) back)
    ∙ ap (λ (t : List ℕ). t ++ back) (sym (entries_push 1 done e))))

said_more : (done : List Entry) (e : Entry) → All IsSaidEntry done → IsSaidEntry e → All IsSaidEntry (done ++ e ∷ [])
said_more done e all is = All-append IsSaidEntry done (e ∷ []) all (All-cons IsSaidEntry e [] is (All-nil IsSaidEntry))

pub one_more_read :
    (text : List ℕ) (done new : List Entry) (e : Entry) (rest line back : List ℕ) (n : ℕ) → AreRead text done rest
    → n ≡ length done + 1 → rest ≡ line ++ 10 ∷ back → IsSaidEntry e → line ≡ entry_line n e → e.caller ≢ 0
    → new ≡ done ++ e ∷ [] → AreRead text new back
one_more_read text done new e rest line back n are place cut said is other pushed =
    subst (λ (h : List Entry). AreRead text h back) (sym pushed) (record {
      said = said_more done e are.said said;
      no_clerk = still_none done e are.no_clerk other;
      text_is = one_more text done e rest line back n are place cut is;
    })

-- the clerk's freeze was read
pub whole_read :
    (text : List ℕ) (done new : List Entry) (e : Entry) (rest line back : List ℕ) (n : ℕ) → AreRead text done rest
    → n ≡ length done + 1 → rest ≡ line ++ 10 ∷ back → IsSaidEntry e → line ≡ entry_line n e → e ≡ clerk_freeze
    → new ≡ done ++ e ∷ [] → BeginsWithCalls text new back
whole_read text done new e rest line back n are place cut said is close pushed =
    subst (λ (h : List Entry). BeginsWithCalls text h back) (sym pushed) (record {
      calls = said_more done e are.said said;
      ends = record {
        before = done;
        last = ap (λ (x : Entry). done ++ x ∷ []) close;
        no_other = are.no_clerk;
      };
      text_is = one_more text done e rest line back n are place cut is;
    })

-- what comes next in any history that the text begins with
next_of :
    (text : List ℕ) (done history : List Entry) (rest other : List ℕ) → AreRead text done rest
    → BeginsWithCalls text history other → Behind 1 done history rest other
next_of text done history rest other are begins =
    behind 1 done history rest other are.said begins.calls are.no_clerk (closes_of history begins.ends)
    (sym are.text_is ∙ begins.text_is)

-- no line of a call comes next
abbrev pub NoCall : (n : ℕ) → List ℕ → Type 0
NoCall n rest = (e : Entry) (back : List ℕ) → IsSaidEntry e → rest ≢ entry_line n e ++ 10 ∷ back

pub no_line : (n : ℕ) (rest : List ℕ) → IsWithout 10 rest → NoCall n rest
no_line n rest none e back said is = without_none 10 (entry_line n e) back rest none is

pub other_line :
    (n : ℕ) (rest line back : List ℕ) → rest ≡ line ++ 10 ∷ back → IsWithout 10 line
    → ((e : Entry) → IsSaidEntry e → line ≢ entry_line n e) → NoCall n rest
other_line n rest line back cut none other e more said is =
    other e said (cut_once 10 line (entry_line n e) back more none (entry_none n e) (sym cut ∙ is)).0

pub no_history :
    (text : List ℕ) (done : List Entry) (rest : List ℕ) (n : ℕ) → AreRead text done rest → n ≡ length done + 1
    → NoCall n rest → (history : List Entry) (other : List ℕ) → BeginsWithCalls text history other → ⊥
no_history text done rest n are place none history other begins =
    let next = next_of text done history rest other are begins in
    by next.left next.closes next.said next.rest_is
  where
    by : (left : List Entry) → Closes left → All IsSaidEntry left → rest ≡ entries_from (1 + length done) left ++ other → ⊥
    by [] closes said is = closes
    by (e ∷ left) closes said is =
        none e (entries_from (1 + length done + 1) left ++ other) (All-head IsSaidEntry e left said)
        (is ∙ (line_front (entry_line (1 + length done) e) (entries_from (1 + length done + 1) left) other
        ∙ ap (λ (k : ℕ). entry_line k e ++ 10 ∷ (entries_from (1 + length done + 1) left ++ other))
        {x = 1 + length done} {y = n} (omega (arith, place))))

-- the clerk's first call is no freeze
pub no_freeze :
    (text : List ℕ) (done : List Entry) (e : Entry) (rest line back : List ℕ) (n : ℕ) → AreRead text done rest
    → n ≡ length done + 1 → rest ≡ line ++ 10 ∷ back → IsSaidEntry e → line ≡ entry_line n e → e.caller ≡ 0
    → e ≢ clerk_freeze → (history : List Entry) (other : List ℕ) → BeginsWithCalls text history other → ⊥
no_freeze text done e rest line back n are place cut said is clerk wrong history other begins =
    let next = next_of text done history rest other are begins in
    by next.left next.closes next.said next.rest_is
  where
    m : ℕ
    m = 1 + length done

    by : (left : List Entry) → Closes left → All IsSaidEntry left → rest ≡ entries_from m left ++ other → ⊥
    by [] closes all e-is = closes
    by (f ∷ left) closes all e-is =
        let here : rest ≡ entry_line m f ++ 10 ∷ (entries_from (m + 1) left ++ other) =
        e-is ∙ line_front (entry_line m f) (entries_from (m + 1) left) other in
        let mine : rest ≡ entry_line m e ++ 10 ∷ back =
        cut
        ∙ ap (λ (l : List ℕ). l ++ 10 ∷ back)
        (is ∙ ap (λ (k : ℕ). entry_line k e) {x = n} {y = m} (omega (arith, place))) in
        let lines =
        cut_once 10 (entry_line m e) (entry_line m f) back (entries_from (m + 1) left ++ other) (entry_none m e)
        (entry_none m f) (sym mine ∙ here) in
        let same = entry_once m e f said (All-head IsSaidEntry f left all) lines.0 in
        last same closes
      where
        last : e ≡ f → ((f ≡ clerk_freeze) × (left ≡ [])) ⊎ ((f.caller ≢ 0) × Closes left) → ⊥
        last same (inl close) = wrong (same ∙ close.0)
        last same (inr on) = on.0 (ap (λ (x : Entry). x.caller) (sym same) ∙ clerk)

-- A text begins with the calls of one history.
pub calls_once :
    (text : List ℕ) (one two : List Entry) (rest other : List ℕ) → BeginsWithCalls text one rest
    → BeginsWithCalls text two other → (one ≡ two) × (rest ≡ other)
calls_once text one two rest other p q =
    let before = p.ends.before in
    let said = All-append-front IsSaidEntry before (clerk_freeze ∷ []) (subst (All IsSaidEntry) p.ends.last p.calls) in
    let line : List ℕ = ended (entry_line (1 + length before) clerk_freeze) in
    let mine : text ≡ entries_from 1 before ++ (line ++ rest) =
    p.text_is
    ∙ (ap (λ (h : List Entry). entries_from 1 h ++ rest) p.ends.last
    ∙ (ap (λ (t : List ℕ). t ++ rest) (entries_push 1 before clerk_freeze)
    ∙ append_assoc (entries_from 1 before) line rest)) in
    let next =
    behind 1 before two (line ++ rest) other said q.calls p.ends.no_other (closes_of two q.ends) (sym mine ∙ q.text_is) in
    by before said next.left next.closes next.said p.ends.last next.whole next.rest_is
  where
    by :
        (before : List Entry) → All IsSaidEntry before → (left : List Entry) → Closes left → All IsSaidEntry left
        → one ≡ before ++ clerk_freeze ∷ [] → two ≡ before ++ left
        → ended (entry_line (1 + length before) clerk_freeze) ++ rest ≡ entries_from (1 + length before) left ++ other
        → (one ≡ two) × (rest ≡ other)
    by before said [] closes all mine its e = absurd closes
    by before said (f ∷ left) closes all mine its e =
        let m : ℕ = 1 + length before in
        let cut =
        cut_once 10 (entry_line m clerk_freeze) (entry_line m f) rest (entries_from (m + 1) left ++ other)
        (entry_none m clerk_freeze) (entry_none m f)
        (sym (append_assoc (entry_line m clerk_freeze) (10 ∷ []) rest)
        ∙ (e ∙ line_front (entry_line m f) (entries_from (m + 1) left) other)) in
        let same =
        entry_once m clerk_freeze f (record { caller = omega arith; call = tt; reply = tt })
        (All-head IsSaidEntry f left all)
        cut.0 in
        last m same closes cut.1
      where
        last :
            (m : ℕ) → clerk_freeze ≡ f → ((f ≡ clerk_freeze) × (left ≡ [])) ⊎ ((f.caller ≢ 0) × Closes left)
            → rest ≡ entries_from (m + 1) left ++ other → (one ≡ two) × (rest ≡ other)
        last m same (inl close) is = (
          mine ∙ ((λ i. before ++ same i ∷ sym close.1 i) ∙ sym its),
          is ∙ ap (λ (l : List Entry). entries_from (m + 1) l ++ other) close.1,
        )
        last m same (inr on) is = absurd (on.0 (ap (λ (x : Entry). x.caller) (sym same)))
