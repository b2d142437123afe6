-- The lines of a history's text; 10 is the line feed.
use Rattle.std.proofs.Common.{◌≡◌, ◌≢◌, ℕ, zero, suc, ◌+◌, ◌/◌, ◌%◌, ◌==◌, Bool, true, false, cond, List, [], ◌∷◌, ◌++◌, map}
use Rattle.std.proofs.Common.{refl, ap, ◌∙◌, arith}
use Rattle.std.specs.Prelude.{decimal, codes, slice_get, Option, Some, unwrap_or, nat_lt}
use Rattle.std.specs.List.{enumerate_from, flat_map}
use Rattle.std.specs.Fmt.{digits, digits_onto, digit_glyph}
use Rattle.std.proofs.lemmas.Bool.{ne_eqb}
use Rattle.std.proofs.lemmas.List.{append_assoc}
use Rattle.batch_core.specs.declared.change.Change.TheVariants.{Enter, Correct, Withdraw}
use Rattle.batch_core.specs.declared.call.Call.{Call}
use Rattle.batch_core.specs.declared.call.Call.TheVariants.{Change, Freeze, Strike}
use Rattle.batch_core.specs.declared.reply.Reply.{Reply}
use Rattle.batch_core.specs.declared.reply.Reply.TheVariants as reply
use Rattle.batch_core.specs.declared.entry.Entry.{Entry}
use Rattle.day_lines.specs.EntryText.{caller_text, call_text, reply_text, entry_line}
use Rattle.sheet_text.specs.Lines.{ended}
use Rattle.sheet_check.specs.Difference.{first_line, behind_line, line_at}

-- whether no line feed is in a text
abbrev no_feed : List ℕ → Bool
no_feed [] = true
no_feed (b ∷ bs) = cond (b == 10) false (no_feed bs)

abbrev NoFeed : List ℕ → Type 0
NoFeed text = no_feed text ≡ true

byte_more : (b : ℕ) (bs : List ℕ) → b ≢ 10 → NoFeed bs → NoFeed (b ∷ bs)
byte_more b bs other none = ap (λ (t : Bool). cond t false (no_feed bs)) (ne_eqb b 10 other) ∙ none

both : (xs ys : List ℕ) → NoFeed xs → NoFeed ys → NoFeed (xs ++ ys)
both [] ys none others = others
both (x ∷ xs) ys none others = by (x == 10) none (λ rest. both xs ys rest others)
  where
    by :
        (t : Bool) → cond t false (no_feed xs) ≡ true → (NoFeed xs → NoFeed (xs ++ ys))
        → cond t false (no_feed (xs ++ ys)) ≡ true
    by true wrong more = absurd (cc)
    by false rest more = more rest

glyph : (d : ℕ) → digit_glyph false d ≢ 10
glyph d = by (nat_lt d 10)
  where
    by : (t : Bool) → cond t (48 + d) (87 + d) ≢ 10
    by true is = absurd (omega (arith, is))
    by false is = absurd (omega (arith, is))

digits_none : (k n : ℕ) (acc : List ℕ) → NoFeed acc → NoFeed (digits_onto k 10 false n acc)
digits_none zero n acc none = none
digits_none (suc k) n acc none =
    let here = byte_more (digit_glyph false (n % 10)) acc (glyph (n % 10)) none in
    by (n / 10 == 0) here (digits_none k (n / 10) (digit_glyph false (n % 10) ∷ acc) here)
  where
    by :
        (t : Bool) → NoFeed (digit_glyph false (n % 10) ∷ acc)
        → NoFeed (digits_onto k 10 false (n / 10) (digit_glyph false (n % 10) ∷ acc))
        → NoFeed (cond t (digit_glyph false (n % 10) ∷ acc)
        (digits_onto k 10 false (n / 10) (digit_glyph false (n % 10) ∷ acc)))
    by true here more = here
    by false here more = more

number : (n : ℕ) → NoFeed (decimal n)
unfolding digits
number n = digits_none 64 n [] refl

-- a number after a word
numbered : (word : List ℕ) (n : ℕ) → NoFeed word → NoFeed (word ++ decimal n)
numbered word n none = both word (decimal n) none (number n)

caller_none : (caller : ℕ) → NoFeed (caller_text caller)
caller_none caller = by (caller == 0)
  where
    by : (t : Bool) → NoFeed (cond t (codes "clerk") (codes "team " ++ decimal caller))
    by true = refl
    by false = numbered (codes "team ") caller refl

call_none : (call : Call) → NoFeed (call_text call)
call_none (Change (Enter batch ballots)) = numbered (codes "enter ") batch refl
call_none (Change (Correct batch revision ballots)) =
    both (codes "correct " ++ decimal batch) (32 ∷ decimal revision) (numbered (codes "correct ") batch refl)
    (number revision)
call_none (Change (Withdraw batch revision)) =
    both (codes "withdraw " ++ decimal batch) (32 ∷ decimal revision)
    (numbered (codes "withdraw ") batch refl) (number revision)
call_none Freeze = refl
call_none (Strike candidate) = numbered (codes "strike ") candidate refl

reply_none : (answer : Reply) → NoFeed (reply_text answer)
reply_none reply.Entered = refl
reply_none (reply.Corrected r) = numbered (codes "corrected ") r refl
reply_none (reply.Withdrawn r) = numbered (codes "withdrawn ") r refl
reply_none reply.Frozen = refl
reply_none (reply.Exists r) = numbered (codes "exists ") r refl
reply_none reply.Unknown = refl
reply_none (reply.Gone r) = numbered (codes "gone ") r refl
reply_none (reply.Stale r) = numbered (codes "stale ") r refl
reply_none reply.Spent = refl
reply_none reply.Struck = refl
reply_none reply.AlreadyStruck = refl

entry_none : (n : ℕ) (e : Entry) → NoFeed (entry_line n e)
entry_none n e =
    both ((decimal n ++ 32 ∷ caller_text e.caller) ++ 32 ∷ call_text e.call) (32 ∷ reply_text e.reply)
    (both (decimal n ++ 32 ∷ caller_text e.caller) (32 ∷ call_text e.call)
    (both (decimal n) (32 ∷ caller_text e.caller) (number n) (caller_none e.caller)) (call_none e.call))
    (reply_none e.reply)

-- a line with its line feed at the front of a text
line_first :
    (line rest : List ℕ) → NoFeed line
    → (first_line (ended line ++ rest) ≡ ended line) × (behind_line (ended line ++ rest) ≡ rest)
line_first [] rest none = (refl, refl)
line_first (b ∷ line) rest none = by (b == 10) none (line_first line rest)
  where
    by :
        (t : Bool) → cond t false (no_feed line) ≡ true
        → (NoFeed line → (first_line (ended line ++ rest) ≡ ended line) × (behind_line (ended line ++ rest) ≡ rest))
        → (b ∷ cond t [] (first_line (ended line ++ rest)) ≡ b ∷ ended line)
        × (cond t (ended line ++ rest) (behind_line (ended line ++ rest)) ≡ rest)
    by true wrong later = absurd (cc)
    by false none later = (ap (λ (l : List ℕ). b ∷ l) (later none).0, (later none).1)

-- The line of a call is at its place.
pub line_of_a_call :
    (n : ℕ) (history : List Entry) (more : List ℕ) (k : ℕ) (e : Entry) → slice_get history k ≡ Some e
    → line_at k (flat_map ended (map (λ (x : ℕ × Entry). entry_line x.0 x.1) (enumerate_from n history)) ++ more)
    ≡ ended (entry_line (n + k) e)
line_of_a_call n [] more k e at = absurd (cc)
line_of_a_call n (x ∷ xs) more zero e at =
    let same : x ≡ e = ap (λ (o : Option Entry). unwrap_or o e) at in
    let here : n ≡ n + 0 = omega arith in
    ap first_line (append_assoc (ended (entry_line n x))
    (flat_map ended (map (λ (x : ℕ × Entry). entry_line x.0 x.1) (enumerate_from (n + 1) xs))) more)
    ∙
    ((line_first (entry_line n x)
    (flat_map ended (map (λ (x : ℕ × Entry). entry_line x.0 x.1) (enumerate_from (n + 1) xs)) ++ more)
    (entry_none n x)).0
    ∙ (λ i. ended (entry_line (here i) (same i))))
line_of_a_call n (x ∷ xs) more (suc k) e at =
    let there : n + 1 + k ≡ n + suc k = omega arith in
    ap (λ (l : List ℕ). line_at k (behind_line l)) (append_assoc (ended (entry_line n x))
    (flat_map ended (map (λ (x : ℕ × Entry). entry_line x.0 x.1) (enumerate_from (n + 1) xs))) more)
    ∙ (ap (line_at k) (line_first (entry_line n x) (flat_map ended
    (map (λ (x : ℕ × Entry). entry_line x.0 x.1) (enumerate_from (n + 1) xs)) ++ more)
    (entry_none n x)).1
    ∙ (line_of_a_call (n + 1) xs more k e at ∙ ap (λ (j : ℕ). ended (entry_line j e)) there))
