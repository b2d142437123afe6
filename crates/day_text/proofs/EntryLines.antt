-- The line of an answered call is that of one call, one caller and one reply.
use Rattle.std.proofs.Common.{◌≡◌, ℕ, zero, suc, ◌+◌, ◌*◌, ◌≤◌, ◌==◌, List, [], ◌∷◌, ◌++◌, get_or}
use Rattle.std.proofs.Common.{Bool, cond, refl, sym, ◌∙◌, ap, arith, append_assoc}
use Rattle.std.specs.Prelude.{codes, decimal, if◌then◌else◌}
use Rattle.std.specs.Str.Parse.{digits_value}
use Rattle.std.proofs.lemmas.Bool.{ne_eqb}
use Rattle.std.proofs.lemmas.Fmt.{decimal_is_IsNumeral}
use Rattle.batch_core.specs.declared.change.Change.TheVariants.{Enter, Correct, Withdraw}
use Rattle.batch_core.specs.declared.call.Call.{Call}
use Rattle.batch_core.specs.declared.call.Call.TheVariants.{Change as Changes, Freeze, Strike}
use Rattle.batch_core.specs.declared.reply.Reply.{Reply}
use Rattle.batch_core.specs.declared.reply.Reply.TheVariants.{Entered, Corrected, Withdrawn, Frozen, Exists}
use Rattle.batch_core.specs.declared.reply.Reply.TheVariants.{Unknown, Gone, Stale, Spent, Struck}
use Rattle.batch_core.specs.declared.reply.Reply.TheVariants.{AlreadyStruck}
use Rattle.batch_core.specs.declared.entry.Entry.{Entry}
use Rattle.batch_core.specs.Lawful.{IsInRange}
use Rattle.day_lines.specs.EntryText.{caller_text, call_text, reply_text, entry_line}
use Rattle.day_text.specs.Said.{IsSaidCall, IsSaidReply, IsSaidEntry}
use Rattle.day_text.specs.Parts.{numbered_text}
use Rattle.day_text.proofs.Cuts.{heads, behind_front, numbered_once, revised_is}

-- ---- who calls

pub team_text : (c : ℕ) (rest : List ℕ) → 1 ≤ c → caller_text c ++ 32 ∷ rest ≡ numbered_text (codes "team ") c rest
team_text c rest some =
    ap (λ (t : Bool). cond t (codes "clerk") (codes "team " ++ decimal c) ++ 32 ∷ rest)
    (ne_eqb c 0 (λ is. omega (arith, some, is)))

pub caller_once :
    (c d : ℕ) (rest other : List ℕ) → c ≤ 16 → d ≤ 16 → caller_text c ++ 32 ∷ rest ≡ caller_text d ++ 32 ∷ other
    → (c ≡ d) × (rest ≡ other)
caller_once zero zero rest other p q e = (refl, behind_front (codes "clerk ") rest other e)
caller_once zero (suc d) rest other p q e =
    absurd (omega (arith, ap (λ (t : List ℕ). get_or t 0 0) (e ∙ team_text (suc d) other (omega arith))))
caller_once (suc c) zero rest other p q e =
    absurd (omega (arith, ap (λ (t : List ℕ). get_or t 0 0) (sym e ∙ team_text (suc c) rest (omega arith))))
caller_once (suc c) (suc d) rest other p q e =
    numbered_once (codes "team ") (suc c) (suc d) rest other (omega (arith, p)) (omega (arith, q))
    (sym (team_text (suc c) rest (omega arith)) ∙ (e ∙ team_text (suc d) other (omega arith)))

-- ---- calls

-- the text of a call with two numbers
revised_once :
    (word : List ℕ) (b r c s : ℕ) (rest other : List ℕ) → IsInRange b → IsInRange r → IsInRange c → IsInRange s
    → (word ++ (decimal b ++ 32 ∷ decimal r)) ++ 32 ∷ rest ≡ (word ++ (decimal c ++ 32 ∷ decimal s)) ++ 32 ∷ other
    → (b ≡ c) × (r ≡ s) × (rest ≡ other)
revised_once word b r c s rest other pb pr pc ps e =
    let first =
    numbered_once word b c (decimal r ++ 32 ∷ rest) (decimal s ++ 32 ∷ other) (omega (arith, pb.1)) (omega (arith, pc.1))
    (sym (revised_is word b r rest) ∙ (e ∙ revised_is word c s other)) in
    let second = numbered_once [] r s rest other (omega (arith, pr.1)) (omega (arith, ps.1)) first.1 in
    (first.0, second.0, second.1)

pub call_once :
    (one two : Call) (rest other : List ℕ) → IsSaidCall one → IsSaidCall two
    → call_text one ++ 32 ∷ rest ≡ call_text two ++ 32 ∷ other → (one ≡ two) × (rest ≡ other)
call_once (Changes (Enter b1 l1)) (Changes (Enter b2 l2)) rest other p q e =
    let h = numbered_once (codes "enter ") b1 b2 rest other (omega (arith, p.0.1)) (omega (arith, q.0.1)) e in
    (λ i. Changes (Enter (h.0 i) ((p.1 ∙ sym q.1) i)), h.1)
call_once (Changes (Enter b1 l1)) (Changes (Correct b2 r2 l2)) rest other p q e =
    absurd (omega (arith, ap (λ (t : List ℕ). get_or t 0 0) e))
call_once (Changes (Enter b1 l1)) (Changes (Withdraw b2 r2)) rest other p q e =
    absurd (omega (arith, ap (λ (t : List ℕ). get_or t 0 0) e))
call_once (Changes (Enter b1 l1)) Freeze rest other p q e =
    absurd (omega (arith, ap (λ (t : List ℕ). get_or t 0 0) e))
call_once (Changes (Enter b1 l1)) (Strike c2) rest other p q e =
    absurd (omega (arith, ap (λ (t : List ℕ). get_or t 0 0) e))
call_once (Changes (Correct b1 r1 l1)) (Changes (Enter b2 l2)) rest other p q e =
    absurd (omega (arith, ap (λ (t : List ℕ). get_or t 0 0) e))
call_once (Changes (Correct b1 r1 l1)) (Changes (Correct b2 r2 l2)) rest other p q e =
    let h = revised_once (codes "correct ") b1 r1 b2 r2 rest other p.0 p.1 q.0 q.1 e in
    (λ i. Changes (Correct (h.0 i) (h.1 i) ((p.2 ∙ sym q.2) i)), h.2)
call_once (Changes (Correct b1 r1 l1)) (Changes (Withdraw b2 r2)) rest other p q e =
    absurd (omega (arith, ap (λ (t : List ℕ). get_or t 0 0) e))
call_once (Changes (Correct b1 r1 l1)) Freeze rest other p q e =
    absurd (omega (arith, ap (λ (t : List ℕ). get_or t 0 0) e))
call_once (Changes (Correct b1 r1 l1)) (Strike c2) rest other p q e =
    absurd (omega (arith, ap (λ (t : List ℕ). get_or t 0 0) e))
call_once (Changes (Withdraw b1 r1)) (Changes (Enter b2 l2)) rest other p q e =
    absurd (omega (arith, ap (λ (t : List ℕ). get_or t 0 0) e))
call_once (Changes (Withdraw b1 r1)) (Changes (Correct b2 r2 l2)) rest other p q e =
    absurd (omega (arith, ap (λ (t : List ℕ). get_or t 0 0) e))
call_once (Changes (Withdraw b1 r1)) (Changes (Withdraw b2 r2)) rest other p q e =
    let h = revised_once (codes "withdraw ") b1 r1 b2 r2 rest other p.0 p.1 q.0 q.1 e in
    (λ i. Changes (Withdraw (h.0 i) (h.1 i)), h.2)
call_once (Changes (Withdraw b1 r1)) Freeze rest other p q e =
    absurd (omega (arith, ap (λ (t : List ℕ). get_or t 0 0) e))
call_once (Changes (Withdraw b1 r1)) (Strike c2) rest other p q e =
    absurd (omega (arith, ap (λ (t : List ℕ). get_or t 0 0) e))
call_once Freeze (Changes (Enter b2 l2)) rest other p q e =
    absurd (omega (arith, ap (λ (t : List ℕ). get_or t 0 0) e))
call_once Freeze (Changes (Correct b2 r2 l2)) rest other p q e =
    absurd (omega (arith, ap (λ (t : List ℕ). get_or t 0 0) e))
call_once Freeze (Changes (Withdraw b2 r2)) rest other p q e =
    absurd (omega (arith, ap (λ (t : List ℕ). get_or t 0 0) e))
call_once Freeze Freeze rest other p q e = (refl, behind_front (codes "freeze ") rest other e)
call_once Freeze (Strike c2) rest other p q e =
    absurd (omega (arith, ap (λ (t : List ℕ). get_or t 0 0) e))
call_once (Strike c1) (Changes (Enter b2 l2)) rest other p q e =
    absurd (omega (arith, ap (λ (t : List ℕ). get_or t 0 0) e))
call_once (Strike c1) (Changes (Correct b2 r2 l2)) rest other p q e =
    absurd (omega (arith, ap (λ (t : List ℕ). get_or t 0 0) e))
call_once (Strike c1) (Changes (Withdraw b2 r2)) rest other p q e =
    absurd (omega (arith, ap (λ (t : List ℕ). get_or t 0 0) e))
call_once (Strike c1) Freeze rest other p q e =
    absurd (omega (arith, ap (λ (t : List ℕ). get_or t 0 0) e))
call_once (Strike c1) (Strike c2) rest other p q e =
    let h = numbered_once (codes "strike ") c1 c2 rest other (omega (arith, p.1)) (omega (arith, q.1)) e in
    (λ i. Strike (h.0 i), h.1)

-- ---- replies

-- the first three bytes of a text as a number
abbrev code_of : List ℕ → ℕ
code_of text = get_or text 0 0 + 256 * get_or text 1 0 + 65536 * get_or text 2 0

-- what is after the first space
abbrev behind_space : List ℕ → List ℕ
behind_space [] = []
behind_space (b ∷ text) = if b == 32 then text else behind_space text

-- the reply whose word begins so
abbrev reply_of : (code revision : ℕ) → Reply
reply_of code revision =
    if code == 7630437 then Entered else
    if code == 7499619 then Corrected revision else
    if code == 7629175 then Withdrawn revision else
    if code == 7303782 then Frozen else
    if code == 6912101 then Exists revision else
    if code == 7040629 then Unknown else
    if code == 7237479 then Gone revision else
    if code == 6386803 then Stale revision else
    if code == 6647923 then Spent else
    if code == 7500915 then Struck else
    AlreadyStruck

value_of : (n : ℕ) → IsInRange n → digits_value 10 (decimal n) ≡ n
value_of n is = (decimal_is_IsNumeral n (omega (arith, is.1))).1

reply_back :
    (reply : Reply) → IsSaidReply reply
    → reply_of (code_of (reply_text reply)) (digits_value 10 (behind_space (reply_text reply))) ≡ reply
reply_back Entered said = refl
reply_back (Corrected r) said = ap (λ (k : ℕ). Corrected k) (value_of r said)
reply_back (Withdrawn r) said = ap (λ (k : ℕ). Withdrawn k) (value_of r said)
reply_back Frozen said = refl
reply_back (Exists r) said = ap (λ (k : ℕ). Exists k) (value_of r said)
reply_back Unknown said = refl
reply_back (Gone r) said = ap (λ (k : ℕ). Gone k) (value_of r said)
reply_back (Stale r) said = ap (λ (k : ℕ). Stale k) (value_of r said)
reply_back Spent said = refl
reply_back Struck said = refl
reply_back AlreadyStruck said = refl

pub reply_once : (one two : Reply) → IsSaidReply one → IsSaidReply two → reply_text one ≡ reply_text two → one ≡ two
reply_once one two p q e =
    sym (reply_back one p)
    ∙ (ap (λ (t : List ℕ). reply_of (code_of t) (digits_value 10 (behind_space t))) e ∙ reply_back two q)

-- ---- a line

-- what is after the number of a line
abbrev pub behind_number : Entry → List ℕ
behind_number e = caller_text e.caller ++ 32 ∷ (call_text e.call ++ 32 ∷ reply_text e.reply)

pub line_is : (n : ℕ) (e : Entry) → entry_line n e ≡ decimal n ++ 32 ∷ behind_number e
line_is n e =
    append_assoc (decimal n ++ 32 ∷ caller_text e.caller) (32 ∷ call_text e.call) (32 ∷ reply_text e.reply)
    ∙ append_assoc (decimal n) (32 ∷ caller_text e.caller) (32 ∷ (call_text e.call ++ 32 ∷ reply_text e.reply))

pub entry_once : (n : ℕ) (e f : Entry) → IsSaidEntry e → IsSaidEntry f → entry_line n e ≡ entry_line n f → e ≡ f
entry_once n e f p q is =
    let behind =
    behind_front (decimal n) (32 ∷ behind_number e) (32 ∷ behind_number f)
    (sym (line_is n e) ∙ (is ∙ line_is n f)) in
    let caller =
    caller_once e.caller f.caller (call_text e.call ++ 32 ∷ reply_text e.reply)
    (call_text f.call ++ 32 ∷ reply_text f.reply) p.caller q.caller
    (heads 32 32 (behind_number e) (behind_number f) behind).1 in
    let call = call_once e.call f.call (reply_text e.reply) (reply_text f.reply) p.call q.call caller.1 in
    let reply = reply_once e.reply f.reply p.reply q.reply call.1 in
    λ i. record { caller = caller.0 i; call = call.0 i; reply = reply i }

-- what was read after the number of a line
pub behind_line_number :
    (n : ℕ) (e : Entry) (line rest : List ℕ) → line ≡ decimal n ++ 32 ∷ rest → line ≡ entry_line n e → rest ≡ behind_number e
behind_line_number n e line rest read is =
    (heads 32 32 rest (behind_number e)
    (behind_front (decimal n) (32 ∷ rest) (32 ∷ behind_number e) (sym read ∙ (is ∙ line_is n e)))).1
