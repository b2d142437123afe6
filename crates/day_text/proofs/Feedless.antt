-- No line of an answered call holds a line feed.
use Rattle.std.proofs.Common.{◌≢◌, ℕ, zero, suc, ◌+◌, ◌/◌, ◌%◌, ◌==◌, Bool, true, false, cond, List, [], ◌∷◌, ◌++◌}
use Rattle.std.proofs.Common.{refl, sym, ap, subst, ◌∙◌, arith}
use Rattle.std.specs.Prelude.{decimal, codes, nat_lt}
use Rattle.std.specs.Fmt.{digits, digits_onto, digit_glyph}
use Rattle.std.proofs.lemmas.Bool.{ne_eqb}
use Rattle.batch_core.specs.declared.change.Change.TheVariants.{Enter, Correct, Withdraw}
use Rattle.batch_core.specs.declared.call.Call.{Call}
use Rattle.batch_core.specs.declared.call.Call.TheVariants.{Change, Freeze, Strike}
use Rattle.batch_core.specs.declared.reply.Reply.{Reply}
use Rattle.batch_core.specs.declared.reply.Reply.TheVariants as reply
use Rattle.batch_core.specs.declared.entry.Entry.{Entry}
use Rattle.day_lines.specs.EntryText.{caller_text, call_text, reply_text, entry_line}
use Rattle.sheet_reader.specs.Cut.{is_without, IsWithout}
use Rattle.day_text.proofs.Cuts.{without-append}
use Rattle.day_text.proofs.EntryLines.{line_is}

pub byte_more : (b : ℕ) (bs : List ℕ) → b ≢ 10 → IsWithout 10 bs → IsWithout 10 (b ∷ bs)
byte_more b bs other none = ap (λ (t : Bool). cond t false (is_without 10 bs)) (ne_eqb b 10 other) ∙ none

glyph : (d : ℕ) → digit_glyph false d ≢ 10
glyph d = by (nat_lt d 10)
  where
    by : (t : Bool) → cond t (48 + d) (87 + d) ≢ 10
    by true is = absurd (omega (arith, is))
    by false is = absurd (omega (arith, is))

digits_none : (k n : ℕ) (acc : List ℕ) → IsWithout 10 acc → IsWithout 10 (digits_onto k 10 false n acc)
digits_none zero n acc none = none
digits_none (suc k) n acc none =
    let here = byte_more (digit_glyph false (n % 10)) acc (glyph (n % 10)) none in
    by (n / 10 == 0) here (digits_none k (n / 10) (digit_glyph false (n % 10) ∷ acc) here)
  where
    by :
        (t : Bool) → IsWithout 10 (digit_glyph false (n % 10) ∷ acc)
        → IsWithout 10 (digits_onto k 10 false (n / 10) (digit_glyph false (n % 10) ∷ acc))
        → IsWithout 10 (cond t (digit_glyph false (n % 10) ∷ acc)
        (digits_onto k 10 false (n / 10) (digit_glyph false (n % 10) ∷ acc)))
    by true here more = here
    by false here more = more

pub number : (n : ℕ) → IsWithout 10 (decimal n)
unfolding digits
number n = digits_none 64 n [] refl

-- a number after a word
pub numbered : (word : List ℕ) (n : ℕ) → IsWithout 10 word → IsWithout 10 (word ++ decimal n)
numbered word n none = without-append 10 word (decimal n) none (number n)

caller_none : (caller : ℕ) → IsWithout 10 (caller_text caller)
caller_none caller = by (caller == 0)
  where
    by : (t : Bool) → IsWithout 10 (cond t (codes "clerk") (codes "team " ++ decimal caller))
    by true = refl
    by false = numbered (codes "team ") caller refl

call_none : (call : Call) → IsWithout 10 (call_text call)
call_none (Change (Enter batch ballots)) = numbered (codes "enter ") batch refl
call_none (Change (Correct batch revision ballots)) =
    without-append 10 (codes "correct " ++ decimal batch) (32 ∷ decimal revision)
    (numbered (codes "correct ") batch refl) (number revision)
call_none (Change (Withdraw batch revision)) =
    without-append 10 (codes "withdraw " ++ decimal batch) (32 ∷ decimal revision)
    (numbered (codes "withdraw ") batch refl) (number revision)
call_none Freeze = refl
call_none (Strike candidate) = numbered (codes "strike ") candidate refl

reply_none : (answer : Reply) → IsWithout 10 (reply_text answer)
reply_none reply.Entered = refl
reply_none (reply.Corrected r) = numbered (codes "corrected ") r refl
reply_none (reply.Withdrawn r) = numbered (codes "withdrawn ") r refl
reply_none reply.Frozen = refl
reply_none (reply.Exists r) = numbered (codes "exists ") r refl
reply_none reply.Unknown = refl
reply_none (reply.Gone r) = numbered (codes "gone ") r refl
reply_none (reply.Stale r) = numbered (codes "stale ") r refl
reply_none reply.Spent = refl
reply_none reply.Struck = refl
reply_none reply.AlreadyStruck = refl

pub entry_none : (n : ℕ) (e : Entry) → IsWithout 10 (entry_line n e)
entry_none n e =
    subst (λ (t : List ℕ). IsWithout 10 t) (sym (line_is n e))
    (without-append 10 (decimal n) (32 ∷ (caller_text e.caller ++ 32 ∷ (call_text e.call ++ 32 ∷ reply_text e.reply)))
    (number n)
    (without-append 10 (caller_text e.caller) (32 ∷ (call_text e.call ++ 32 ∷ reply_text e.reply)) (caller_none e.caller)
    (without-append 10 (call_text e.call) (32 ∷ reply_text e.reply) (call_none e.call) (reply_none e.reply))))
