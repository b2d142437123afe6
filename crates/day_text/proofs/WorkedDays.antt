-- A day worked by hand, by computation.
use Rattle.std.proofs.Common.{◌≡◌, ◌≢◌, ◌≤◌, ℕ, List, [], ◌∷◌, All, length, take, drop, refl, arith}
use Rattle.std.specs.Prelude.{codes}
use Rattle.std.specs.Fmt.{digits}
use Rattle.std.proofs.lemmas.List.Elements.{All-nil, All-cons}
use Rattle.candidate_roll.specs.declared.limits.TheConstants.{MOST_NAME_BYTES, MOST_TITLE_BYTES}
use Rattle.candidate_roll.specs.Name.{IsName}
use Rattle.candidate_roll.specs.declared.state.State.{State}
use Rattle.candidate_roll.specs.declared.state.State.TheVariants.{Elected, Withdrawn}
use Rattle.batch_core.specs.declared.change.Change.TheVariants.{Enter, Correct, Withdraw}
use Rattle.batch_core.specs.declared.call.Call.{Call}
use Rattle.batch_core.specs.declared.call.Call.TheVariants.{Change, Freeze, Strike}
use Rattle.batch_core.specs.declared.reply.Reply.{Reply}
use Rattle.batch_core.specs.declared.reply.Reply.TheVariants as reply
use Rattle.batch_core.specs.declared.entry.Entry.{Entry}
use Rattle.sheet_text.specs.Lines.{text_of_lines, outcome_line}
use Rattle.sheet_reader.specs.Form.{IsPrintable, IsPrintableRow}
use Rattle.batch_core.specs.Lawful.{IsInRange}
use Rattle.day_text.specs.Said.{IsSaidCall, IsSaidReply, IsSaidEntry}
use Rattle.day_text.specs.Form.{IsPrintableSheet}
use Rattle.day_text.specs.Without.{no_ballots}
use Rattle.day_text.specs.Worked.{calls, before, behind, WorkedText, WorkedEnd}

pub worked_end : WorkedEnd
worked_end = refl

both : (n : ℕ) → 1 ≤ n → n ≤ 9999 → IsInRange n
both n least most = (least, most)

-- one line more in front of others
more :
    (caller : ℕ) (call : Call) (answer : Reply) (history : List Entry) → caller ≤ 16 → IsSaidCall call → IsSaidReply answer
    → All IsSaidEntry history → All IsSaidEntry (record { caller = caller; call = call; reply = answer } ∷ history)
more caller call answer history few said named all =
    All-cons IsSaidEntry (record { caller = caller; call = call; reply = answer }) history
    (record { caller = few; call = said; reply = named }) all

one : IsInRange 1
one = both 1 (omega arith) (omega arith)

two : IsInRange 2
two = both 2 (omega arith) (omega arith)

three : IsInRange 3
three = both 3 (omega arith) (omega arith)

said : All IsSaidEntry calls
said =
    more 1 (Change (Enter 3 no_ballots)) reply.Entered (drop 1 calls) (omega arith) (three, refl) tt
    (more 16 (Change (Enter 2 no_ballots)) reply.Entered (drop 2 calls) (omega arith) (two, refl) tt
    (more 16 (Change (Correct 2 1 no_ballots)) (reply.Corrected 2) (drop 3 calls) (omega arith) (two, one, refl) two
    (more 1 (Change (Withdraw 2 1)) (reply.Stale 2) (drop 4 calls) (omega arith) (two, one) two
    (more 1 (Change (Withdraw 3 1)) (reply.Withdrawn 2) (drop 5 calls) (omega arith) (three, one) two
    (more 1 (Change (Correct 3 2 no_ballots)) (reply.Gone 2) (drop 6 calls) (omega arith) (three, two, refl) two
    (more 1 Freeze reply.Frozen (drop 7 calls) (omega arith) tt tt
    (more 1 (Strike 2) reply.Struck (drop 8 calls) (omega arith) (omega arith, omega arith) tt
    (more 0 Freeze reply.Frozen (drop 9 calls) (omega arith) tt tt (All-nil IsSaidEntry)))))))))

-- a name of one letter
letter : (most b : ℕ) → 1 ≤ most → 35 ≤ b → IsName most (b ∷ [])
letter most b some low = record {
  short = some;
  printable =
      All-cons (λ (b : ℕ). (32 ≤ b) × (b ≢ 34)) b [] (omega (arith, low), λ is. omega (arith, low, is))
      (All-nil (λ (b : ℕ). (32 ≤ b) × (b ≢ 34)));
}

printable : (last : List State) → length last ≡ 2 → IsPrintable 9 (record {
  title = codes "T";
  seats = 2;
  ballots = 5;
  names = codes "A" ∷ codes "B" ∷ [];
  rows = [];
  last = last;
})
printable last two = record {
  title = letter MOST_TITLE_BYTES 84 (omega arith) (omega arith);
  seats = (omega arith, omega arith);
  ballots = omega arith;
  candidates = (omega arith, omega arith);
  names =
      All-cons (IsName MOST_NAME_BYTES) (codes "A") (codes "B" ∷ []) (letter MOST_NAME_BYTES 65 (omega arith) (omega arith))
      (All-cons (IsName MOST_NAME_BYTES) (codes "B") [] (letter MOST_NAME_BYTES 66 (omega arith) (omega arith))
      (All-nil (IsName MOST_NAME_BYTES)));
  rows = All-nil (IsPrintableRow 9 2);
  last = two;
}

pub worked_text : WorkedText
unfolding digits text_of_lines outcome_line
worked_text = record {
  calls = said;
  ends = record { before = take 8 calls; last = refl; no_other = refl };
  freezes = refl;
  sheets =
      All-cons (IsPrintableSheet 9) before (behind ∷ []) (printable (Elected ∷ Elected ∷ []) refl)
      (All-cons (IsPrintableSheet 9) behind [] (printable (Elected ∷ Withdrawn ∷ []) refl) (All-nil (IsPrintableSheet 9)));
  text = refl;
}
