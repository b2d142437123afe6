-- The first calls of a history.
use Rattle.std.proofs.Common.{◌≡◌, ℕ, zero, suc, ◌+◌, ◌<◌, Bool, true, false, cond, List, [], ◌∷◌, ◌++◌, length, take, drop, get_or}
use Rattle.std.proofs.Common.{sym, ap, ◌∙◌, subst}
use Rattle.std.specs.Option.{option_to_list}
use Rattle.std.proofs.lemmas.List.{append-nil, append_assoc, take_more, take-append-drop}
use Rattle.batch_core.specs.declared.call.Call.{Call}
use Rattle.batch_core.specs.declared.call.Call.TheVariants.{Change as Changes, Freeze, Strike}
use Rattle.batch_core.specs.declared.reply.Reply.{Reply}
use Rattle.batch_core.specs.declared.reply.Reply.TheVariants.{Struck, AlreadyStruck}
use Rattle.batch_core.specs.declared.entry.Entry.{Entry}
use Rattle.batch_core.specs.Book.{BookState, empty, after, is_struck, reply}
use Rattle.batch_core.specs.Histories.{IsAnsweredBy, IsLegal, after_all}
use Rattle.batch_core.specs.Laws.{AnswersEachCall, LeadsOn}
use Rattle.day_replay.specs.Places.{struck_by}

front_answered : (book : BookState) (es : List Entry) (n : ℕ) → IsAnsweredBy book es → IsAnsweredBy book (take n es)
front_answered book [] zero is = tt
front_answered book [] (suc n) is = tt
front_answered book (e ∷ es) zero is = tt
front_answered book (e ∷ es) (suc n) is = (is.0, front_answered (after book e.call) es n is.1)

-- they are legal too
pub front_legal : (history : List Entry) (n : ℕ) → IsLegal history → IsLegal (take n history)
front_legal history n legal = front_answered empty history n legal

module _ (history : List Entry) (k : ℕ) (e : Entry) (inside : k < length history) (at : e ≡ get_or history k e) where
  -- one call more
  pub front_more : take (k + 1) history ≡ take k history ++ e ∷ []
  front_more = take_more history k e inside ∙ ap (λ (x : Entry). take k history ++ x ∷ []) (sym at)

  parts : take k history ++ e ∷ drop (k + 1) history ≡ history
  parts =
      sym (append_assoc (take k history) (e ∷ []) (drop (k + 1) history))
      ∙ (ap (λ (l : List Entry). l ++ drop (k + 1) history) (sym front_more) ∙ take-append-drop (k + 1) history)

  -- and its reply
  pub reply_here : AnswersEachCall → IsLegal history → e.reply ≡ reply (after_all empty (take k history)) e.call
  reply_here answers legal = answers (take k history) (drop (k + 1) history) e (subst IsLegal (sym parts) legal)

  pub book_here : LeadsOn → after_all empty (take (k + 1) history) ≡ after (after_all empty (take k history)) e.call
  book_here leads = ap (after_all empty) front_more ∙ leads (take k history) e

-- ---- who is struck

by_test :
    (struck : List ℕ) (c : ℕ) (t : Bool) (answer : Reply) → answer ≡ cond t AlreadyStruck Struck
    → cond t struck (struck ++ c ∷ []) ≡ struck ++ option_to_list (struck_by (Strike c) answer)
by_test struck c true answer is =
    sym (append-nil struck) ∙ ap (λ (r : Reply). struck ++ option_to_list (struck_by (Strike c) r)) (sym is)
by_test struck c false answer is = ap (λ (r : Reply). struck ++ option_to_list (struck_by (Strike c) r)) (sym is)

pub struck_more :
    (book : BookState) (asked : Call) (answer : Reply) → answer ≡ reply book asked
    → (after book asked).struck ≡ book.struck ++ option_to_list (struck_by asked answer)
struck_more book (Changes change) answer gives = sym (append-nil book.struck)
struck_more book Freeze answer gives = sym (append-nil book.struck)
struck_more book (Strike c) answer gives = by_test book.struck c (is_struck book.struck c) answer gives
