-- Histories that grow at their end.
use Rattle.std.proofs.Common.{◌≡◌, ℕ, ◌==◌, List, [], ◌∷◌, ◌++◌, length, refl, ap}
use Rattle.std.proofs.Math.Seq.{take-append_seam}
use Rattle.std.proofs.lemmas.List.Elements.{filter-append}
use Rattle.batch_core.specs.declared.entry.Entry.{Entry}
use Rattle.batch_core.specs.Book.{BookState, empty, reply, after, standing}
use Rattle.batch_core.specs.Histories.{after_all, IsAnsweredBy, IsLegal, standing_after, struck_after, own_calls}

answered_more :
    (book : BookState) (es : List Entry) (e : Entry) → IsAnsweredBy book es
    → e.reply ≡ reply (after_all book es) e.call → IsAnsweredBy book (es ++ e ∷ [])
answered_more book [] e legal is = (is, tt)
answered_more book (x ∷ es) e legal is = (legal.0, answered_more (after book x.call) es e legal.1 is)

answered_there :
    (book : BookState) (es more : List Entry) (e : Entry) → IsAnsweredBy book (es ++ e ∷ more)
    → e.reply ≡ reply (after_all book es) e.call
answered_there book [] more e legal = legal.0
answered_there book (x ∷ es) more e legal = answered_there (after book x.call) es more e legal.1

after_more :
    (book : BookState) (es : List Entry) (e : Entry)
    → after_all book (es ++ e ∷ []) ≡ after (after_all book es) e.call
after_more book [] e = refl
after_more book (x ∷ es) e = after_more (after book x.call) es e

pub legal_more :
    (history : List Entry) (e : Entry) → IsLegal history → e.reply ≡ reply (after_all empty history) e.call
    → IsLegal (history ++ e ∷ [])
legal_more history e legal is = answered_more empty history e legal is

pub legal_there :
    (history more : List Entry) (e : Entry) → IsLegal (history ++ e ∷ more)
    → e.reply ≡ reply (after_all empty history) e.call
legal_there history more e legal = answered_there empty history more e legal

pub book_more :
    (history : List Entry) (e : Entry)
    → after_all empty (history ++ e ∷ []) ≡ after (after_all empty history) e.call
book_more history e = after_more empty history e

pub standing_then :
    (history more : List Entry)
    → standing_after (history ++ more) (length history) ≡ standing (after_all empty history)
standing_then history more = ap (λ h. standing (after_all empty h)) (take-append_seam history more)

pub struck_then :
    (history more : List Entry)
    → struck_after (history ++ more) (length history) ≡ (after_all empty history).struck
struck_then history more = ap (λ h. (after_all empty h).struck) (take-append_seam history more)

pub own_calls-append :
    (caller : ℕ) (history more : List Entry)
    → own_calls caller (history ++ more) ≡ own_calls caller history ++ own_calls caller more
own_calls-append caller history more = filter-append (λ e. e.caller == caller) history more
