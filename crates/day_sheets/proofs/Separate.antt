-- Histories of teams that have their batches for themselves end alike.
use Rattle.std.proofs.Common.{◌≡◌, ℕ, ◌==◌, Bool, true, false, List, [], ◌∷◌, length, map}
use Rattle.std.proofs.Common.{All, refl, sym, ap, ◌∙◌, subst, ⊎_elim, ◌≢◌}
use Rattle.std.specs.Prelude.{Option, Some, None}
use Rattle.std.proofs.lemmas.Bool.Decides.{eqb_tells}
use Rattle.std.proofs.lemmas.List.{length-map}
use Rattle.std.proofs.lemmas.List.Elements.{All-head, All-tail, All-weaker}
use Rattle.batch_core.specs.declared.batch.Batch.{Batch}
use Rattle.batch_core.specs.declared.call.Call.{Call}
use Rattle.batch_core.specs.declared.call.Call.TheVariants.{Change, Freeze, Strike}
use Rattle.batch_core.specs.declared.entry.Entry.{Entry}
use Rattle.batch_core.specs.Book.{BookState, empty, after, batch_of}
use Rattle.batch_core.specs.Histories.{after_all, own_calls}
use Rattle.day_reader.specs.declared.script.Script.{Script}
use Rattle.day_lines.specs.DayHistory.{calls_of, IsHistoryOf}
use Rattle.day_sheets.specs.Laws.{IsOfOwn, AreSeparate, SeparateTeamsEndAlike}
use Rattle.day_lines.proofs.HistoryCalls.{all_callers, each_caller, same_calls}
use Rattle.day_sheets.proofs.OwnBatches.{is_of, of_batch, kept_by, kept, by_one}
use Rattle.day_sheets.proofs.AsMany.{as_many}

-- a call strikes nobody
abbrev StrikesNobody : Call → Type 0
StrikesNobody (Change change) = Unit {0}
StrikesNobody Freeze = Unit {0}
StrikesNobody (Strike candidate) = ⊥

strikes_nobody : (team_of : ℕ → ℕ) (team : ℕ) (call : Call) → IsOfOwn team_of team call → StrikesNobody call
strikes_nobody team_of team (Change change) is = tt
strikes_nobody team_of team Freeze is = tt
strikes_nobody team_of team (Strike candidate) is = is

struck_after_call : (book : BookState) (call : Call) → StrikesNobody call → (after book call).struck ≡ book.struck
struck_after_call book (Change change) nobody = refl
struck_after_call book Freeze nobody = refl
struck_after_call book (Strike candidate) nobody = absurd nobody

nobody_struck : (book : BookState) (history : List Entry) → All (λ e. StrikesNobody e.call) history
    → (after_all book history).struck ≡ book.struck
nobody_struck book [] all = refl
nobody_struck book (e ∷ es) all =
    nobody_struck (after book e.call) es (All-tail (λ (x : Entry). StrikesNobody x.call) e es all)
    ∙ struck_after_call book e.call (All-head (λ (x : Entry). StrikesNobody x.call) e es all)

-- a call of a batch is by its team, or by the clerk, who calls no batch
its_team :
    (team_of : ℕ → ℕ) (batch team : ℕ) (call : Call) → IsOfOwn team_of team call → is_of batch call ≡ true
    → team ≡ team_of batch
its_team team_of batch team (Change change) is of =
    ⊎_elim
    (λ (same : ((batch == batch_of change) ≡ true) × (batch ≡ batch_of change)). sym is ∙ ap team_of (sym same.1))
    (λ (other : ((batch == batch_of change) ≡ false) × (batch ≢ batch_of change)). absurd (cc))
    (eqb_tells batch (batch_of change))
its_team team_of batch team Freeze is of = absurd (cc)
its_team team_of batch team (Strike candidate) is of = absurd is

module _ (team_of : ℕ → ℕ) (scripts : List Script) (separate : AreSeparate team_of scripts) where
  own : (history : List Entry) → IsHistoryOf scripts history → All (λ e. IsOfOwn team_of e.caller e.call) history
  own history is =
      all_callers (IsOfOwn team_of) history (each_caller (IsOfOwn team_of) scripts history is separate tt)

  by_its_team : (history : List Entry) → IsHistoryOf scripts history → (batch : ℕ)
      → of_batch batch (calls_of history) ≡ of_batch batch (calls_of (own_calls (team_of batch) history))
  by_its_team history is batch =
      by_one batch (team_of batch) history
      (λ k d inside of. its_team team_of batch _ _ (own history is k d inside) of)

  nobody : (history : List Entry) → IsHistoryOf scripts history → (after_all empty history).struck ≡ []
  nobody history is =
      nobody_struck empty history (λ k d inside. strikes_nobody team_of _ _ (own history is k d inside))

  module _ (one other : List Entry) (is : IsHistoryOf scripts one) (too : IsHistoryOf scripts other) where
    same : (caller : ℕ) → calls_of (own_calls caller one) ≡ calls_of (own_calls caller other)
    same = same_calls scripts one other is too

    batch_alike : (batch : ℕ) → (after_all empty one).batches batch ≡ (after_all empty other).batches batch
    batch_alike batch =
        kept batch empty one
        ∙ (ap (kept_by None) (by_its_team one is batch
        ∙ (ap (of_batch batch) (same (team_of batch)) ∙ sym (by_its_team other too batch)))
        ∙ sym (kept batch empty other))

    length_alike : (caller : ℕ) → length (own_calls caller one) ≡ length (own_calls caller other)
    length_alike caller =
        sym (length-map (own_calls caller one) (λ e. e.call))
        ∙ (ap length (same caller) ∙ length-map (own_calls caller other) (λ e. e.call))

    struck_alike : (after_all empty one).struck ≡ (after_all empty other).struck
    struck_alike = nobody one is ∙ sym (nobody other too)

    alike : after_all empty one ≡ after_all empty other
    alike = λ i. let book : BookState = record { batches = λ batch. batch_alike batch i; struck = struck_alike i } in book

pub end_alike : SeparateTeamsEndAlike
end_alike team_of scripts one other separate is too = (
  as_many one other (length_alike team_of scripts separate one other is too),
  alike team_of scripts separate one other is too,
)
