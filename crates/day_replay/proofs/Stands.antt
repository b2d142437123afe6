-- What stands for a freeze: few enough ballots, of the candidates of the office.
use Rattle.std.proofs.Common.{ℕ, ◌≤◌, Bool, true, false, cond, List, [], ◌∷◌, ◌++◌, arith}
use Rattle.std.specs.Prelude.{All}
use Rattle.std.proofs.lemmas.List.Elements.{All-nil, All-head, All-tail, All-push, All-weaker}
use Rattle.plain_ballots.specs.declared.limits.TheConstants.{MOST_CANDIDATES}
use Rattle.plain_ballots.specs.Ballots.{ballot_count}
use Rattle.batch_core.specs.declared.call.Call.{Call}
use Rattle.batch_core.specs.declared.call.Call.TheVariants.{Change as Changes, Freeze, Strike}
use Rattle.batch_core.specs.declared.entry.Entry.{Entry}
use Rattle.batch_core.specs.Book.{BookState, empty, after, is_struck, standing}
use Rattle.batch_core.specs.Histories.{after_all}
use Rattle.batch_core.specs.Lawful.{MayStep, AreLawful}
use Rattle.batch_core.proofs.LawfulLemmas.{standing_total, kept_all}
use Rattle.day_reader.specs.Said.{IsAnswerable}
use Rattle.batch_core.specs.declared.limits.TheConstants.{MOST_STANDING}

-- ---- calls that an office of so many candidates answers

may_step : (n : ℕ) (asked : Call) → n ≤ MOST_CANDIDATES → IsAnswerable n asked → MayStep n asked
may_step n (Changes change) most is = is
may_step n Freeze most is = tt
may_step n (Strike c) most is = (is.0, omega (arith, is.1, most))

-- few enough ballots stand after them
pub few_stand :
    (n : ℕ) (history : List Entry) → n ≤ MOST_CANDIDATES → All (λ e. IsAnswerable n e.call) history
    → ballot_count (standing (after_all empty history)) ≤ MOST_STANDING
few_stand n history most answerable = standing_total n (after_all empty history) (kept_all n history lawful)
  where
    lawful : AreLawful n history
    lawful =
        All-weaker (λ (e : Entry). IsAnswerable n e.call) (λ (e : Entry). MayStep n e.call)
        (λ e is. may_step n e.call most is) history answerable

-- who is struck is one of the candidates
module _ (n : ℕ) where
  abbrev IsOne : ℕ → Type 0
  IsOne c = (1 ≤ c) × (c ≤ n)

  more_if : (b : Bool) (struck : List ℕ) (c : ℕ) → All IsOne struck → IsOne c → All IsOne (cond b struck (struck ++ c ∷ []))
  more_if true struck c all one = all
  more_if false struck c all one = All-push IsOne struck c all one

  after_one :
      (book : BookState) (asked : Call) → All IsOne book.struck → IsAnswerable n asked
      → All IsOne (after book asked).struck
  after_one book (Changes change) all is = all
  after_one book Freeze all is = all
  after_one book (Strike c) all is = more_if (is_struck book.struck c) book.struck c all is

  after_each :
      (book : BookState) (es : List Entry) → All IsOne book.struck → All (λ e. IsAnswerable n e.call) es
      → All IsOne (after_all book es).struck
  after_each book [] all answerable = all
  after_each book (e ∷ es) all answerable =
      let P = λ (x : Entry). IsAnswerable n x.call in
      after_each (after book e.call) es (after_one book e.call all (All-head P e es answerable)) (All-tail P e es answerable)

  pub struck_in_range :
      (history : List Entry) → All (λ e. IsAnswerable n e.call) history → All IsOne (after_all empty history).struck
  struck_in_range history answerable = after_each empty history (All-nil IsOne) answerable
