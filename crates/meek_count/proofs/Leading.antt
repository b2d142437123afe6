-- Rows put together, one iteration after another.
use Rattle.std.proofs.Common.{◌≡◌, ℕ, false, List, [], ◌∷◌, ◌++◌, refl, sym, subst, ◌∙◌}
use Rattle.std.proofs.lemmas.List.{append_assoc}
use Rattle.meek_rule.specs.Situation.{is_complete}
use Rattle.meek_rule.specs.Row.{Row}
use Rattle.meek_rule.specs.Rule.{Rule}
use Rattle.meek_count.specs.Rows.{Rows, IteratesTo}
use Rattle.meek_count.specs.Progress.{Progress, IsSameElection, RowsLead}

-- no rows lead nowhere
pub leads_none : (rule : Rule) (s : ℕ) (start : Progress) → RowsLead rule s start [] start
leads_none rule s start = record {
  same = record { roll = refl; lots = refl; ballots = refl };
  onward = λ rows last rest. rest;
}

-- one iteration leads to the next situation
pub leads_one :
    (rule : Rule) (s : ℕ) (old new : Progress) → is_complete old.situation ≡ false
    → IteratesTo rule s old.ballots old.lots old.situation new.row new.situation → IsSameElection old new
    → RowsLead rule s old (new.row ∷ []) new
leads_one rule s old new going iterates same = record {
  same = same;
  onward = λ rows last rest.
      let here : Rows rule s old.ballots old.lots new.situation rows last =
      subst (λ (b : List (List ℕ)). Rows rule s b old.lots new.situation rows last) same.ballots
      (subst (λ (l : List ℕ). Rows rule s new.ballots l new.situation rows last) same.lots rest) in
      (going, (new.situation, iterates, here));
}

-- and after rows that led there it leads from where they began
pub leads_more :
    (rule : Rule) (s : ℕ) (start mid new : Progress) (done more : List Row) → RowsLead rule s start done mid
    → RowsLead rule s mid more new → RowsLead rule s start (done ++ more) new
leads_more rule s start mid new done more before next = record {
  same = record {
    roll = next.same.roll ∙ before.same.roll;
    lots = next.same.lots ∙ before.same.lots;
    ballots = next.same.ballots ∙ before.same.ballots;
  };
  onward = λ rows last rest.
      subst (λ (all : List Row). Rows rule s start.ballots start.lots start.situation all last)
      (sym (append_assoc done more rows))
      (before.onward (more ++ rows) last (next.onward rows last rest));
}
