-- Lines of ballots, one line more at a time.
use Rattle.std.proofs.Common.{◌≡◌, ◌∙◌, ℕ, zero, suc, ◌+◌, ◌*◌, ◌≤◌, Bool, true, false, cond, List, [], ◌∷◌, ◌++◌}
use Rattle.std.proofs.Common.{ap, arith, refl, sym, append-nil, length, replicate}
use Rattle.std.specs.Prelude.{◌||◌}
use Rattle.std.specs.List.{list_any, sum_by}
use Rattle.std.proofs.lemmas.Grind.{common_steps}
use Rattle.std.proofs.lemmas.List.Folds.{list_any-append}
use Rattle.std.proofs.lemmas.List.Sums.{sum_by_push}
use Rattle.plain_ballots.specs.declared.ballot_line.BallotLine.{BallotLine}
use Rattle.plain_ballots.specs.Ballots.{ballot_count, plain}
use Rattle.plain_ballots.proofs.PlainLemmas.{plain-append, sum_by-plain}
use Rattle.candidate_roll.specs.Roll.{is_listed}
use Rattle.ballot_findings.specs.Counts.{how_many, is_ranked, rank_count}
use Rattle.ballot_findings.specs.Tally.{IsTally, TallyList}

-- a sum over the single ballots of one line more
plain_more :
    (f : List ℕ → ℕ) (before : List BallotLine) (line : BallotLine)
    → sum_by f (plain (before ++ line ∷ [])) ≡ sum_by f (plain before) + line.count * f line.ranking
plain_more f before line =
    sum_by-plain f (before ++ line ∷ [])
    ∙ (sum_by_push (λ (l : BallotLine). l.count * f l.ranking) before line
    ∙ ap (λ (n : ℕ). n + line.count * f line.ranking) (sym (sum_by-plain f before)))

pub how_many_more :
    (test : List ℕ → Bool) (before : List BallotLine) (line : BallotLine)
    → how_many test (before ++ line ∷ []) ≡ how_many test before + line.count * cond (test line.ranking) 1 0
how_many_more test before line = plain_more (λ (b : List ℕ). cond (test b) 1 0) before line

pub rank_count_more :
    (before : List BallotLine) (line : BallotLine)
    → rank_count (before ++ line ∷ []) ≡ rank_count before + line.count * length line.ranking
rank_count_more before line = plain_more (λ (b : List ℕ). length b) before line

pub ballots_more :
    (before : List BallotLine) (line : BallotLine)
    → ballot_count (before ++ line ∷ []) ≡ ballot_count before + line.count
ballots_more before line = sum_by_push (λ (l : BallotLine). l.count) before line

or_false : (b : Bool) → (b || false) ≡ b
or_false true = refl
or_false false = refl

or_same : (b : Bool) → (b || b) ≡ b
or_same true = refl
or_same false = refl

-- equal ballots, at least one, say what one says
any_of_equal :
    (test : List ℕ → Bool) (n : ℕ) (ranking : List ℕ) → 1 ≤ n → list_any test (replicate n ranking) ≡ test ranking
any_of_equal test zero ranking some = absurd (omega arith)
any_of_equal test (suc zero) ranking some = or_false (test ranking)
any_of_equal test (suc (suc n)) ranking some =
    ap (λ (b : Bool). test ranking || b) (any_of_equal test (suc n) ranking (omega arith)) ∙ or_same (test ranking)

pub ranked_more :
    (before : List BallotLine) (line : BallotLine) (c : ℕ) → 1 ≤ line.count
    → is_ranked (before ++ line ∷ []) c ≡ (is_ranked before c || is_listed line.ranking c)
ranked_more before line c some =
    let test : List ℕ → Bool = λ ballot. is_listed ballot c in
    ap (list_any test) (plain-append before (line ∷ []))
    ∙ (list_any-append test (plain before) (plain (line ∷ []))
    ∙ ap (λ (b : Bool). list_any test (plain before) || b)
    (ap (list_any test) (append-nil (replicate line.count line.ranking)) ∙ any_of_equal test line.count line.ranking some))

-- what no lines come to
abbrev pub no_tally : (candidates : ℕ) → TallyList
no_tally candidates = record {
  firsts = replicate candidates 0;
  ranked = replicate candidates false;
  ballots = 0;
  empty = 0;
  ranks = 0;
  of_withdrawn = 0;
}

pub nothing_tallied : (candidates : ℕ) (withdrawn : List Bool) → IsTally candidates withdrawn [] (no_tally candidates)
nothing_tallied candidates withdrawn = record {
  ballots = refl;
  empty = refl;
  ranks = refl;
  of_withdrawn = refl;
  firsts = λ c from below. grind (arith, common_steps);
  ranked = λ c from below. grind (arith, common_steps);
  all_firsts = grind (arith, common_steps);
  all_ranked = grind (arith, common_steps);
}
