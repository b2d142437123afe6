-- What an iteration decided is read in one way.
use Rattle.std.proofs.Common.{◌≡◌, ℕ, Bool, false, List, [], ◌∷◌, ◌++◌, length, replicate, ◌<◌, sym, ◌∙◌, ap}
use Rattle.std.specs.Prelude.{◌≢◌, codes, Option, Some, None, MatchOption}
use Rattle.meek_rule.specs.declared.step.Step.{Step}
use Rattle.meek_rule.specs.declared.step.Step.TheVariants.{Elected, Iterate, Defeat}
use Rattle.sheet_text.specs.Lines.{listed, marked_lines, step_line}
use Rattle.meek_count.specs.Ranges.{HasTiedFor}
use Rattle.sheet_reader.specs.Parts.{decision_lines_of, defeat_line}
use Rattle.sheet_reader.proofs.LineParts.{heads, no_line, line_of_list, with_line}
use Rattle.sheet_reader.proofs.RowLines.{decision_is, elected_line, iterate_line, step_line_is}

pub no_step : (text : List ℕ) (len : ℕ) → text ≢ codes "step elected" → text ≢ codes "step iterate"
    → ((c : ℕ) (others : List Bool) → length others ≡ len → HasTiedFor len (Defeat c) others
    → text ≢ defeat_line c (listed 1 others))
    → (step : Step) (others : List Bool) → length others ≡ len → HasTiedFor len step others → text ≢ step_line step others
no_step text len elected iterate defeat Elected others long has is = elected (is ∙ elected_line others)
no_step text len elected iterate defeat Iterate others long has is = iterate (is ∙ iterate_line others)
no_step text len elected iterate defeat (Defeat c) others long has is = defeat c others long has (is ∙ step_line_is c others)

-- without a line nobody is marked
pub nobody_marked :
    (word : List ℕ) (n : ℕ) (marks : List Bool) (old new : List (List ℕ)) → marks ≡ replicate n false
    → new ≡ old → old ≡ marked_lines word marks ++ new
nobody_marked word n marks old new none same =
    sym (ap (λ (ls : List (List ℕ)). ls ++ new) (ap (λ (ms : List Bool). marked_lines word ms) none ∙ no_line word n) ∙ same)

pub list_read :
    (word list : List ℕ) (marks : List Bool) (old new : List (List ℕ)) → old ≡ (word ++ list) ∷ new
    → 0 < length list → list ≡ listed 1 marks → old ≡ marked_lines word marks ++ new
list_read word list marks old new read some is =
    read ∙ sym (ap (λ (ls : List (List ℕ)). ls ++ new) (line_of_list word list marks some is))

-- a line of marks has a list
pub list_empty : {A : Type 0} (word list : List ℕ) (others : List Bool) (old new rest : List (List ℕ))
    → ((text : List ℕ) (more : List (List ℕ)) → rest ≢ (word ++ text) ∷ more)
    → old ≡ (word ++ list) ∷ new → old ≡ marked_lines word others ++ rest → list ≡ [] → A
list_empty word list others old new rest other read is empty =
    let w = with_line word list others old new rest other read is in absurd (w.1 (sym w.0 ∙ empty))

pub decision_read : (r : Option Step) (n : ℕ) (e d t : List Bool) (text : List ℕ) (old l1 l2 l3 : List (List ℕ))
    → old ≡ marked_lines (codes "elected") e ++ l1 → l1 ≡ marked_lines (codes "capped") d ++ l2 → l2 ≡ text ∷ l3
    → ((e' d' t' : List Bool) (step : Step) (rest : List (List ℕ)) → length e' ≡ n → length d' ≡ n
    → length t' ≡ n → HasTiedFor n step t'
    → old ≡ decision_lines_of e' d' step t' ++ rest → l2 ≡ step_line step t' ∷ rest)
    → MatchOption r ((step : Step) (others : List Bool) → length others ≡ n → HasTiedFor n step others
    → text ≢ step_line step others)
    (λ step. HasTiedFor n step t × (text ≡ step_line step t))
    → MatchOption r
    ((e' d' t' : List Bool) (step : Step) (rest : List (List ℕ)) → length e' ≡ n → length d' ≡ n
    → length t' ≡ n → HasTiedFor n step t'
    → old ≢ decision_lines_of e' d' step t' ++ rest)
    (λ step. HasTiedFor n step t × (old ≡ decision_lines_of e d step t ++ l3))
decision_read None n e d t text old l1 l2 l3 elected capped next at h =
    λ e' d' t' step rest le ld lt has is. h step t' lt has
    (heads text (step_line step t') l3 rest (sym next ∙ at e' d' t' step rest le ld lt has is)).0
decision_read (Some step) n e d t text old l1 l2 l3 elected capped next at h = (
  h.0,
  elected
      ∙ ap (λ (ls : List (List ℕ)). marked_lines (codes "elected") e ++ ls)
      (capped ∙ ap (λ (ls : List (List ℕ)). marked_lines (codes "capped") d ++ ls) (next ∙ ap (λ (l : List ℕ). l ∷ l3) h.1))
      ∙ sym (decision_is e d step t l3),
)
