-- Verdicts worked by hand.
use Rattle.std.specs.Prelude.{◌≡◌, ◌⊎◌, ℕ, List, [], codes}
use Rattle.day_replay.specs.declared.day_verdict.DayVerdict.TheVariants.{True, False}
use Rattle.day_replay.specs.Judged.{IsVerdict}

-- just two texts are lawful
abbrev pub IsOneOfTwo : List ℕ → Type 0
IsOneOfTwo text = (text ≡ codes "1 a\n2 b\n3 c\n") ⊎ (text ≡ codes "1 d\n2 e\n")

pub record WorkedVerdicts : Type 0 where
  pub one : IsVerdict IsOneOfTwo (codes "1 a\n2 b\n3 c\n") True
  pub other : IsVerdict IsOneOfTwo (codes "1 d\n2 e\n") True
  pub neither : ¬ IsVerdict IsOneOfTwo (codes "1 a\n2 e\n") True
  pub first_line : IsVerdict IsOneOfTwo (codes "1 b\n2 b\n3 c\n") (False 1)
  pub mixed : IsVerdict IsOneOfTwo (codes "1 a\n2 e\n") (False 2)
  pub not_the_first : ¬ IsVerdict IsOneOfTwo (codes "1 a\n2 e\n") (False 1)
  pub ends_early : IsVerdict IsOneOfTwo (codes "1 a\n2 b\n") (False 3)
  pub goes_on : IsVerdict IsOneOfTwo (codes "1 d\n2 e\n3 c\n") (False 3)
  pub no_line_feed : IsVerdict IsOneOfTwo (codes "1 d\n2 e") (False 2)
  pub nothing : IsVerdict IsOneOfTwo [] (False 1)
  pub of_a_true_text : ¬ IsVerdict IsOneOfTwo (codes "1 d\n2 e\n") (False 3)
