-- Lines of verdicts, where a text ends, and how long an input may be, worked by hand.
use Rattle.std.specs.Prelude.{◌≡◌, ℕ, List, [], ◌∷◌, ◌++◌, Some, codes}
use Rattle.input_text.specs.declared.fault_kind.FaultKind.TheVariants.{Ended}
use Rattle.day_audit.specs.declared.audit_asked.AuditAsked.TheVariants.{Day, Trial}
use Rattle.day_replay.specs.declared.day_verdict.DayVerdict.TheVariants.{True, False}
use Rattle.day_audit.specs.Audit.{EndsInText, audits_days, audits_two, verdict_line}
use Rattle.day_audit.specs.Input.{HasNoLastEnd, IsDaySplit}
use Rattle.day_audit.specs.Words.{TakesAudit}

-- ---- lines of verdicts

pub record WorkedVerdictLines : Type 0 where
  pub day_true : verdict_line Day True ≡ codes "day true\n"
  pub day_false : verdict_line Day (False 12) ≡ codes "day false at line 12\n"
  pub trial_true : verdict_line (Trial 7) True ≡ codes "trial true\n"
  pub trial_false : verdict_line (Trial 7) (False 3) ≡ codes "trial false at line 3\n"

-- ---- where a text ends

-- two sheets: the first line `end` is not the last one
abbrev pub two_sheets : List ℕ
two_sheets = codes "end\nsheet 2\nend\n"

pub record WorkedEnds : Type 0 where
  pub two : IsDaySplit (two_sheets ++ codes "2 1\n") two_sheets (codes "2 1\n")
  pub nothing_behind : IsDaySplit (codes "a\nend\n") (codes "a\nend\n") []
  pub in_a_line : IsDaySplit (codes "x end\nend\nend\n") (codes "x end\nend\n") (codes "end\n")
  pub after_a_return : HasNoLastEnd (codes "x" ++ 13 ∷ codes "end\n")
  pub goes_on : HasNoLastEnd (codes "end\nsheet 2\n")
  pub no_line_feed : HasNoLastEnd (codes "end")
  pub ended : EndsInText (codes "end\nsheet 2\n") (record { kind = Ended; at = 12 })

-- ---- how long an input may be: 2^30 bytes, and a day file of its own 2^24

pub record WorkedLengths : Type 0 where
  pub of_a_day : audits_days.limit Day ≡ Some 1073741824
  pub of_a_trial : audits_days.limit (Trial 7) ≡ Some 1073741824
  pub of_a_text : audits_two.text_limit ≡ 1073741824
  pub of_a_day_file : audits_two.file_limit ≡ 16777216

-- ---- words

pub record WorkedWords : Type 0 where
  pub none : TakesAudit [] Day
  pub least : TakesAudit (codes "--trial" ∷ codes "1" ∷ []) (Trial 1)
  pub greatest : TakesAudit (codes "--trial" ∷ codes "1000" ∷ []) (Trial 1000)
  pub too_many : ¬ TakesAudit (codes "--trial" ∷ codes "1001" ∷ []) (Trial 1001)
  pub nought : ¬ TakesAudit (codes "--trial" ∷ codes "0" ∷ []) (Trial 0)
