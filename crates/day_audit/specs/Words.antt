-- The words of an audit.
use Rattle.std.specs.Prelude.{◌≡◌, ◌≤◌, ⊤, List, [], codes}
use Rattle.meek_trial.specs.declared.day.TheConstants.{MOST_TRIAL}
use Rattle.meek_words.specs.Numerals.{Word}
use Rattle.number_word.specs.Taken.{TakesNumber}
use Rattle.day_audit.specs.declared.audit_asked.AuditAsked.{AuditAsked}
use Rattle.day_audit.specs.declared.audit_asked.AuditAsked.TheVariants.{Day, Trial}

-- no word for the text of a day; the number of a made day for its summary
abbrev pub TakesAudit : List Word → AuditAsked → Type 0
TakesAudit words Day = words ≡ []
TakesAudit words (Trial number) = TakesNumber (codes "--trial") MOST_TRIAL words number

-- a made day has a number from 1 to 1,000
abbrev pub MayBeAsked : AuditAsked → Type 0
MayBeAsked Day = ⊤
MayBeAsked (Trial number) = (1 ≤ number) × (number ≤ MOST_TRIAL)
