-- Words that are an option and a number.
use Rattle.std.proofs.Common.{◌≡◌, ℕ, List, [], length, refl, sym, ap, ◌∙◌, arith}
use Rattle.std.specs.Prelude.{codes, Err}
use Rattle.meek_trial.specs.declared.day.TheConstants.{MOST_TRIAL}
use Rattle.meek_words.specs.Numerals.{Word}
use Rattle.meek_words.specs.declared.words_stop.WordsStop.{WordsStop}
use Rattle.meek_words.specs.declared.words_stop.WordsStop.TheVariants.{BadWords, NoMemory}
use Rattle.number_word.specs.Taken.{TakesNumber, HaveOneNumber}
use Rattle.tool_edge.specs.Words.{IsAsked}
use Rattle.day_audit.specs.declared.audit_asked.AuditAsked.{AuditAsked}
use Rattle.day_audit.specs.declared.audit_asked.AuditAsked.TheVariants.{Day, Trial}
use Rattle.day_audit.specs.Words.{TakesAudit, MayBeAsked}

-- words ask for one thing
pub ask_one :
    HaveOneNumber → (words : List Word) (one other : AuditAsked) → TakesAudit words one → TakesAudit words other
    → one ≡ other
ask_one numbers words Day Day is too = refl
ask_one numbers words Day (Trial n) is too = absurd (omega (arith, ap length (sym is ∙ too.1)))
ask_one numbers words (Trial n) Day is too = absurd (omega (arith, ap length (sym too ∙ is.1)))
ask_one numbers words (Trial n) (Trial m) is too =
    ap (λ (k : ℕ). Trial k) (numbers (codes "--trial") MOST_TRIAL words n m is too)

-- what words ask for can be asked
pub may_be : (words : List Word) (asked : AuditAsked) → TakesAudit words asked → MayBeAsked asked
may_be words Day is = tt
may_be words (Trial n) is =
    let value = is.2.1 in
    let least = is.2.0.least in
    let most = is.2.0.most in
    (omega (arith, value, least), omega (arith, value, most))

-- words that are there ask for no day, and for a trial by its number
pub none_asked :
    (words : List Word) → ¬ (words ≡ []) → ((n : ℕ) → ¬ TakesNumber (codes "--trial") MOST_TRIAL words n)
    → (asked : AuditAsked) → ¬ TakesAudit words asked
none_asked words some none Day is = some is
none_asked words some none (Trial n) is = none n is

-- and so does what was read of them
pub refused_asked :
    (words : List Word) (stop : WordsStop) → ¬ (words ≡ [])
    → IsAsked (TakesNumber (codes "--trial") MOST_TRIAL) words (Err stop) → IsAsked TakesAudit words (Err stop)
refused_asked words BadWords some none = λ asked. none_asked words some none asked
refused_asked words NoMemory some none = tt
