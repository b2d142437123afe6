-- Words ask for one work, and what is accepted for it is not refused, nor refused twice.
use Rattle.std.proofs.Common.{◌≡◌, ℕ, List, refl, ap, true}
use Rattle.std.specs.Prelude.{Option, Ok, Err}
use Rattle.std.proofs.KnownBytes.{Keeps-refl}
use Rattle.meek_words.specs.declared.command.Command.TheVariants.{Count as CountWords, Day as DayWords, Trial as TrialWords}
use Rattle.meek_words.specs.declared.words_stop.WordsStop.{WordsStop}
use Rattle.meek_words.specs.declared.words_stop.WordsStop.TheVariants.{BadWords as BadWordsStop, NoMemory as NoWordsRead}
use Rattle.meek_words.specs.Forms.{HasForm, HaveOneCommand}
use Rattle.meek_words.specs.declared.command.Command.{Command}
use Rattle.input_text.specs.declared.input_fault.InputFault.{InputFault}
use Rattle.input_text.specs.Scan.{scan}
use Rattle.day_reader.specs.Said.{said_by, AcceptsDays, RefusesByTheRule}
use Rattle.batch_core.specs.declared.entry.Entry.{Entry}
use Rattle.tool_edge.specs.Streams.{NothingRead, reading}
use Rattle.tool_edge.specs.Tool.{IsSound}
use Rattle.tool_edge.specs.Tools.{ContestsAreNotRefused, ContestsAreRefusedOnce}
use Rattle.tool_edge.specs.Words.{IsAsked}
use Rattle.meek_cli.specs.declared.work.Work.{Work}
use Rattle.meek_cli.specs.declared.work.Work.TheVariants.{Count, Day, Trial}
use Rattle.meek_cli.specs.Owed.{Accepts, Refuses, Owes, meek}
use Rattle.meek_cli.specs.Work.{AsksFor}

one_work :
    HaveOneCommand → (words : List (List ℕ)) (work other : Work) → AsksFor words work → AsksFor words other
    → work ≡ other
one_work one words (Count lots) (Count others) (s, w, asked) (t, v, again) =
    let same : CountWords lots s w ≡ CountWords others t v = one words _ _ asked again in
    let lots_are : lots ≡ others = cc in
    ap Count lots_are
one_work one words (Count lots) Day (s, w, asked) (t, v, again) =
    let same : CountWords lots s w ≡ DayWords t v = one words _ _ asked again in
    absurd (cc)
one_work one words (Count lots) (Trial number) (s, w, asked) (t, v, again) =
    let same : CountWords lots s w ≡ TrialWords number t v = one words _ _ asked again in
    absurd (cc)
one_work one words Day (Count lots) (s, w, asked) (t, v, again) =
    let same : DayWords s w ≡ CountWords lots t v = one words _ _ asked again in
    absurd (cc)
one_work one words Day Day asked again = refl
one_work one words Day (Trial number) (s, w, asked) (t, v, again) =
    let same : DayWords s w ≡ TrialWords number t v = one words _ _ asked again in
    absurd (cc)
one_work one words (Trial number) (Count lots) (s, w, asked) (t, v, again) =
    let same : TrialWords number s w ≡ CountWords lots t v = one words _ _ asked again in
    absurd (cc)
one_work one words (Trial number) Day (s, w, asked) (t, v, again) =
    let same : TrialWords number s w ≡ DayWords t v = one words _ _ asked again in
    absurd (cc)
one_work one words (Trial number) (Trial other) (s, w, asked) (t, v, again) =
    let same : TrialWords number s w ≡ TrialWords other t v = one words _ _ asked again in
    let numbers_are : number ≡ other = cc in
    ap Trial numbers_are

either :
    ContestsAreNotRefused → AcceptsDays → RefusesByTheRule
    → (work : Work) (input : List ℕ) (fault : InputFault) → Accepts work input → Refuses work input fault
    → ⊥
either contests days refusals (Count lots) input fault contest refused = contests lots input fault contest refused
either contests days refusals Day input fault (day, says) refused =
    let read : said_by (scan input true) ≡ Ok day = (days (scan input true) day).1 says in
    let stopped : said_by (scan input true) ≡ Err fault = (refusals (scan input true) fault).1 refused in
    cc
either contests days refusals (Trial number) input fault accepted refused = refused

once :
    ContestsAreRefusedOnce → RefusesByTheRule → (work : Work) (input : List ℕ) (fault other : InputFault)
    → Refuses work input fault
    → Refuses work input other → fault ≡ other
once contests refusals (Count lots) input fault other refused again = contests lots input fault other refused again
once contests refusals Day input fault other refused again =
    let stopped : said_by (scan input true) ≡ Err fault = (refusals (scan input true) fault).1 refused in
    let restopped : said_by (scan input true) ≡ Err other = (refusals (scan input true) other).1 again in
    cc
once contests refusals (Trial number) input fault other refused again = absurd refused

owed :
    (work : Work) (input : List ℕ) (history : List Entry) (bytes : List ℕ) → Owes work input history bytes
    → Accepts work input
owed (Count lots) input history bytes owes = (owes.1.poll, owes.1.says)
owed Day input history bytes owes = (owes.day, owes.says)
owed (Trial number) input history bytes owes = tt

pub sound_by :
    ContestsAreNotRefused → ContestsAreRefusedOnce → AcceptsDays → RefusesByTheRule → HaveOneCommand → IsSound meek
sound_by contests contests_once days refusals one =
    record { one = one_work one; either = either contests days refusals; once = once contests_once refusals; owed = owed }

-- words of no command ask for nothing
pub no_work :
    (words : List (List ℕ)) → ((command : Command) → ¬ HasForm words command) → (work : Work)
    → ¬ AsksFor words work
no_work words none (Count lots) (s, w, asked) = none (CountWords lots s w) asked
no_work words none Day (s, w, asked) = none (DayWords s w) asked
no_work words none (Trial number) (s, w, asked) = none (TrialWords number s w) asked

pub none_asked : (words : List (List ℕ)) (stop : WordsStop) → (stop ≡ BadWordsStop → (work : Work) → ¬ AsksFor words work)
    → IsAsked AsksFor words (Err stop)
none_asked words BadWordsStop none = none refl
none_asked words NoWordsRead none = tt

-- and then nothing is read
pub nothing_read :
    {S : Type 0} (left : S → Option (List ℕ)) (faults : S → ℕ) (source : S) → NothingRead (reading left faults source source)
nothing_read left faults source = (refl, Keeps-refl (left source))
