-- The history of a day file's teams may be printed, so that the text that is owed of it is read back.
use Rattle.std.proofs.Common.{ℕ, true, List, All, length, sym, subst}
use Rattle.plain_ballots.specs.Ballots.{plain}
use Rattle.meek_count.specs.Laws.{IsElection}
use Rattle.batch_core.specs.declared.entry.Entry.{Entry}
use Rattle.batch_core.specs.Histories.{standing_after, struck_after}
use Rattle.day_reader.specs.declared.day.Day.{Day}
use Rattle.day_reader.specs.Call.{IsCall}
use Rattle.day_reader.specs.Day.{scale_of}
use Rattle.day_lines.specs.DayHistory.{IsHistoryOf}
use Rattle.day_lines.specs.DayText.{roll_with, terms_of}
use Rattle.day_lines.specs.Owed.{SaysDay}
use Rattle.day_lines.proofs.TermsLemmas.{still_a_roll}
use Rattle.day_text.specs.Written.{MayBePrinted, HistoriesHaveTheForm, HistoriesAreReadBack}
use Rattle.day_text.specs.Owed.{OwedTextsHaveTheForm, OwedTextsAreReadBack}
use Rattle.day_text.proofs.FileTerms.{IsInScale, in_scale, order_of}
use Rattle.day_reader.proofs.RollNames.{printed_roll}
use Rattle.day_text.proofs.SaidReplies.{said_history}
use Rattle.day_text.proofs.ScriptCalls.{IsAsked, each_call}
use Rattle.day_reader.proofs.CallRankings.{rankings, not_too_many}

module _ (input : List ℕ) (day : Day) (history : List Entry) (says : SaysDay input day)
    (whole : IsHistoryOf day.scripts history) where
  abbrev candidates : ℕ
  candidates = length day.roll.names

  asked : All (λ e. IsAsked candidates e.caller e.call) history
  asked = each_call candidates says.file.teams day.scripts history says.file.teams_are says.file.scripts whole

  calls : All (λ e. IsCall candidates e.call) history
  calls k d inside = (asked k d inside).1

  counted_so : IsInScale day.places day.omega
  counted_so =
      subst (λ (p : ℕ). IsInScale p day.omega) (sym says.file.places)
      (subst (λ (o : ℕ). IsInScale (scale_of says.file.scale).places o) (sym says.file.omega)
      (in_scale says.file.scale says.file.scale_in))

  election :
      (n : ℕ)
      → IsElection day.places day.omega (plain (standing_after history n))
      (roll_with day.roll (struck_after history n)) day.lots
  election n =
      let roll = printed_roll input true day says.file in
      let few = roll.sound.few_candidates in
      record {
        places_from = counted_so.least_places;
        places_to = counted_so.most_places;
        some_omega = counted_so.some_omega;
        small_omega = counted_so.small_omega;
        few_ballots = not_too_many candidates history n few calls;
        rankings = rankings candidates history n calls;
        sound_roll = still_a_roll day.roll (struck_after history n) roll.sound;
        order_of_lots = order_of candidates day.lots says.file.lots few;
        lots_of_all = says.file.lots.all;
      }

  pub may_be_printed : MayBePrinted (terms_of day) history
  may_be_printed =
      let roll = printed_roll input true day says.file in
      record {
        calls = said_history candidates roll.sound.few_candidates history asked whole.legal;
        ends = whole.ends;
        names = record { title = roll.title; names = roll.names };
        elections = election;
      }

pub owed_form : HistoriesHaveTheForm → OwedTextsHaveTheForm
owed_form form input history text owed =
    form (terms_of owed.day) history text (may_be_printed input owed.day history owed.says owed.calls) owed.text

pub owed_read : HistoriesAreReadBack → OwedTextsAreReadBack
owed_read read input history text result owed reads =
    read (terms_of owed.day) history text result (may_be_printed input owed.day history owed.says owed.calls) owed.text reads
