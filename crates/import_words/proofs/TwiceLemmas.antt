-- Where an option that may come once comes twice, the values say nothing.
use Rattle.std.proofs.Common.{◌≡◌, ◌≤◌, Option, Some, None, List, [], length, ap, arith}
use Rattle.candidate_roll.specs.declared.limits.TheConstants.{MOST_TITLE_BYTES}
use Rattle.candidate_roll.specs.Name.{IsName}
use Rattle.plain_ballots.specs.declared.limits.TheConstants.{MOST_CANDIDATES}
use Rattle.meek_words.specs.Numerals.{Word, IsLotList, IsNumeralUpTo, number_of}
use Rattle.ballot_marks.specs.declared.choice.Treat.TheVariants as treats
use Rattle.import_words.specs.Asks.{IsRankList, IsWeight, Says}
use Rattle.import_words.specs.Pairs.{Given}
use Rattle.import_words.specs.Settings.{IsSeparator, SaysHead, SaysSkipped, head_word, layout_word, output_word, rows_word, treat_word}
use Rattle.import_words.specs.declared.asked.Asked.{Asked}
use Rattle.import_words.specs.declared.empty_rows.EmptyRows.TheVariants as rows
use Rattle.import_words.specs.declared.head_names.HeadNames.TheVariants as heads
use Rattle.import_words.specs.declared.head_words.HeadWords.TheVariants as head_words
use Rattle.import_words.specs.declared.output.Output.TheVariants as outputs
use Rattle.import_words.specs.declared.separator.Separator.{Separator}
use Rattle.import_words.proofs.ExitLemmas.{no_twice, not_twice}

separator_twice : (values : List Word) (said : Option Separator) → IsSeparator values said → 2 ≤ length values → ⊥
separator_twice values None is twice = omega (arith, ap length is)
separator_twice values (Some separator) is twice = omega (arith, ap length is)

weight_twice : (values : List Word) (said : Option Word) → IsWeight values said → 2 ≤ length values → ⊥
weight_twice values None is twice = omega (arith, ap length is)
weight_twice values (Some label) is twice = omega (arith, ap length is.0)

module _ (given : Given) (asked : Asked) (says : Says given asked) where
  pub layout : 2 ≤ length given.layout → ⊥
  layout = not_twice (λ (word : Word). word ≡ layout_word asked.layout) given.layout says.layout

  pub seats : 2 ≤ length given.seats → ⊥
  seats = not_twice (λ (word : Word). IsNumeralUpTo MOST_CANDIDATES word × (asked.roll.seats ≡ number_of word))
      given.seats says.roll.seats

  pub title : 2 ≤ length given.title → ⊥
  title = no_twice (asked.roll.title ≡ []) (λ (word : Word). (asked.roll.title ≡ word) × IsName MOST_TITLE_BYTES word)
      given.title says.roll.title

  pub withdrawn : 2 ≤ length given.withdrawn → ⊥
  withdrawn = no_twice (asked.roll.withdrawn ≡ []) (λ (word : Word). IsLotList word asked.roll.withdrawn)
      given.withdrawn says.roll.withdrawn

  pub output : 2 ≤ length given.output → ⊥
  output = no_twice (asked.output ≡ outputs.Blt) (λ (word : Word). word ≡ output_word asked.output) given.output says.output

  pub equal : 2 ≤ length given.equal → ⊥
  equal = no_twice (asked.treatment.equal ≡ treats.Refuse) (λ (word : Word). word ≡ treat_word asked.treatment.equal)
      given.equal says.treatment.1

  pub skipped : 2 ≤ length given.skipped → ⊥
  skipped = no_twice (asked.treatment.skipped ≡ None) (λ (word : Word). SaysSkipped word asked.treatment.skipped)
      given.skipped says.treatment.0

  pub empty : 2 ≤ length given.empty → ⊥
  empty = no_twice (asked.empty ≡ rows.Refuse) (λ (word : Word). word ≡ rows_word asked.empty) given.empty says.empty

  pub separator : 2 ≤ length given.separator → ⊥
  separator = separator_twice given.separator asked.table.separator says.table.separator

  pub weight : 2 ≤ length given.weight → ⊥
  weight = weight_twice given.weight asked.table.weight says.table.weight

  pub head : 2 ≤ length given.head → ⊥
  head = no_twice (asked.table.head ≡ head_words.Unsaid) (λ (word : Word). SaysHead word asked.table.head) given.head
      says.table.head

  pub names : 2 ≤ length given.names → ⊥
  names = no_twice (asked.table.names ≡ heads.Whole) (λ (word : Word). word ≡ head_word asked.table.names)
      given.names says.table.names

  pub ranks : 2 ≤ length given.ranks → ⊥
  ranks = no_twice (asked.cells.ranks ≡ []) (λ (word : Word). IsRankList word asked.cells.ranks) given.ranks says.cells.ranks

  pub chosen : 2 ≤ length given.chosen → ⊥
  chosen =
      no_twice (asked.table.chosen ≡ []) (λ (word : Word). IsRankList word asked.table.chosen) given.chosen
      says.table.chosen

  pub repeated : 2 ≤ length given.repeated → ⊥
  repeated = no_twice (asked.treatment.repeated ≡ treats.Refuse)
      (λ (word : Word). word ≡ treat_word asked.treatment.repeated) given.repeated says.treatment.2
