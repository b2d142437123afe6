-- An input has one text.
use Rattle.std.proofs.Common.{◌≡◌, ◌∙◌, sym, ap, subst, ℕ, Option, Some, None, List, [], ◌∷◌, map}
use Rattle.std.specs.Prelude.{Result, Ok, IsPermutation}
use Rattle.std.proofs.lemmas.List.Sorted.{IsPermutation-refl}
use Rattle.plain_ballots.specs.Ballots.{BallotList, plain}
use Rattle.candidate_roll.specs.Roll.{RollList}
use Rattle.table_text.specs.Reading as text
use Rattle.table_text.specs.declared.text_fault.TextFault.{TextFault}
use Rattle.ballot_table.specs.declared.table_asked.TableAsked.{TableAsked}
use Rattle.ballot_table.specs.Head.{columns, names_of}
use Rattle.ballot_table.specs.Imported.{Headed, headed, texts_in}
use Rattle.ballot_table.specs.Asked.{asked_of}
use Rattle.ballot_table.specs.declared.tally.Tally.{Tally}
use Rattle.ballot_table.specs.Report.{tally_of}
use Rattle.ballot_table.specs.Table.{ballots, rows_of}
use Rattle.preflib_text.specs.declared.tally.Tally.{Tally as OrderTally}
use Rattle.blt_writer.specs.Laws.{OneBagHasOneText}
use Rattle.blt_writer.specs.Text.{IsBltText}
use Rattle.import_words.specs.declared.output.Output.{Output}
use Rattle.import_words.specs.declared.output.Output.TheVariants.{Blt, Report}
use Rattle.import_words.specs.declared.roll_words.RollWords.{RollWords}
use Rattle.blt_import.specs.Laws.{TablesHaveOneText}
use Rattle.blt_import.specs.declared.read.Read.{Read}
use Rattle.blt_import.specs.Owed.{IsTextOf, Says, roll_of}
use Rattle.blt_import.specs.Forms.{Form, Table, Preflib, form_of}
use Rattle.blt_import.specs.Report.{report_text, tally_of_orders}

-- what a head and rows say
module _ (asked : TableAsked) where
  abbrev names_in : Headed → List (List ℕ)
  names_in head = names_of (asked_of asked) head.names

  abbrev ballots_in : Headed → Option (List (List ℕ))
  ballots_in head =
      ballots asked.treatment
      (rows_of (asked_of asked) asked.empty (columns (asked_of asked) head.names) (map texts_in head.below))

  abbrev tally_in : Headed → Tally
  tally_in head =
      tally_of asked.treatment asked.empty (map texts_in head.below)
      (rows_of (asked_of asked) asked.empty (columns (asked_of asked) head.names) (map texts_in head.below))

pub one_byte : (m n : ℕ) (r : Result ℕ TextFault) → r ≡ Ok m → r ≡ Ok n → m ≡ n
one_byte m n r one other = let same = sym one ∙ other in cc

pub one_some : {X : Type 0} (x y : X) → Some x ≡ Some y → x ≡ y
one_some x y same = cc

-- what is read of an input is one thing, but for how its ballots stand in lines
record AreOne (one other : Read) : Type 0 where
  names : one.names ≡ other.names
  title : one.title ≡ other.title
  ballots : plain one.ballots.lines ≡ plain other.ballots.lines
  tally : one.tally ≡ other.tally

abbrev lines : BallotList → List (List ℕ)
lines ballots = plain ballots.lines

one_read : (form : Form) (input : List ℕ) (one other : Read) → Says form input one → Says form input other
    → AreOne one other
one_read (Table form) input one other (a, says, names_a, title_a, ballots_a, tally_a)
    (b, also, names_b, title_b, ballots_b, tally_b) =
    let byte = one_byte says.byte also.byte _ says.separated also.separated in
    let head : says.head ≡ also.head = one_some says.head also.head
    (sym says.records ∙ ap (λ n. headed form.table.heads (text.read_text n input).rows) byte ∙ also.records) in
    let names : a.names ≡ b.names = says.names ∙ ap (names_in form.table) head ∙ sym also.names in
    let some : Some (plain a.ballots.lines) ≡ Some (plain b.ballots.lines) =
    sym says.ballots_are ∙ ap (ballots_in form.table) head ∙ also.ballots_are in
    let tally : a.tally ≡ b.tally = says.tally_is ∙ ap (tally_in form.table) head ∙ sym also.tally_is in
    record {
      names = names_a ∙ names ∙ sym names_b;
      title = title_a ∙ sym title_b;
      ballots = ap lines ballots_a ∙ one_some (lines a.ballots) (lines b.ballots) some ∙ sym (ap lines ballots_b);
      tally = tally_a ∙ tally ∙ sym tally_b;
    }
one_read (Preflib form) input one other (a, says, names_a, title_a, ballots_a, tally_a)
    (b, also, names_b, title_b, ballots_b, tally_b) =
    let some : Some (plain a.ballots.lines) ≡ Some (plain b.ballots.lines) = sym says.ballots_are ∙ also.ballots_are in
    let tally : a.tally ≡ b.tally = says.tally_is ∙ sym also.tally_is in
    record {
      names = names_a ∙ says.names_are ∙ sym also.names_are ∙ sym names_b;
      title = title_a ∙ says.title_is ∙ sym also.title_is ∙ sym title_b;
      ballots = ap lines ballots_a ∙ one_some (lines a.ballots) (lines b.ballots) some ∙ sym (ap lines ballots_b);
      tally = tally_a ∙ ap (λ (t : OrderTally). tally_of_orders t) tally ∙ sym tally_b;
    }

-- and so is what is written of it
one_written : OneBagHasOneText → (output : Output) (words : RollWords) (one other : Read) (text again : List ℕ)
    → AreOne one other → IsTextOf output words one text → IsTextOf output words other again → text ≡ again
one_written once Blt words one other text again same is also =
    let roll : roll_of words one.names one.title ≡ roll_of words other.names other.title =
    λ i. roll_of words (same.names i) (same.title i) in
    once (roll_of words other.names other.title) (plain one.ballots.lines) (plain other.ballots.lines) text again
    (subst (λ (bs : List (List ℕ)). IsPermutation (plain one.ballots.lines) bs) same.ballots (IsPermutation-refl _))
    (subst (λ (r : RollList). IsBltText (plain one.ballots.lines) r text) roll is) also
one_written once Report words one other text again same is also = is ∙ ap report_text same.tally ∙ sym also

pub one_text : OneBagHasOneText → TablesHaveOneText
one_text once asked input one other a b =
    one_written once asked.output asked.roll a.read b.read one other
    (one_read (form_of asked) input a.read b.read a.says b.says) a.text b.text
