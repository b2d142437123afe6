-- Inputs of the form that the words ask for.
use Rattle.std.proofs.Common.{◌≡◌, ◌∙◌, refl, sym, ap, subst, ℕ, Option, Some, None, List}
use Rattle.std.specs.Prelude.{Result, Ok, Err, IfOk, IfErr}
use Rattle.std.specs.Option.{option_and_then, option_map}
use Rattle.ballot_table.specs.Imported.{IsImported, IsTableStop, refusal}
use Rattle.ballot_table.specs.declared.imported.Imported.{Imported}
use Rattle.ballot_table.specs.declared.layout.Layout.{Layout as TableLayout}
use Rattle.ballot_table.specs.declared.table_stop.TableStop.{TableStop}
use Rattle.ballot_table.specs.declared.table_stop.TableStop.TheVariants as stops
use Rattle.preflib_text.specs.Asked.{Asked as PrefAsked}
use Rattle.preflib_text.specs.Imported.{IsImported as IsImportedText}
use Rattle.preflib_text.specs.Refusals.{fault_of_text}
use Rattle.preflib_text.specs.Stops.{IsPrefStop}
use Rattle.preflib_text.specs.declared.imported.Imported.{Imported as ImportedText}
use Rattle.preflib_text.specs.declared.pref_fault.PrefFault.{PrefFault}
use Rattle.preflib_text.specs.declared.pref_stop.PrefStop.{PrefStop}
use Rattle.preflib_text.specs.declared.pref_stop.PrefStop.TheVariants as pref
use Rattle.import_words.specs.declared.asked.Asked.{Asked}
use Rattle.blt_import.specs.declared.read.Read.{Read}
use Rattle.blt_import.specs.declared.read_stop.ReadStop.{ReadStop}
use Rattle.blt_import.specs.declared.read_stop.ReadStop.TheVariants as stop
use Rattle.blt_import.specs.Faults.{fault_of}
use Rattle.blt_import.specs.declared.import_fault.ImportFault.TheVariants as fault
use Rattle.blt_import.specs.Forms.{TableForm, Table, Preflib, form_by}
use Rattle.blt_import.specs.Owed.{IsRead, IsReadStop, Reads, stop_of_text, withdrawn_in}
use Rattle.blt_import.specs.Report.{tally_of_orders}
use Rattle.blt_import.proofs.Withdrawn.{withdrawn_are_candidates}

-- a form withdraws those whom the words withdraw
pub withdrawn_by : (asked : Asked) (layout : Option TableLayout) → withdrawn_in (form_by asked layout) ≡ asked.roll.withdrawn
withdrawn_by asked None = refl
withdrawn_by asked (Some layout) = refl

-- what was read of a text of PrefLib was read of the input
pub text_read : (asked : PrefAsked) (input : List ℕ) (text : ImportedText) (read : Read) → IsImportedText asked input text
    → fault_of_text asked input ≡ None
    → read ≡ record {
      names = text.names;
      title = text.title;
      ballots = text.ballots;
      tally = tally_of_orders text.tally;
    }
    → IsRead (Preflib asked) input read
text_read asked input text read is sound same =
    subst (λ (r : Read). IsRead (Preflib asked) input r) (sym same) (record {
      says = (text, is, refl, refl, refl, refl);
      sound = sound;
      candidates = is.candidates;
      withdrawn = is.withdrawn;
    })

-- what was read of a table was read of the input
pub table_read : (form : TableForm) (input : List ℕ) (table : Imported) (result : Result Read ReadStop)
    → IsImported form.table input table → refusal form.table input ≡ None
    → IfOk result (λ read. read ≡ record {
      names = table.names;
      title = form.title;
      ballots = table.ballots;
      tally = table.tally;
    })
    → IfErr result (λ why. why ≡ stop.NoMemory) → Reads (Table form) input result
table_read form input table (Ok read) is sound same none =
    subst (λ (r : Read). IsRead (Table form) input r) (sym same) (record {
      says = (table, is, refl, refl, refl, refl);
      sound = sound;
      candidates = is.candidates;
      withdrawn = withdrawn_are_candidates form.table input table is sound;
    })
table_read form input table (Err stop.NoMemory) is sound same none = tt
table_read form input table (Err (stop.Fault why)) is sound same none = absurd (cc none)

-- what stopped the reading of a text of PrefLib stopped that of the input
pub text_stop : (first : Option PrefFault) (found : PrefStop) (result : ReadStop) → IsPrefStop first found
    → result ≡ stop_of_text found → IsReadStop (option_map (λ why. fault.Preflib why) first) result
text_stop first (pref.Fault why) (stop.Fault f) is read =
    let same : f ≡ fault.Preflib why = cc in
    ap (option_map (λ (w : PrefFault). fault.Preflib w)) is ∙ ap (λ g. Some g) (sym same)
text_stop first (pref.Fault why) stop.NoMemory is read = tt
text_stop first pref.NoMemory stop.NoMemory is read = tt
text_stop first pref.NoMemory (stop.Fault f) is read = absurd (cc read)

-- what stopped the reading of a table stopped that of the input
pub table_stop : (first : Option TableStop) (found : TableStop) (result : ReadStop) → IsTableStop first found
    → IsReadStop (fault_of found) result → IsReadStop (option_and_then fault_of first) result
table_stop first found stop.NoMemory is read = tt
table_stop first (stops.Text why) (stop.Fault f) is read = ap (option_and_then fault_of) is ∙ read
table_stop first (stops.Word kind place) (stop.Fault f) is read = ap (option_and_then fault_of) is ∙ read
table_stop first (stops.Record kind at row column) (stop.Fault f) is read = ap (option_and_then fault_of) is ∙ read
table_stop first stops.NoMemory (stop.Fault f) is read = absurd (cc read)
