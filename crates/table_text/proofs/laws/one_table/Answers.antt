use Rattle.std.proofs.Common.{◌≡◌, ◌≢◌, ℕ, ◌<◌, List, [], ◌∷◌, ◌++◌, ◌⊎◌, inl, inr, refl, sym, ◌∙◌, subst}
use Rattle.std.proofs.Common.{arith}
use Rattle.table_text.specs.declared.text_fault.TextFault.{TextFault}
use Rattle.table_text.specs.Spelling.{Spelled}
use Rattle.table_text.specs.Reading.{Ending, AtEnd, AtFault, first_field, read, texts_of}
use Rattle.table_text.specs.Laws.{IsSeparator, IsRead}
use Rattle.table_text.proofs.SpelledRecords.{spelled_read}
use Rattle.table_text.proofs.ReadBack.{read_back}
use Rattle.table_text.proofs.laws.one_table.Goals as goal

pub returns-clause-read : goal.returns-clause-read
returns-clause-read c s at text fit = read_back s fit text 1 at

-- what has no records has no bytes
some_records :
    (s : ℕ) (records : List (List (List ℕ))) (text : List ℕ) → text ≢ [] → Spelled s records text
    → records ≡ [] → 1 < 1
some_records s records text some spelled none =
    absurd (some (subst (λ (r : List (List (List ℕ))). Spelled s r text) none spelled))

is_read :
    (s at : ℕ) (records : List (List (List ℕ))) (text : List ℕ) → IsSeparator s → text ≢ []
    → Spelled s records text → IsRead s at records text
is_read s at records text fit some spelled =
    let is =
    spelled_read s fit records text 1 at (omega arith) (some_records s records text some spelled)
    spelled in
    record { texts = is.texts; ending = is.ending }

pub returns-clause-spelled : goal.returns-clause-spelled
returns-clause-spelled c = is_read

no_front : (front rest : List ℕ) → [] ≡ front ++ rest → front ≡ []
no_front [] rest is = refl
no_front (b ∷ front) rest is = cc

-- nothing is spelled by no bytes but no records
none_of : (s : ℕ) (records : List (List (List ℕ))) → Spelled s records [] → records ≡ []
none_of s [] spelled = refl
none_of s (texts ∷ records) spelled =
    let front : List ℕ = spelled.1.front in
    absurd (spelled.1.some (no_front front (spelled.1.end ++ spelled.0) spelled.1.parts))

one_of :
    (s : ℕ) (one other : List (List (List ℕ))) (text : List ℕ) → IsSeparator s → Spelled s one text
    → Spelled s other text
    → one ≡ other
one_of s one other [] fit first second = none_of s one first ∙ sym (none_of s other second)
one_of s one other (b ∷ text) fit first second =
    let some : (b ∷ text) ≢ [] = λ e. cc in
    sym (is_read s 0 one (b ∷ text) fit some first).texts
    ∙ (is_read s 0 other (b ∷ text) fit some second).texts

pub returns-clause-one : goal.returns-clause-one
returns-clause-one c = one_of

table_or_fault :
    (s at : ℕ) (text : List ℕ) → IsSeparator s → (ending : Ending)
    → (read s (first_field 1 at) at text).ending ≡ ending
    → ((records : List (List (List ℕ))) × Spelled s records text)
    ⊎ ((fault : TextFault) × ((read s (first_field 1 at) at text).ending ≡ AtFault fault))
table_or_fault s at text fit AtEnd is =
    inl (texts_of (read s (first_field 1 at) at text).rows, read_back s fit text 1 at is)
table_or_fault s at text fit (AtFault fault) is = inr (fault, is)

pub returns-clause-or_fault : goal.returns-clause-or_fault
returns-clause-or_fault c s at text fit =
    table_or_fault s at text fit (read s (first_field 1 at) at text).ending refl

pub returns-clause-not_both : goal.returns-clause-not_both
returns-clause-not_both c s at records fault text fit some spelled refused =
    let e = sym (is_read s at records text fit some spelled).ending ∙ refused in cc
