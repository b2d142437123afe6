-- Metadata without a fault name no more candidates than there may be.
use Rattle.std.proofs.Common.{◌≡◌, ℕ, ◌≤◌, Bool, true, false, cond, List, [], ◌∷◌, map, Option, Some, None, unwrap_or, All}
use Rattle.std.proofs.Common.{◌+◌, take, refl, arith}
use Rattle.std.specs.List.{cons_option, enumerate_from, filter_map, list_any, slice_get}
use Rattle.std.specs.Option.{option_map, option_map_or}
use Rattle.std.proofs.lemmas.List.Elements.{All-head, All-tail}
use Rattle.plain_ballots.specs.declared.limits.TheConstants.{MOST_CANDIDATES}
use Rattle.preflib_text.specs.declared.pref_fault.PrefFault.{PrefFault}
use Rattle.preflib_text.specs.declared.pref_kind.PrefKind.{PrefKind}
use Rattle.preflib_text.specs.declared.pref_kind.PrefKind.TheVariants.{BadHeader, Repeated}
use Rattle.preflib_text.specs.Asked.{Asked}
use Rattle.preflib_text.specs.Ballots.{entries_of}
use Rattle.preflib_text.specs.Faults.{Line, in_line}
use Rattle.preflib_text.specs.Head.{candidates}
use Rattle.preflib_text.specs.Lines.{form_fault}
use Rattle.preflib_text.specs.Metadata.{Alternatives, Entry, Key, Name, Other, Title, Voters, alternatives_in, candidates_of}
use Rattle.preflib_text.specs.Metadata.{entry_fault, entry_of, is_few, is_same, unless, value_fault}
use Rattle.preflib_text.specs.Refusals.{metadata_fault, metadata_faults}
use Rattle.preflib_text.specs.Texts.{number}
use Rattle.preflib_text.proofs.KeyLemmas.{few_most}
use Rattle.preflib_text.proofs.Options.{IsNothing, or_none}

unmapped : {X Y : Type 0} (f : X → Y) (o : Option X) → option_map f o ≡ None → o ≡ None
unmapped f None is = refl
unmapped f (Some x) is = absurd (cc is)

not_unless : (kind : PrefKind) (b : Bool) → unless kind b ≡ None → b ≡ true
not_unless kind true is = refl
not_unless kind false is = absurd (cc is)

-- a number of candidates, if it is one, is few
abbrev IsFew : Option ℕ → Type 0
IsFew o = option_map_or is_few o true ≡ true

first_few :
    (o : Option ℕ) (others : List ℕ) → option_map_or is_few o false ≡ true
    → IsFew (slice_get (cons_option o others) 0)
first_few None others is = absurd (cc is)
first_few (Some n) others is = is

-- what an entry says of it, and those after it
one_few :
    (asked : Asked) (known : Option ℕ) (key : Key) (value : List ℕ) (others : List ℕ)
    → value_fault asked known key value ≡ None
    → IsFew (slice_get others 0)
    → IsFew (slice_get (cons_option (cond (is_same Alternatives key) (number value) None) others) 0)
one_few asked known Alternatives value others sound few =
    first_few (number value) others (not_unless BadHeader (option_map_or is_few (number value) false) sound)
one_few asked known Voters value others sound few = few
one_few asked known Title value others sound few = few
one_few asked known (Name n) value others sound few = few
one_few asked known Other value others sound few = few

no_value_fault : (asked : Asked) (before : List Entry) (entry : Entry) → entry_fault asked before entry ≡ None
    → value_fault asked (candidates_of before) entry.key entry.value ≡ None
no_value_fault asked before entry sound =
    (elim (list_any (λ (other : Entry). is_same other.key entry.key) before)
    as (λ t. cond t (Some Repeated) (value_fault asked (candidates_of before) entry.key entry.value) ≡ None
    → value_fault asked (candidates_of before) entry.key entry.value ≡ None) [
      | true ↦ λ is. absurd (cc is)
      | false ↦ λ is. is
    ]) sound

module _ (asked : Asked) (before : ℕ → List Line) where
  abbrev faults_from : ℕ → List Line → List (Option PrefFault)
  faults_from i lines = map (λ (at : ℕ × Line). metadata_fault asked (before at.0) at.1) (enumerate_from i lines)

  all_few : (i : ℕ) (lines : List Line) → All IsNothing (faults_from i lines) → IsFew (candidates_of (entries_of lines))
  all_few i [] all = refl
  all_few i (l ∷ ls) all =
      let fault = metadata_fault asked (before i) l in
      let entry = entry_of l.bytes in
      let own = or_none (form_fault l) _ (All-head IsNothing fault (faults_from (i + 1) ls) all) in
      let sound = unmapped (λ kind. in_line l kind entry.at) (entry_fault asked (entries_of (before i)) entry) own.1 in
      one_few asked (candidates_of (entries_of (before i))) entry.key entry.value
      (filter_map alternatives_in (entries_of ls))
      (no_value_fault asked (entries_of (before i)) entry sound)
      (all_few (i + 1) ls (All-tail IsNothing fault (faults_from (i + 1) ls) all))

most_of : (o : Option ℕ) → IsFew o → unwrap_or o 0 ≤ MOST_CANDIDATES
most_of None few = omega arith
most_of (Some n) few = few_most n few

pub few_candidates : (asked : Asked) (lines : List Line) → All IsNothing (metadata_faults asked lines)
    → candidates (entries_of lines) ≤ MOST_CANDIDATES
few_candidates asked lines sound =
    most_of (candidates_of (entries_of lines)) (all_few asked (λ k. take k lines) 0 lines sound)
