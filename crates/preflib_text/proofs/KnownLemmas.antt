-- What is known of entries, and of one more.
use Rattle.std.proofs.Common.{◌≡◌, ℕ, true, false, cond, eqb, ◌||◌, List, [], ◌∷◌, ◌++◌}
use Rattle.std.proofs.Common.{Option, Some, None, refl, ap, sym, ◌∙◌}
use Rattle.std.specs.Prelude.{is_some}
use Rattle.std.specs.List.{filter_map, list_any, slice_get, cons_option}
use Rattle.std.specs.Option.{option_map, option_map_or, option_or}
use Rattle.std.proofs.lemmas.List.{append-nil}
use Rattle.std.proofs.lemmas.List.Elements.{filter_map-append}
use Rattle.std.proofs.lemmas.List.Folds.{list_any-append}
use Rattle.preflib_text.specs.declared.pref_kind.PrefKind.TheVariants.{BadHeader, BadNumber, NoSuchCandidate, Repeated}
use Rattle.preflib_text.specs.Asked.{Asked}
use Rattle.preflib_text.specs.Head.{title_in, voters, voters_in}
use Rattle.preflib_text.specs.Known.{Known, IsKnown, nothing, is_said, with_said}
use Rattle.preflib_text.specs.Known.{seen_key, key_seen, fault_behind, named_in}
use Rattle.preflib_text.specs.Metadata.{Key, Alternatives, Voters, Title, Name, Other, Entry, is_same, is_few}
use Rattle.preflib_text.specs.Metadata.{candidates_of, alternatives_in, is_candidate, value_fault, name_fault, entry_fault}
use Rattle.preflib_text.specs.Reading.{capped, kept_key}
use Rattle.preflib_text.specs.Texts.{number}
use Rattle.preflib_text.proofs.KeyLemmas.{few_kept, candidate_capped, candidate_kept}
use Rattle.preflib_text.proofs.KeyLemmas.{candidate_small, same_capped}
use Rattle.preflib_text.proofs.EntryValues.{or_false, or_true, or_nothing, or_missing, some_capped}
use Rattle.preflib_text.proofs.EntryValues.{some_few, few_of_some, holds, is_one, no_fault, no_name}
use Rattle.preflib_text.proofs.EntryValues.{unrepeated, unsaid_at_first, first_push}
use Rattle.preflib_text.proofs.EntryValues.{found_push}

-- ---- one more entry

module _ (asked : Asked) (before : List Entry) (known : Known) (is : IsKnown before known) where
  abbrev with : Key → List ℕ → (at : ℕ) → List Entry
  with key value at = before ++ record { key = key; value = value; at = at } ∷ []

  abbrev next : Key → List ℕ → Known
  next key value = with_said known (seen_key (kept_key key)) value

  -- what is said already is known
  abbrev Unsaid : Key → Type 0
  Unsaid key = is_said known (seen_key (kept_key key)) ≡ false

  abbrev Sound : Key → List ℕ → Type 0
  Sound key value = value_fault asked known.candidates (seen_key (kept_key key)) value ≡ None

  same_said : (key other : Key) (value : List ℕ) (at : ℕ) → is_same key other ≡ false
      → is_said (next key value) (seen_key (kept_key other)) ≡ is_said known (seen_key (kept_key other))
      → is_said (next key value) (seen_key (kept_key other))
      ≡ list_any (λ e. is_same e.key other) (with key value at)
  same_said key other value at differ same =
      same ∙ is.said other ∙ sym (or_false (list_any (λ e. is_same e.key other) before))
      ∙ ap (λ b. list_any (λ e. is_same e.key other) before || (b || false)) (sym differ)
      ∙ sym (list_any-append (λ e. is_same e.key other) before (record { key = key; value = value; at = at } ∷ []))

  now_said : (key other : Key) (value : List ℕ) (at : ℕ) → is_same key other ≡ true
      → is_said (next key value) (seen_key (kept_key other)) ≡ true
      → is_said (next key value) (seen_key (kept_key other))
      ≡ list_any (λ e. is_same e.key other) (with key value at)
  now_said key other value at same said =
      said ∙ sym (or_true (list_any (λ e. is_same e.key other) before))
      ∙ ap (λ b. list_any (λ e. is_same e.key other) before || (b || false)) (sym same)
      ∙ sym (list_any-append (λ e. is_same e.key other) before (record { key = key; value = value; at = at } ∷ []))

  -- an entry that says nothing of these leaves what is first of them
  first_same : {Y : Type 0} (h : Entry → Option Y) (e : Entry) → h e ≡ None
      → slice_get (filter_map h before) 0 ≡ slice_get (filter_map h (before ++ e ∷ [])) 0
  first_same h e none =
      sym (first_push h before e ∙ ap (option_or (slice_get (filter_map h before) 0)) none
      ∙ or_nothing (slice_get (filter_map h before) 0))

  all_same : {Y : Type 0} (h : Entry → Option Y) (e : Entry) → h e ≡ None
      → filter_map h before ≡ filter_map h (before ++ e ∷ [])
  all_same h e none =
      sym (filter_map-append h before (e ∷ []) ∙ ap (λ o. filter_map h before ++ cons_option o []) none
      ∙ append-nil (filter_map h before))

  module _ (value : List ℕ) (at : ℕ) where
    abbrev entry : Key → Entry
    entry key = record { key = key; value = value; at = at }

    module _ (unsaid : Unsaid Alternatives) (sound : Sound Alternatives value) where
      few_said : option_map_or is_few (number value) false ≡ true
      few_said = holds BadHeader (option_map_or is_few (number value) false) sound

      said_alternatives : (other : Key) → is_said (next Alternatives value) (seen_key (kept_key other))
          ≡ list_any (λ e. is_same e.key other) (with Alternatives value at)
      said_alternatives Alternatives =
          now_said Alternatives Alternatives value at refl (some_capped (number value) ∙ some_few (number value) few_said)
      said_alternatives Voters = same_said Alternatives Voters value at refl refl
      said_alternatives Title = same_said Alternatives Title value at refl refl
      said_alternatives (Name None) = same_said Alternatives (Name None) value at refl refl
      said_alternatives (Name (Some n)) = same_said Alternatives (Name (Some n)) value at refl refl
      said_alternatives Other = same_said Alternatives Other value at refl refl

      with_alternatives : IsKnown (with Alternatives value at) (next Alternatives value)
      with_alternatives = record {
        candidates_are = few_kept (number value) few_said
            ∙ sym (first_push alternatives_in before (entry Alternatives)
            ∙ or_missing (candidates_of before) (number value) (ap is_some (sym is.candidates_are) ∙ unsaid));
        few = few_of_some (number value) few_said;
        voters_are = is.voters_are ∙ ap (option_map capped) (first_same voters_in (entry Alternatives) refl);
        title_is = is.title_is ∙ first_same title_in (entry Alternatives) refl;
        names_are = is.names_are ∙ all_same named_in (entry Alternatives) refl;
        said = said_alternatives;
      }

    module _ (unsaid : Unsaid Voters) (sound : Sound Voters value) where
      said_voters : (other : Key) → is_said (next Voters value) (seen_key (kept_key other))
          ≡ list_any (λ e. is_same e.key other) (with Voters value at)
      said_voters Alternatives = same_said Voters Alternatives value at refl refl
      said_voters Voters =
          now_said Voters Voters value at refl (some_capped (number value) ∙ holds BadNumber (is_some (number value)) sound)
      said_voters Title = same_said Voters Title value at refl refl
      said_voters (Name None) = same_said Voters (Name None) value at refl refl
      said_voters (Name (Some n)) = same_said Voters (Name (Some n)) value at refl refl
      said_voters Other = same_said Voters Other value at refl refl

      with_voters : IsKnown (with Voters value at) (next Voters value)
      with_voters = record {
        candidates_are = is.candidates_are ∙ first_same alternatives_in (entry Voters) refl;
        few = is.few;
        voters_are = ap (option_map capped) (sym (first_push voters_in before (entry Voters)
            ∙ or_missing (voters before) (number value)
            (sym (some_capped (voters before)) ∙ ap is_some (sym is.voters_are) ∙ unsaid)));
        title_is = is.title_is ∙ first_same title_in (entry Voters) refl;
        names_are = is.names_are ∙ all_same named_in (entry Voters) refl;
        said = said_voters;
      }

    module _ (unsaid : Unsaid Title) where
      said_title : (other : Key) → is_said (next Title value) (seen_key (kept_key other))
          ≡ list_any (λ e. is_same e.key other) (with Title value at)
      said_title Alternatives = same_said Title Alternatives value at refl refl
      said_title Voters = same_said Title Voters value at refl refl
      said_title Title = now_said Title Title value at refl refl
      said_title (Name None) = same_said Title (Name None) value at refl refl
      said_title (Name (Some n)) = same_said Title (Name (Some n)) value at refl refl
      said_title Other = same_said Title Other value at refl refl

      with_title : IsKnown (with Title value at) (next Title value)
      with_title = record {
        candidates_are = is.candidates_are ∙ first_same alternatives_in (entry Title) refl;
        few = is.few;
        voters_are = is.voters_are ∙ ap (option_map capped) (first_same voters_in (entry Title) refl);
        title_is = sym (first_push title_in before (entry Title)
            ∙ or_missing (slice_get (filter_map title_in before) 0) (Some value) (ap is_some (sym is.title_is) ∙ unsaid));
        names_are = is.names_are ∙ all_same named_in (entry Title) refl;
        said = said_title;
      }

    module _ (m : ℕ) (sound : Sound (Name (Some m)) value) where
      its_candidate : is_candidate known.candidates (Some m) ≡ true
      its_candidate =
          sym (candidate_capped known.candidates m is.few)
          ∙ is_one (is_candidate known.candidates (Some (capped m))) (name_fault value) sound

      kept : capped m ≡ m
      kept = candidate_kept known.candidates m is.few its_candidate

      said_name : (other : Key) → is_said (next (Name (Some m)) value) (seen_key (kept_key other))
          ≡ list_any (λ e. is_same e.key other) (with (Name (Some m)) value at)
      said_name Alternatives = same_said (Name (Some m)) Alternatives value at refl refl
      said_name Voters = same_said (Name (Some m)) Voters value at refl refl
      said_name Title = same_said (Name (Some m)) Title value at refl refl
      said_name (Name None) = same_said (Name (Some m)) (Name None) value at refl refl
      said_name (Name (Some n)) =
          let small = candidate_small known.candidates m is.few its_candidate in
          let p = λ (e : Entry). is_same e.key (Name (Some n)) in
          found_push known.names (capped m) (capped n) value
          ∙ ap (λ b. b || eqb (capped m) (capped n)) (is.said (Name (Some n)))
          ∙ ap (λ b. list_any p before || b) (ap (λ k. eqb k (capped n)) kept ∙ same_capped m n small
          ∙ sym (or_false (eqb m n)))
          ∙ sym (list_any-append p before (entry (Name (Some m)) ∷ []))
      said_name Other = same_said (Name (Some m)) Other value at refl refl

      with_name : IsKnown (with (Name (Some m)) value at) (next (Name (Some m)) value)
      with_name = record {
        candidates_are = is.candidates_are ∙ first_same alternatives_in (entry (Name (Some m))) refl;
        few = is.few;
        voters_are = is.voters_are ∙ ap (option_map capped) (first_same voters_in (entry (Name (Some m))) refl);
        title_is = is.title_is ∙ first_same title_in (entry (Name (Some m))) refl;
        names_are = ap (λ names. names ++ record { number = capped m; name = value } ∷ []) is.names_are
            ∙ ap (λ k. filter_map named_in before ++ record { number = k; name = value } ∷ []) kept
            ∙ sym (filter_map-append named_in before (entry (Name (Some m)) ∷ []));
        said = said_name;
      }

    said_other : (other : Key) → is_said known (seen_key (kept_key other))
        ≡ list_any (λ e. is_same e.key other) (with Other value at)
    said_other Alternatives = same_said Other Alternatives value at refl refl
    said_other Voters = same_said Other Voters value at refl refl
    said_other Title = same_said Other Title value at refl refl
    said_other (Name None) = same_said Other (Name None) value at refl refl
    said_other (Name (Some n)) = same_said Other (Name (Some n)) value at refl refl
    said_other Other = same_said Other Other value at refl refl

    with_other : IsKnown (with Other value at) known
    with_other = record {
      candidates_are = is.candidates_are ∙ first_same alternatives_in (entry Other) refl;
      few = is.few;
      voters_are = is.voters_are ∙ ap (option_map capped) (first_same voters_in (entry Other) refl);
      title_is = is.title_is ∙ first_same title_in (entry Other) refl;
      names_are = is.names_are ∙ all_same named_in (entry Other) refl;
      said = said_other;
    }

    with_key : (key : Key) → Unsaid key → Sound key value → IsKnown (with key value at) (next key value)
    with_key Alternatives unsaid sound = with_alternatives unsaid sound
    with_key Voters unsaid sound = with_voters unsaid sound
    with_key Title unsaid sound = with_title unsaid
    with_key (Name None) unsaid sound =
        absurd (no_fault (is_candidate known.candidates None) (name_fault value) (no_name known.candidates) sound)
    with_key (Name (Some m)) unsaid sound = with_name m sound
    with_key Other unsaid sound = with_other

  same_value : (key : Key) (value : List ℕ)
      → value_fault asked known.candidates (seen_key (kept_key key)) value ≡ value_fault asked known.candidates key value
  same_value Alternatives value = refl
  same_value Voters value = refl
  same_value Title value = refl
  same_value (Name None) value = refl
  same_value (Name (Some n)) value =
      ap (λ b. cond b (name_fault value) (Some NoSuchCandidate)) (candidate_capped known.candidates n is.few)
  same_value Other value = refl

  -- what is known refuses what the entries do
  pub same_entry_fault : (e : Entry) → fault_behind asked known (key_seen e) e.value ≡ entry_fault asked before e
  same_entry_fault e =
      ap (λ b. cond b (Some Repeated) (value_fault asked known.candidates (key_seen e) e.value)) (is.said e.key)
      ∙ ap (cond (list_any (λ other. is_same other.key e.key) before) (Some Repeated)) (same_value e.key e.value
      ∙ ap (λ c. value_fault asked c e.key e.value) is.candidates_are)

  -- one more entry is known
  pub known_push : (e : Entry) → fault_behind asked known (key_seen e) e.value ≡ None
      → IsKnown (before ++ e ∷ []) (with_said known (key_seen e) e.value)
  known_push e none =
      let parts = unrepeated (is_said known (key_seen e)) (value_fault asked known.candidates (key_seen e) e.value) none in
      with_key e.value e.at e.key parts.0 parts.1

pub known_nothing : IsKnown [] nothing
known_nothing = record {
  candidates_are = refl;
  few = refl;
  voters_are = refl;
  title_is = refl;
  names_are = refl;
  said = unsaid_at_first;
}
