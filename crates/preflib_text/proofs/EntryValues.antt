-- Values that may be there, and what entries say first.
use Rattle.std.proofs.Common.{◌≡◌, ℕ, Bool, true, false, cond, eqb, ◌||◌, List, [], ◌∷◌, ◌++◌}
use Rattle.std.proofs.Common.{Option, Some, None, refl, ◌∙◌}
use Rattle.std.specs.Prelude.{is_some}
use Rattle.std.specs.List.{filter_map, find, slice_get, cons_option}
use Rattle.std.specs.Option.{option_map, option_map_or, option_or}
use Rattle.preflib_text.specs.declared.pref_kind.PrefKind.{PrefKind}
use Rattle.preflib_text.specs.declared.pref_kind.PrefKind.TheVariants.{NoSuchCandidate, Repeated}
use Rattle.preflib_text.specs.Known.{Named, nothing, found, is_said}
use Rattle.preflib_text.specs.Known.{seen_key}
use Rattle.preflib_text.specs.Metadata.{Key, Alternatives, Voters, Title, Name, Other, Entry, is_few, unless}
use Rattle.preflib_text.specs.Metadata.{is_candidate}
use Rattle.preflib_text.specs.Reading.{capped, kept_key}
use Rattle.preflib_text.proofs.KeyLemmas.{few_number}

-- ---- tests and values that may be there

pub or_false : (b : Bool) → (b || false) ≡ b
or_false true = refl
or_false false = refl

pub or_true : (b : Bool) → (b || true) ≡ true
or_true true = refl
or_true false = refl

pub or_nothing : {X : Type 0} (o : Option X) → option_or o None ≡ o
or_nothing None = refl
or_nothing (Some x) = refl

pub or_missing : {X : Type 0} (o other : Option X) → is_some o ≡ false → option_or o other ≡ other
or_missing None other none = refl
or_missing (Some x) other none = absurd (cc none)

pub some_capped : (o : Option ℕ) → is_some (option_map capped o) ≡ is_some o
some_capped None = refl
some_capped (Some n) = refl

pub some_few : (o : Option ℕ) → option_map_or is_few o false ≡ true → is_some o ≡ true
some_few None few = absurd (cc few)
some_few (Some n) few = refl

pub few_of_some : (o : Option ℕ) → option_map_or is_few o false ≡ true → option_map_or is_few (option_map capped o) true ≡ true
few_of_some None few = absurd (cc few)
few_of_some (Some n) few = few_number n ∙ few

pub holds : (kind : PrefKind) (b : Bool) → unless kind b ≡ None → b ≡ true
holds kind true is = refl
holds kind false is = absurd (cc is)

pub is_one : (b : Bool) (o : Option PrefKind) → cond b o (Some NoSuchCandidate) ≡ None → b ≡ true
is_one true o is = refl
is_one false o is = absurd (cc is)

pub no_fault : (b : Bool) (o : Option PrefKind) → b ≡ false → cond b o (Some NoSuchCandidate) ≡ None → ⊥
no_fault true o not is = cc not
no_fault false o not is = cc is

pub no_name : (c : Option ℕ) → is_candidate c None ≡ false
no_name None = refl
no_name (Some c) = refl

pub unrepeated : (b : Bool) (o : Option PrefKind) → cond b (Some Repeated) o ≡ None → (b ≡ false) × (o ≡ None)
unrepeated true o is = absurd (cc is)
unrepeated false o is = (refl, is)

pub unsaid_at_first : (key : Key) → is_said nothing (seen_key (kept_key key)) ≡ false
unsaid_at_first Alternatives = refl
unsaid_at_first Voters = refl
unsaid_at_first Title = refl
unsaid_at_first (Name None) = refl
unsaid_at_first (Name (Some n)) = refl
unsaid_at_first Other = refl

-- the first of what entries say, with one more entry
pub first_push : {Y : Type 0} (h : Entry → Option Y) (before : List Entry) (e : Entry)
    → slice_get (filter_map h (before ++ e ∷ [])) 0 ≡ option_or (slice_get (filter_map h before) 0) (h e)
first_push h [] e = elim (h e) as (λ o. slice_get (cons_option o []) 0 ≡ option_or None o) [
  | None ↦ refl
  | Some y ↦ refl
]
first_push h (b ∷ bs) e =
    elim (h b) as (λ o. slice_get (cons_option o (filter_map h (bs ++ e ∷ []))) 0
    ≡ option_or (slice_get (cons_option o (filter_map h bs)) 0) (h e)) [
      | None ↦ first_push h bs e
      | Some y ↦ refl
    ]

abbrev pub name_at : Option Named → Option (List ℕ)
name_at o = option_map (λ named. named.name) o

abbrev pub find_in : List Named → ℕ → Option Named
find_in names n = find (λ named. eqb named.number n) names

pub found_push : (names : List Named) (m n : ℕ) (name : List ℕ)
    → is_some (found (names ++ record { number = m; name = name } ∷ []) n) ≡ (is_some (found names n) || eqb m n)
found_push [] m n name =
    elim (eqb m n) as (λ b. is_some (name_at (cond b (Some (record { number = m; name = name })) None)) ≡ b) [
      | true ↦ refl
      | false ↦ refl
    ]
found_push (other ∷ names) m n name =
    elim (eqb other.number n) as (λ b.
    is_some (name_at (cond b (Some other) (find_in (names ++ record { number = m; name = name } ∷ []) n)))
    ≡ (is_some (name_at (cond b (Some other) (find_in names n))) || eqb m n)) [
      | true ↦ refl
      | false ↦ found_push names m n name
    ]
