-- What clap notes of each part: a row for a row, in the order of the parts.
use Rattle.std.proofs.Common.{◌≡◌, Bool, true, false, cond, ◌||◌, List, [], ◌∷◌, ◌++◌, map, Option, Some}
use Rattle.std.proofs.Common.{None, refl, ap, ◌∙◌, true≢false, filter}
use Rattle.std.specs.Str.{bytes_eq}
use Rattle.std.specs.Prelude.{slice_get, option_and_then, find}
use Rattle.clap.specs.Walk.{Row, Text, at_row, has_row, first_of, more_values, with_values, without}
use Rattle.clap.specs.declared.builder.value_parser.Reading.TheVariants.{AsWritten}
use Rattle.clap.specs.declared.parser.matches.ValueSource.TheVariants.{CommandLine}
use Rattle.std.proofs.lemmas.List.{append-nil}
use Rattle.meek_words.specs.Numerals.{Word}
use Rattle.meek_words.specs.Parts.{Part, option_of, value_of, values_of, same_option}
use Rattle.meek_words.specs.ClapCommand.{id_of}
use Rattle.meek_words.specs.declared.option_name.OptionName.{OptionName}
use Rattle.meek_words.specs.declared.option_name.OptionName.TheVariants.{Lots, Shards, Workers}

-- one use of an option, or of the place of plain words
abbrev pub row_with : Option OptionName → Word → Row
row_with option value =
    record
    { id = id_of option; values = value ∷ []; count = None; source = Some CommandLine; reading = AsWritten }

abbrev pub row_for : Part → Row
row_for part = row_with (option_of part) (value_of part)

-- the rows after one use more
abbrev pub used_once : Option OptionName → Word → List Row → List Row
used_once option value rows = with_values (id_of option) AsWritten CommandLine (value ∷ []) (without (id_of option) rows)

or_false : (a b : Bool) → (a || b) ≡ false → (a ≡ false) × (b ≡ false)
or_false true b e = absurd (true≢false e)
or_false false b e = (refl, e)

at_row-none :
    (id : Text) (change : Row → List Row) (missing rows : List Row) → has_row id rows ≡ false
    → at_row id change missing rows ≡ rows ++ missing
at_row-none id change missing [] e = refl
at_row-none id change missing (r ∷ rs) e =
    let apart = or_false (bytes_eq r.id id) (has_row id rs) e in
    ap (λ b. cond b (change r ++ rs) (r ∷ at_row id change missing rs)) apart.0
    ∙ ap (λ rows. r ∷ rows) (at_row-none id change missing rs apart.1)

-- a first use is a row at the end
pub used_once-first :
    (option : Option OptionName) (value : Word) (rows : List Row) → has_row (id_of option) rows ≡ false
    → used_once option value rows ≡ rows ++ row_with option value ∷ []
used_once-first option value rows e =
    ap (λ list. with_values (id_of option) AsWritten CommandLine (value ∷ []) list)
    (at_row-none (id_of option) (λ r. []) [] rows e ∙ append-nil rows)
    ∙ at_row-none (id_of option) (more_values CommandLine (value ∷ [])) (row_with option value ∷ []) rows e

same_id : (one other : Option OptionName) → bytes_eq (id_of one) (id_of other) ≡ same_option other one
same_id (Some Lots) (Some Lots) = refl
same_id (Some Lots) (Some Shards) = refl
same_id (Some Lots) (Some Workers) = refl
same_id (Some Lots) None = refl
same_id (Some Shards) (Some Lots) = refl
same_id (Some Shards) (Some Shards) = refl
same_id (Some Shards) (Some Workers) = refl
same_id (Some Shards) None = refl
same_id (Some Workers) (Some Lots) = refl
same_id (Some Workers) (Some Shards) = refl
same_id (Some Workers) (Some Workers) = refl
same_id (Some Workers) None = refl
same_id None (Some Lots) = refl
same_id None (Some Shards) = refl
same_id None (Some Workers) = refl
same_id None None = refl

-- an option that no part has, has no row
pub no_row :
    (option : Option OptionName) (parts : List Part) → values_of option parts ≡ []
    → has_row (id_of option) (map row_for parts) ≡ false
no_row option [] e = refl
no_row option (part ∷ parts) e =
    ap (λ b. b || has_row (id_of option) (map row_for parts)) (same_id (option_of part) option)
    ∙ go (same_option option (option_of part)) e (no_row option parts)
  where
    go :
        (b : Bool)
        → map value_of (cond b (part ∷ filter (λ p. same_option option (option_of p)) parts)
        (filter (λ p. same_option option (option_of p)) parts)) ≡ []
        → (values_of option parts ≡ [] → has_row (id_of option) (map row_for parts) ≡ false)
        → (b || has_row (id_of option) (map row_for parts)) ≡ false
    go true e more = cc
    go false e more = more e

-- clap finds the first value of an option
pub first_found :
    (option : Option OptionName) (parts : List Part)
    → first_of (id_of option) (map row_for parts) ≡ slice_get (values_of option parts) 0
first_found option [] = refl
first_found option (part ∷ parts) =
    ap (λ b. option_and_then (λ (r : Row). slice_get r.values 0) (cond b (Some (row_for part))
    (find (λ (r : Row). bytes_eq r.id (id_of option)) (map row_for parts))))
    (same_id (option_of part) option)
    ∙ go (same_option option (option_of part)) (first_found option parts)
  where
    go : (b : Bool) → first_of (id_of option) (map row_for parts) ≡ slice_get (values_of option parts) 0
        → option_and_then (λ (r : Row). slice_get r.values 0) (cond b (Some (row_for part))
        (find (λ (r : Row). bytes_eq r.id (id_of option)) (map row_for parts)))
        ≡ slice_get (map value_of (cond b (part ∷ filter (λ p. same_option option (option_of p)) parts)
        (filter (λ p. same_option option (option_of p)) parts))) 0
    go true rest = refl
    go false rest = rest
