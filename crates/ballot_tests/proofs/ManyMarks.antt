-- How many marks a shard has when a strike is marked, and how many entries where there is no shard.
use Rattle.std.proofs.Common.{◌≡◌, ℕ, zero, suc, ◌+◌, List, [], ◌∷◌, ◌++◌}
use Rattle.std.proofs.Common.{length, refl, sym, ap, ◌∙◌, arith, length-append}
use Rattle.std.specs.Prelude.{filter}
use Rattle.std.proofs.lemmas.List.Elements.{filter-append}
use Rattle.call_register.specs.declared.mark.Mark.{Mark}
use Rattle.call_register.specs.declared.mark.Mark.TheVariants.{Strike}
use Rattle.call_register.specs.Marks.{is_mark_of, marks_of}
use Rattle.call_register.specs.Weaving.{list_of}
use Rattle.batch_core.specs.Entries.{EntryList}

marks_more :
    (s : ℕ) (marks : List Mark) (m : Mark)
    → marks_of s (marks ++ m ∷ []) ≡ marks_of s marks + marks_of s (m ∷ [])
marks_more s marks m =
    ap length (filter-append (is_mark_of s) marks (m ∷ []))
    ∙ length-append (filter (is_mark_of s) marks) (filter (is_mark_of s) (m ∷ []))

pub one_strike_more :
    (caller candidate : ℕ) (marks longer : List Mark) → longer ≡ marks ++ Strike caller candidate ∷ []
    → (s : ℕ) → marks_of s longer ≡ marks_of s marks
one_strike_more caller candidate marks longer is s =
    let more : marks_of s longer ≡ marks_of s marks + 0 =
    ap (marks_of s) is ∙ marks_more s marks (Strike caller candidate) in
    omega arith

no_entries_of : (s : ℕ) → 0 ≡ length (list_of [] s)
no_entries_of zero = refl
no_entries_of (suc place) = refl

pub no_shard_has_entries : (lists : List EntryList) → lists ≡ [] → (s : ℕ) → 0 ≡ length (list_of lists s)
no_shard_has_entries lists none s = no_entries_of s ∙ ap (λ others. length (list_of others s)) (sym none)
