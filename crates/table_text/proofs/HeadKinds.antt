-- What a head tells is a comma, a semicolon or a tab.
use Rattle.std.proofs.Common.{◌≡◌, ◌≢◌, ℕ, ◌+◌, List, [], ◌∷◌, Bool, true, false, not, cond, ◌==◌, ◌||◌}
use Rattle.std.proofs.Common.{Some, None, Ok, Err, refl, sym, ◌∙◌, ap, subst}
use Rattle.std.proofs.lemmas.Bool.{false≢true}
use Rattle.std.specs.Prelude.{Option, Result, IfSome}
use Rattle.table_text.specs.declared.text_kind.TextKind.TheVariants.{UnclearSeparator}
use Rattle.table_text.specs.declared.text_fault.TextFault.{TextFault}
use Rattle.table_text.specs.declared.head_byte.HeadByte.{HeadByte}
use Rattle.table_text.specs.declared.head_byte.HeadByte.TheVariants.{Quote, Ends, MayPart, Other}
use Rattle.table_text.specs.Reading.{next_count}
use Rattle.table_text.specs.Separator.{may_part, head_byte, Seen, seen, parting, kind_or_comma, is_unlike}
use Rattle.table_text.specs.Separator.{one_kind, separator_of}
use Rattle.table_text.specs.Laws.{IsSeparator}

parting_tests :
    (q i e p : Bool) → MayPart ≡ cond q Quote (cond i Other (cond e Ends (cond p MayPart Other))) → p ≡ true
parting_tests true i e p is = cc
parting_tests false true e p is = cc
parting_tests false false true p is = cc
parting_tests false false false true is = refl
parting_tests false false false false is = cc

-- where a kind was seen it may part fields
abbrev IsKind : Option ℕ → Type 0
IsKind kind = IfSome kind (λ k. may_part k ≡ true)

kind_parts :
    (kind : Option ℕ) (s : ℕ) → IsKind kind
    → ◌≡◌ {A = Result ℕ TextFault} (Ok (kind_or_comma kind)) (Ok s) → may_part s ≡ true
kind_parts None s is told = let same : 44 ≡ s = cc in subst (λ (n : ℕ). may_part n ≡ true) same refl
kind_parts (Some k) s is told = let same : k ≡ s = cc in subst (λ (n : ℕ). may_part n ≡ true) same is

module _ (s : ℕ) where
  by_unlike :
      (kind : Option ℕ) (before at b : ℕ) (bytes : List Seen) (unlike : Bool) → may_part b ≡ true
      → cond unlike (Err (record { kind = UnclearSeparator; at = at; row = 1; column = next_count before }))
      (one_kind (Some b) (next_count before) bytes) ≡ Ok s
      → (one_kind (Some b) (next_count before) bytes ≡ Ok s → may_part s ≡ true) → may_part s ≡ true
  by_unlike kind before at b bytes true part told behind = cc
  by_unlike kind before at b bytes false part told behind = behind told

  by_byte :
      (kind : Option ℕ) (before at b : ℕ) (is_quoted : Bool) (next : Bool → List Seen) (h : HeadByte)
      → h ≡ head_byte is_quoted b → IsKind kind
      → ((k : Option ℕ) (n : ℕ) (q : Bool) → IsKind k → one_kind k n (next q) ≡ Ok s → may_part s ≡ true)
      → one_kind kind before (seen h is_quoted (record { at = at; byte = b }) next) ≡ Ok s → may_part s ≡ true
  by_byte kind before at b is_quoted next Quote is known behind told =
      behind kind before (not is_quoted) known told
  by_byte kind before at b is_quoted next Ends is known behind told = kind_parts kind s known told
  by_byte kind before at b is_quoted next MayPart is known behind told =
      let part : may_part b ≡ true =
      parting_tests (b == 34) is_quoted (b == 10 || b == 13) (may_part b) is in
      by_unlike kind before at b (next is_quoted) (is_unlike kind b) part told
      (behind (Some b) (next_count before) is_quoted part)
  by_byte kind before at b is_quoted next Other is known behind told = behind kind before is_quoted known told

  told_parts :
      (bytes : List ℕ) (kind : Option ℕ) (before at : ℕ) (is_quoted : Bool) → IsKind kind
      → one_kind kind before (parting is_quoted at bytes) ≡ Ok s → may_part s ≡ true
  unfolding parting
  told_parts [] kind before at is_quoted known told = kind_parts kind s known told
  told_parts (b ∷ bytes) kind before at is_quoted known told =
      by_byte kind before at b is_quoted (λ q. parting q (at + 1) bytes) (head_byte is_quoted b) refl known
      (λ k n q. told_parts bytes k n (at + 1) q) told

not_part : (s n : ℕ) → may_part n ≡ false → may_part s ≡ true → s ≢ n
not_part s n other part same = false≢true (sym other ∙ ap may_part (sym same) ∙ part)

pub separator_is : (bytes : List ℕ) (s : ℕ) → separator_of bytes ≡ Ok s → IsSeparator s
separator_is bytes s told =
    let part : may_part s ≡ true = told_parts s bytes None 0 0 false tt told in
    record {
      no_quote = not_part s 34 refl part;
      no_feed = not_part s 10 refl part;
      no_return = not_part s 13 refl part;
    }
