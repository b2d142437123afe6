-- The row of a candidate.
use Rattle.std.proofs.Common.{◌≡◌, ℕ, ◌+◌, ◌-◌, ◌<◌, ◌≤◌, Bool, true, false, List, [], ◌∷◌, ◌++◌, length}
use Rattle.std.proofs.Common.{get_or, arith, refl, ap, sym, subst, ◌∙◌, Some}
use Rattle.std.proofs.lemmas.Bool.{false≢true}
use Rattle.std.proofs.lemmas.List.{get_or_default, map_push}
use mir.Val.{bool_byte}
use Rattle.vote_spread.specs.declared.class.Class.{Class}
use Rattle.vote_spread.specs.declared.class.Class.TheVariants.{Passes, Shares, Keeps}
use Rattle.vote_spread.specs.declared.row.Row.{Row}
use Rattle.vote_spread.specs.Class.{keeps_some, leaves_some}
use Rattle.vote_spread.specs.Stem.{Stem}
use Rattle.vote_spread.specs.Rows.{row_stem, seen, Continues, Leaves}
use Rattle.vote_spread.proofs.TotalLemmas.{row_continues, row_leaves, passes_continues, passes_leaves}

-- a row after others
pushed :
    (old new : List Row) (row : Row) → new ≡ old ++ row ∷ []
    → seen new ≡ seen old ++ row_stem row.depth row.candidate row.ballots ∷ []
pushed old new row is = ap seen is ∙ map_push (λ (r : Row). row_stem r.depth r.candidate r.ballots) old row

-- The row of a candidate of class x is after the others where it keeps anything.
pub record IsPut (x : Class) (classes : List Class) (at candidate ballots : ℕ) (old new : List Row) : Type 0 where
  pub class : (d : Class) → get_or classes (candidate - 1) d ≡ x
  pub depth : at < 250
  pub number : 1 ≤ candidate
  pub known : candidate ≤ length classes
  pub stands : keeps_some x ≡ true → new ≡ old ++ record { ballots = ballots; candidate = candidate; depth = at + 1 } ∷ []
  pub left_out : keeps_some x ≡ false → new ≡ old

pub is_put :
    (classes : List Class) (at candidate ballots : ℕ) (old new : List Row) (e : Class) (kept : Bool)
    → at < 250 → 1 ≤ candidate → candidate ≤ length classes
    → kept ≡ keeps_some (get_or classes (candidate - 1) e)
    → (kept ≡ true → new ≡ old ++ record { ballots = ballots; candidate = candidate; depth = at + 1 } ∷ [])
    → (kept ≡ false → new ≡ old)
    → IsPut (get_or classes (candidate - 1) e) classes at candidate ballots old new
is_put classes at candidate ballots old new e kept depth number known is stands left_out = record {
  class = λ d. get_or_default classes (candidate - 1) d e (omega (arith, number, known));
  depth = depth;
  number = number;
  known = known;
  stands = λ some. stands (is ∙ some);
  left_out = λ none. left_out (is ∙ none);
}

row_put :
    (classes : List Class) (at candidate ballots : ℕ) (old new : List Row) → at < 250 → 1 ≤ candidate
    → candidate ≤ length classes
    → new ≡ old ++ record { ballots = ballots; candidate = candidate; depth = at + 1 } ∷ []
    → Continues classes ballots at (candidate ∷ []) (seen old) (seen new)
row_put classes at candidate ballots old new depth number known is =
    let row : Row = record { ballots = ballots; candidate = candidate; depth = at + 1 } in
    subst (λ (l : List Stem). Continues classes ballots at (candidate ∷ []) (seen old) l) (sym (pushed old new row is))
    (row_continues classes at candidate ballots (seen old) depth number known)

pub put_continues :
    (x : Class) (classes : List Class) (at candidate ballots : ℕ) (old new : List Row)
    → IsPut x classes at candidate ballots old new
    → Continues classes ballots at (candidate ∷ []) (seen old) (seen new)
put_continues Passes classes at candidate ballots old new put =
    subst (λ (l : List Row). Continues classes ballots at (candidate ∷ []) (seen old) (seen l)) (sym (put.left_out refl))
    (passes_continues classes at candidate ballots Passes (seen old) put.number put.known (put.class Passes))
put_continues Shares classes at candidate ballots old new put =
    row_put classes at candidate ballots old new put.depth put.number put.known (put.stands refl)
put_continues Keeps classes at candidate ballots old new put =
    row_put classes at candidate ballots old new put.depth put.number put.known (put.stands refl)

-- and what it leaves is there
pub put_leaves :
    (x : Class) (classes : List Class) (at candidate ballots : ℕ) (old new : List Row)
    → IsPut x classes at candidate ballots old new → leaves_some x ≡ true
    → Leaves classes at candidate (seen old) (seen new) (Some (at + bool_byte (keeps_some x)))
put_leaves Passes classes at candidate ballots old new put some =
    let same : at ≡ at + 0 = omega arith in
    subst (λ (b : ℕ). Leaves classes at candidate (seen old) (seen new) (Some b)) same
    (subst (λ (l : List Row). Leaves classes at candidate (seen old) (seen l) (Some at)) (sym (put.left_out refl))
    (passes_leaves classes at candidate Passes (seen old) put.number put.known (put.class Passes)))
put_leaves Shares classes at candidate ballots old new put some =
    let row : Row = record { ballots = ballots; candidate = candidate; depth = at + 1 } in
    subst (λ (l : List Stem). Leaves classes at candidate (seen old) l (Some (at + 1)))
    (sym (pushed old new row (put.stands refl)))
    (omega arith, omega arith, λ s keeps are. row_leaves s keeps at candidate ballots (seen old) put.depth)
put_leaves Keeps classes at candidate ballots old new put some = absurd (false≢true some)
