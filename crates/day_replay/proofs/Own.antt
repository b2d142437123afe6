-- The calls of one caller in a history.
use Rattle.std.proofs.Common.{◌≡◌, ℕ, zero, suc, ◌==◌, Bool, true, false, cond, List, [], ◌∷◌, ◌++◌}
use Rattle.std.proofs.Common.{sym, ap, ◌∙◌}
use Rattle.std.specs.Prelude.{slice_get, Some, Option, unwrap_or}
use Rattle.std.proofs.lemmas.Bool.{eq-eqb}
use Rattle.std.proofs.lemmas.List.{map-append}
use Rattle.std.proofs.lemmas.List.Elements.{filter-append}
use Rattle.batch_core.specs.declared.entry.Entry.{Entry}
use Rattle.batch_core.specs.Histories.{own_calls}
use Rattle.day_lines.specs.DayHistory.{calls_of}

pub own_append : (t : ℕ) (xs ys : List Entry) → own_calls t (xs ++ ys) ≡ own_calls t xs ++ own_calls t ys
own_append t xs ys = filter-append (λ (e : Entry). e.caller == t) xs ys

pub own_first : (t : ℕ) (e : Entry) (ys : List Entry) → e.caller ≡ t → own_calls t (e ∷ ys) ≡ e ∷ own_calls t ys
own_first t e ys is = ap (λ (b : Bool). cond b (e ∷ own_calls t ys) (own_calls t ys)) (eq-eqb e.caller t is)

-- a caller's calls, around one of them
pub calls_around :
    (t : ℕ) (xs : List Entry) (e : Entry) (ys : List Entry) → e.caller ≡ t
    → calls_of (own_calls t (xs ++ e ∷ ys)) ≡ calls_of (own_calls t xs) ++ e.call ∷ calls_of (own_calls t ys)
calls_around t xs e ys is =
    ap calls_of (own_append t xs (e ∷ ys) ∙ ap (λ (l : List Entry). own_calls t xs ++ l) (own_first t e ys is))
    ∙ map-append (λ (x : Entry). x.call) (own_calls t xs) (e ∷ own_calls t ys)

-- who has no call has made none
pub none_by : (t : ℕ) (xs : List Entry) (n : ℕ) (e : Entry) → own_calls t xs ≡ [] → slice_get xs n ≡ Some e → e.caller ≡ t → ⊥
none_by t [] n e none at is = cc
none_by t (x ∷ xs) zero e none at is =
    let same : x ≡ e = ap (λ (o : Option Entry). unwrap_or o e) at in
    let first = own_first t x xs (ap (λ (y : Entry). y.caller) same ∙ is) in
    let wrong : x ∷ own_calls t xs ≡ [] = sym first ∙ none in
    cc
none_by t (x ∷ xs) (suc n) e none at is = none_by t xs n e (none_behind (x.caller == t) none) at is
  where
    none_behind : (b : Bool) → cond b (x ∷ own_calls t xs) (own_calls t xs) ≡ [] → own_calls t xs ≡ []
    none_behind true wrong = absurd (cc)
    none_behind false right = right
