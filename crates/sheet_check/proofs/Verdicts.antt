-- Each text has one verdict.
use Rattle.std.proofs.Common.{◌≡◌, ℕ, List, refl, sym, ◌∙◌, ap, subst}
use Rattle.sheet_text.specs.Laws.{EachElectionHasOneSheet}
use Rattle.sheet_check.specs.declared.verdict.Verdict.{Verdict}
use Rattle.sheet_check.specs.declared.verdict.Verdict.TheVariants.{True, False, Malformed}
use Rattle.sheet_check.specs.Difference.{IsFirstDifference}
use Rattle.sheet_check.specs.Judged.{HasSomeForm, IsMalformed, IsVerdict}
use Rattle.sheet_check.specs.Laws.{EachTextHasOneVerdict}
use Rattle.sheet_check.specs.Terms.{rule_of, places_of, IsSheetBy}
use Rattle.sheet_check.proofs.FirstDifferences.{difference_once}

-- a text does not differ from itself
not_itself : (text : List ℕ) (n : ℕ) → IsFirstDifference text text n → ⊥
not_itself text n is = is.differs refl

not_both : (bytes : List ℕ) → IsMalformed bytes → HasSomeForm bytes → ⊥
not_both bytes none (places, from, to, form) = none places from to form

pub one_verdict : EachElectionHasOneSheet → EachTextHasOneVerdict
one_verdict one terms ballots roll bytes verdict other election is also = by verdict other is also
  where
    -- the sheets at the places of the terms are one
    same :
        (text another : List ℕ) → IsSheetBy terms (places_of terms.places) ballots roll text
        → IsSheetBy terms (places_of terms.places) ballots roll another → text ≡ another
    same text another sheet again =
        let only = (one (rule_of terms.rule) (places_of terms.places) terms.omega ballots roll terms.lots election).2 in
        only text sheet ∙ sym (only another again)

    by :
        (v w : Verdict) → IsVerdict terms ballots roll bytes v → IsVerdict terms ballots roll bytes w → v ≡ w
    by Malformed Malformed p q = refl
    by Malformed True p (has, q) = absurd (not_both bytes p has)
    by Malformed (False n) p (has, q) = absurd (not_both bytes p has)
    by True Malformed (has, p) q = absurd (not_both bytes q has)
    by True True p q = refl
    by True (False n) (has, p) (also_has, (text, q, d)) =
        absurd (not_itself bytes n (subst (λ (t : List ℕ). IsFirstDifference bytes t n) (same text bytes q p) d))
    by (False n) Malformed (has, p) q = absurd (not_both bytes q has)
    by (False n) True (has, (text, p, d)) (also_has, q) =
        absurd (not_itself bytes n (subst (λ (t : List ℕ). IsFirstDifference bytes t n) (same text bytes p q) d))
    by (False n) (False m) (has, (text, p, d)) (also_has, (another, q, e)) =
        ap (λ (k : ℕ). False k)
        (difference_once bytes another n m
        (subst (λ (t : List ℕ). IsFirstDifference bytes t n) (same text another p q) d) e)
