-- What begins a list of entries, and which of them belong to whom.
use Rattle.std.proofs.Common.{◌≡◌, ◌≢◌, ℕ, ◌<◌, ◌≤◌, true, false, ltb, cond, List, [], ◌∷◌, ◌++◌, length}
use Rattle.std.proofs.Common.{refl, sym, ap, ◌∙◌, subst, ⊎_elim, arith, append_assoc, append-nil, eq-eqb}
use Rattle.std.proofs.Common.{ne_eqb, Option, Some, None}
use Rattle.std.proofs.lemmas.List.{append_cancel_left}
use Rattle.std.proofs.lemmas.List.Elements.{filter-append}
use Rattle.std.proofs.lemmas.Bool.Decides.{nat_tests}
use Rattle.std.proofs.lemmas.Bool.{cases_Bool}
use Rattle.turn_lock.specs.Entries.{is_by, has_one, Begins, longer, owned_by, owned, MayGive}

module _ {E : Type 0} where
  pub begins_self : (xs ys : List E) → xs ≡ ys → Begins xs ys
  begins_self xs ys e = ([], sym e ∙ sym (append-nil xs))

  pub begins_more : (xs ys zs : List E) → Begins xs ys → Begins xs (ys ++ zs)
  begins_more xs ys zs b = (b.0 ++ zs, ap (λ l. l ++ zs) b.1 ∙ append_assoc xs b.0 zs)

  shorter : (xs ys r s : List E) → xs ++ r ≡ ys ++ s → length xs ≤ length ys → Begins xs ys
  shorter [] ys r s e le = (ys, refl)
  shorter (x ∷ xs) [] r s e le = absurd (omega arith)
  shorter (x ∷ xs) (y ∷ ys) r s e le =
      let here : x ≡ y = cc in
      let more : xs ++ r ≡ ys ++ s = cc in
      let b = shorter xs ys r s more (omega arith) in
      (b.0, λ i. sym here i ∷ b.1 i)

  -- of two beginnings of one list the longer begins with both, and begins the list
  pub longer_begins : (xs ys log : List E) → Begins xs log → Begins ys log
      → Begins (longer xs ys) log × Begins xs (longer xs ys) × Begins ys (longer xs ys)
  longer_begins xs ys log b c =
      let P : List E → Type 0 = λ l. Begins l log × Begins xs l × Begins ys l in
      let same : xs ++ b.0 ≡ ys ++ c.0 = sym b.1 ∙ c.1 in
      ⊎_elim
      (λ (t : (ltb (length xs) (length ys) ≡ true)).
      let less : length xs < length ys = grind (arith, nat_tests) in
      subst (λ b. P (cond b ys xs)) (sym t) (c, shorter xs ys b.0 c.0 same (omega arith), begins_self ys ys refl))
      (λ (t : (ltb (length xs) (length ys) ≡ false)).
      let more : length ys ≤ length xs = grind (arith, nat_tests) in
      subst (λ b. P (cond b ys xs)) (sym t) (b, begins_self xs xs refl, shorter ys xs c.0 b.0 (sym same) more))
      (cases_Bool (ltb (length xs) (length ys)))

  pub nothing_left : (xs ys : List E) → xs ++ ys ≡ [] → xs ≡ []
  nothing_left [] ys e = refl
  nothing_left (x ∷ xs) ys e = absurd (cc)

  module _ (owner : E → Option ℕ) where
    by_or_not : (o : Option ℕ) (c : ℕ) → ((q : ℕ) → o ≡ Some q → q ≡ c) → is_by c o ≡ has_one o
    by_or_not None c may = refl
    by_or_not (Some q) c may = eq-eqb c q (sym (may q refl))

    by_no_other : (o : Option ℕ) (c p : ℕ) → ((q : ℕ) → o ≡ Some q → q ≡ c) → p ≢ c → is_by p o ≡ false
    by_no_other None c p may ne = refl
    by_no_other (Some q) c p may ne = ne_eqb p q (λ e. ne (e ∙ may q refl))

    pub one_owned : (c : ℕ) (e : E) → MayGive owner c e → owned_by owner c (e ∷ []) ≡ owned owner (e ∷ [])
    one_owned c e may = ap (λ b. cond b (e ∷ []) []) (by_or_not (owner e) c may)

    pub one_other : (c p : ℕ) (e : E) → MayGive owner c e → p ≢ c → owned_by owner p (e ∷ []) ≡ []
    one_other c p e may ne = ap (λ b. cond b (e ∷ []) []) (by_no_other (owner e) c p may ne)

    -- between two lists with the same entries of one owner each list has them
    pub wider :
        (c : ℕ) (xs ys log mine : List E) → Begins xs ys → Begins ys log → owned_by owner c xs ≡ mine
        → owned_by owner c log ≡ mine
        → owned_by owner c ys ≡ mine
    wider c xs ys log mine b d own all =
        let of_xs = owned_by owner c xs in
        let rest = owned_by owner c b.0 in
        let more = owned_by owner c d.0 in
        let of_ys : owned_by owner c ys ≡ of_xs ++ rest = ap (owned_by owner c) b.1 ∙ filter-append _ xs b.0 in
        let of_log : owned_by owner c log ≡ of_xs ++ (rest ++ more) =
        ap (owned_by owner c) d.1 ∙ (filter-append _ ys d.0 ∙ (ap (λ l. l ++ more) of_ys ∙ append_assoc of_xs rest more)) in
        let same : of_xs ++ (rest ++ more) ≡ of_xs ++ [] = sym of_log ∙ (all ∙ (sym own ∙ sym (append-nil of_xs))) in
        let none : rest ≡ [] = nothing_left rest more (append_cancel_left of_xs (rest ++ more) [] same) in
        of_ys ∙ (ap (λ l. of_xs ++ l) none ∙ (append-nil of_xs ∙ own))

    pub more_own :
        (c : ℕ) (seen mine new : List E) → owned_by owner c seen ≡ owned owner mine
        → owned_by owner c new ≡ owned owner new
        → owned_by owner c (seen ++ new) ≡ owned owner (mine ++ new)
    more_own c seen mine new own own' = filter-append _ seen new ∙ ((λ i. own i ++ own' i) ∙ sym (filter-append _ mine new))
