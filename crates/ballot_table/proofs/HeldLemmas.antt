-- Who has each rank of a row.
use Rattle.std.proofs.Common.{◌≡◌, ℕ, ◌+◌, ◌<◌, ◌≤◌, List, [], ◌∷◌, ◌++◌, length}
use Rattle.std.proofs.Common.{Option, Some, None, get_or, refl, ap, sym, ◌∙◌, subst, arith, set}
use Rattle.std.specs.List.{filter_map, enumerate_from, cons_option}
use Rattle.std.specs.Option.{option_to_list}
use Rattle.std.proofs.Common.{◌⊎◌, inl, inr}
use Rattle.std.proofs.lemmas.Bool.{cases_eq}
use Rattle.std.proofs.lemmas.List.{length-append, length-set, get_or-set_same, get_or-set_other}
use Rattle.std.proofs.lemmas.List.Elements.{filter_map-append}
use Rattle.plain_ballots.specs.declared.limits.TheConstants.{MOST_CANDIDATES}
use Rattle.ballot_table.specs.declared.held.Held.{Held}
use Rattle.ballot_table.specs.declared.held.Held.TheVariants.{Nobody}
use Rattle.ballot_table.specs.Held.{HolderList, IsHolding, held_by, with_holder}
use Rattle.ballot_table.specs.Rows.{holder, holders}

pub enumerate_push : {X : Type 0} (n : ℕ) (xs : List X) (x : X)
    → enumerate_from n (xs ++ x ∷ []) ≡ enumerate_from n xs ++ (n + length xs, x) ∷ []
enumerate_push n [] x = ap (λ k. (k, x) ∷ []) (omega arith)
enumerate_push n (y ∷ ys) x =
    ap (λ l. (n, y) ∷ l)
    (enumerate_push (n + 1) ys x
    ∙ ap (λ k. enumerate_from (n + 1) ys ++ (k, x) ∷ []) (omega arith))

-- one more candidate
pub holders_more : (rank : ℕ) (ranks : List (Option ℕ)) (q : Option ℕ)
    → holders rank (ranks ++ q ∷ []) ≡ holders rank ranks ++ option_to_list (holder rank (1 + length ranks, q))
holders_more rank ranks q =
    ap (filter_map (holder rank)) (enumerate_push 1 ranks q)
    ∙ filter_map-append (holder rank) (enumerate_from 1 ranks) ((1 + length ranks, q) ∷ [])
    ∙ ap (λ l. holders rank ranks ++ l) (one (holder rank (1 + length ranks, q)))
  where
    one : (o : Option ℕ) → cons_option o [] ≡ option_to_list o
    one None = refl
    one (Some c) = refl

held_more : (cs : List ℕ) (c : ℕ) → held_by (cs ++ c ∷ []) ≡ with_holder (held_by cs) c
held_more [] c = refl
held_more (a ∷ []) c = refl
held_more (a ∷ b ∷ cs) c = refl

held_none : (cs : List ℕ) (o : Option ℕ) → o ≡ None → held_by (cs ++ option_to_list o) ≡ held_by cs
held_none [] None is = refl
held_none (a ∷ cs) None is = ap held_by (append_nil (a ∷ cs))
  where
    append_nil : (l : List ℕ) → l ++ [] ≡ l
    append_nil [] = refl
    append_nil (x ∷ xs) = ap (λ l. x ∷ l) (append_nil xs)
held_none cs (Some c) is = absurd (cc is)

held_some : (cs : List ℕ) (o : Option ℕ) (c : ℕ) → o ≡ Some c
    → held_by (cs ++ option_to_list o) ≡ with_holder (held_by cs) c
held_some cs None c is = absurd (cc is)
held_some cs (Some d) c is = held_more cs d ∙ ap (with_holder (held_by cs)) (cc is)

-- a rank that isn't a candidate's
pub no_holder : (rank c : ℕ) (q : Option ℕ) → ((r : ℕ) → q ≡ Some r → r ≡ rank → ⊥) → holder rank (c, q) ≡ None
no_holder rank c None other = refl
no_holder rank c (Some r) other = grind (arith, other r refl)

pub the_holder : (rank c r : ℕ) → r ≡ rank → holder rank (c, Some r) ≡ Some c
the_holder rank c r same = grind arith

-- nobody has a rank before the first candidate
pub none_held : (holders_are : HolderList) → holders_are.candidates ≡ 0 → length holders_are.held ≡ MOST_CANDIDATES
    → ((k : ℕ) → k < MOST_CANDIDATES → get_or holders_are.held k Nobody ≡ Nobody) → IsHolding [] holders_are
none_held holders_are zero size each = record { candidates = zero; size = size; each = each }

-- the next candidate has none of the ranks
pub put_none : (ranks : List (Option ℕ)) (q : Option ℕ) (old new : HolderList) → IsHolding ranks old
    → new.candidates ≡ old.candidates + 1 → new.held ≡ old.held
    → ((r : ℕ) → q ≡ Some r → 1 ≤ r → r ≤ MOST_CANDIDATES → ⊥) → IsHolding (ranks ++ q ∷ []) new
put_none ranks q old new is counted same none = record {
  candidates = counted ∙ ap (λ n. n + 1) is.candidates ∙ sym (length-append ranks (q ∷ []));
  size = ap length same ∙ is.size;
  each = λ k inside.
      let rank = k + 1 in
      let nobody = no_holder rank (1 + length ranks) q
      (λ r is_r is_rank. none r is_r (omega arith) (omega arith)) in
      ap (λ (hs : List Held). get_or hs k Nobody) same
      ∙ is.each k inside
      ∙ sym (held_none (holders rank ranks) (holder rank (1 + length ranks, q)) nobody)
      ∙ sym (ap held_by (holders_more rank ranks q));
}

-- the next candidate has a rank
module _ (ranks : List (Option ℕ)) (r at : ℕ) (old new : HolderList) (is : IsHolding ranks old)
    (counted : new.candidates ≡ old.candidates + 1) (at_is : at + 1 ≡ r) (inside : at < MOST_CANDIDATES)
    (set_is : new.held ≡ set old.held at (with_holder (get_or old.held at Nobody) new.candidates))
  where
    number : new.candidates ≡ 1 + length ranks
    number = let n = is.candidates in omega arith

    here : get_or new.held at Nobody ≡ held_by (holders (at + 1) (ranks ++ Some r ∷ []))
    here =
        let within : at < length old.held = let n = is.size in omega arith in
        ap (λ (hs : List Held). get_or hs at Nobody) set_is
        ∙ get_or-set_same old.held at (with_holder (get_or old.held at Nobody) new.candidates) Nobody within
        ∙ ap (λ h. with_holder h new.candidates) (is.each at inside)
        ∙ ap (with_holder (held_by (holders (at + 1) ranks))) number
        ∙ sym (held_some (holders (at + 1) ranks) (holder (at + 1) (1 + length ranks, Some r)) (1 + length ranks)
        (the_holder (at + 1) (1 + length ranks) r (sym at_is)))
        ∙ sym (ap held_by (holders_more (at + 1) ranks (Some r)))

    there : (k : ℕ) → (k ≡ at → ⊥) → k < MOST_CANDIDATES
        → get_or new.held k Nobody ≡ held_by (holders (k + 1) (ranks ++ Some r ∷ []))
    there k other within =
        ap (λ (hs : List Held). get_or hs k Nobody) set_is
        ∙ get_or-set_other old.held at k (with_holder (get_or old.held at Nobody) new.candidates) Nobody other
        ∙ is.each k within
        ∙ sym (held_none (holders (k + 1) ranks) (holder (k + 1) (1 + length ranks, Some r))
        (no_holder (k + 1) (1 + length ranks) (Some r)
        (λ q is_q is_rank. other (let same : r ≡ q = cc is_q in omega arith))))
        ∙ sym (ap held_by (holders_more (k + 1) ranks (Some r)))

    either : (k : ℕ) → k < MOST_CANDIDATES → (k ≡ at) ⊎ (k ≡ at → ⊥)
        → get_or new.held k Nobody ≡ held_by (holders (k + 1) (ranks ++ Some r ∷ []))
    either k within (inl same) =
        subst (λ j. get_or new.held j Nobody ≡ held_by (holders (j + 1) (ranks ++ Some r ∷ [])))
        (sym same) here
    either k within (inr other) = there k other within

    pub put_some : IsHolding (ranks ++ Some r ∷ []) new
    put_some = record {
      candidates = counted ∙ ap (λ n. n + 1) is.candidates ∙ sym (length-append ranks (Some r ∷ []));
      size = ap length set_is ∙ length-set old.held at (with_holder (get_or old.held at Nobody) new.candidates)
          ∙ is.size;
      each = λ k within. either k within (cases_eq k at);
    }
