-- The struck candidates after some calls.
use Rattle.std.proofs.Common.{◌≡◌, ◌≢◌, ℕ, ◌==◌, Bool, true, false, ◌||◌, cond, List, [], ◌∷◌, ◌++◌, take}
use Rattle.std.proofs.Common.{refl, sym, ap, ◌∙◌, subst, arith, get_or, ⊎_elim, eq-eqb}
use Rattle.std.specs.Prelude.{AllPairs}
use Rattle.std.specs.List.{list_any}
use Rattle.std.proofs.Math.Bool.{or-false, or_assoc}
use Rattle.std.proofs.lemmas.Bool.{cases_Bool}
use Rattle.std.proofs.lemmas.Bool.Decides.{eqb_tells}
use Rattle.std.proofs.lemmas.List.Folds.{list_any-append, list_any_at}
use Rattle.std.proofs.lemmas.List.Quantifiers.{all_pairs_push}
use Rattle.batch_core.specs.declared.call.Call.{Call}
use Rattle.batch_core.specs.declared.call.Call.TheVariants.{Change as Changes, Freeze, Strike}
use Rattle.batch_core.specs.declared.entry.Entry.{Entry}
use Rattle.batch_core.specs.Book.{BookState, empty, after, is_struck, strike}
use Rattle.batch_core.specs.Histories.{after_all, struck_after, strikes}

-- who is struck after one strike
pub struck_more : (struck : List ℕ) (k c : ℕ) → is_struck (strike struck k) c ≡ (is_struck struck c || (k == c))
struck_more struck k c = ⊎_elim
    (λ (h : is_struck struck k ≡ true).
    ap (λ t. is_struck (cond t struck (struck ++ k ∷ [])) c) h
    ∙ ⊎_elim
    (λ (e : ((k == c) ≡ true) × (k ≡ c)).
    let here : is_struck struck c ≡ true = subst (λ x. is_struck struck x ≡ true) e.1 h in
    here ∙ sym (ap (λ t. t || (k == c)) here))
    (λ (e : ((k == c) ≡ false) × (k ≢ c)). sym (or-false (is_struck struck c)) ∙ ap (λ t. is_struck struck c || t) (sym e.0))
    (eqb_tells k c))
    (λ (h : is_struck struck k ≡ false).
    ap (λ t. is_struck (cond t struck (struck ++ k ∷ [])) c) h
    ∙ (list_any-append (λ x. x == c) struck (k ∷ []) ∙ ap (λ t. is_struck struck c || t) (or-false (k == c))))
    (cases_Bool (is_struck struck k))

-- nobody is listed twice after one strike
once_more : (struck : List ℕ) (k : ℕ) → AllPairs (λ a b. a ≢ b) struck → AllPairs (λ a b. a ≢ b) (strike struck k)
once_more struck k once = ⊎_elim
    (λ (h : is_struck struck k ≡ true). subst
    (λ t. AllPairs (λ (a b : ℕ). a ≢ b) (cond t struck (struck ++ k ∷ []))) (sym h) once)
    (λ (h : is_struck struck k ≡ false).
    subst (λ t. AllPairs (λ (a b : ℕ). a ≢ b) (cond t struck (struck ++ k ∷ []))) (sym h)
    (all_pairs_push (λ (a b : ℕ). a ≢ b) struck k once
    (λ i d lt e. absurd (let t : true ≡ false =
    sym (list_any_at (λ x. x == k) struck i d lt (eq-eqb (get_or struck i d) k e)) ∙ h in
    cc t))))
    (cases_Bool (is_struck struck k))

called :
    (book : BookState) (call : Call) (c : ℕ)
    → is_struck (after book call).struck c ≡ (is_struck book.struck c || strikes c call)
called book (Changes change) c = sym (or-false (is_struck book.struck c))
called book Freeze c = sym (or-false (is_struck book.struck c))
called book (Strike k) c = struck_more book.struck k c

once :
    (book : BookState) (call : Call) → AllPairs (λ a b. a ≢ b) book.struck
    → AllPairs (λ a b. a ≢ b) (after book call).struck
once book (Changes change) h = h
once book Freeze h = h
once book (Strike k) h = once_more book.struck k h

called_from :
    (book : BookState) (es : List Entry) (c : ℕ)
    → is_struck (after_all book es).struck c
    ≡ (is_struck book.struck c || list_any (λ e. strikes c e.call) es)
called_from book [] c = sym (or-false (is_struck book.struck c))
called_from book (e ∷ es) c =
    called_from (after book e.call) es c
    ∙ (ap (λ t. t || list_any (λ (x : Entry). strikes c x.call) es) (called book e.call c)
    ∙ or_assoc (is_struck book.struck c) (strikes c e.call)
    (list_any (λ (x : Entry). strikes c x.call) es))

once_from :
    (book : BookState) (es : List Entry) → AllPairs (λ a b. a ≢ b) book.struck
    → AllPairs (λ a b. a ≢ b) (after_all book es).struck
once_from book [] h = h
once_from book (e ∷ es) h = once_from (after book e.call) es (once book e.call h)

pub struck_called :
    (history : List Entry) (n c : ℕ)
    → is_struck (struck_after history n) c ≡ list_any (λ e. strikes c e.call) (take n history)
struck_called history n c = called_from empty (take n history) c

pub struck_once : (history : List Entry) (n : ℕ) → AllPairs (λ a b. a ≢ b) (struck_after history n)
struck_once history n = once_from empty (take n history) (λ i j d lt len. absurd (omega arith))
