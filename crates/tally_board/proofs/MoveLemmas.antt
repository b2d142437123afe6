-- Lists of moves that grow at their end.
use Rattle.std.proofs.Common.{◌≡◌, ℕ, List, [], ◌∷◌, ◌++◌, length, replicate, fold, sym, ap, ◌∙◌, subst}
use Rattle.std.proofs.Math.Logic.{∥∥₁_elim, ∥∥₁_map}
use Rattle.std.proofs.lemmas.List.{append_assoc}
use base.Stored.{Coded-set}
use Rattle.std.specs.Coded.{coded_list, coded_ℕ}
use Rattle.std.proofs.lemmas.List.Sums.{fold_push}
use Rattle.tally_board.specs.declared.ballot_move.Move.{Move}
use Rattle.tally_board.specs.Moves.{CanMove, AllCan, IsStory, after_move, totals_after}

pub all_but_last :
    (z : List ℕ) (ms : List Move) (m : Move) → AllCan z (ms ++ m ∷ [])
    → AllCan z ms × CanMove (fold after_move z ms) m
all_but_last z [] m h = (tt, h.0)
all_but_last z (x ∷ xs) m h = let r = all_but_last (after_move z x) xs m h.1 in ((h.0, r.0), r.1)

pub and_last :
    (z : List ℕ) (ms : List Move) (m : Move) → AllCan z ms → CanMove (fold after_move z ms) m
    → AllCan z (ms ++ m ∷ [])
and_last z [] m h may = (may, tt)
and_last z (x ∷ xs) m h may = (h.0, and_last (after_move z x) xs m h.1 may)

-- totals that are right stay so with one move more
pub goes_on :
    (ms ms' : List Move) (m : Move) (t t' : List ℕ)
    → ∥ (IsStory (length t) ms → t ≡ totals_after (length t) ms) ∥₁ → (CanMove t m → t' ≡ after_move t m)
    → length t' ≡ length t → ms' ≡ ms ++ m ∷ [] → ∥ (IsStory (length t') ms' → t' ≡ totals_after (length t') ms') ∥₁
goes_on ms ms' m t t' h made long more = ∣ (λ story. let n = length t in
    let s : IsStory n (ms ++ m ∷ []) = subst (λ (z : ℕ × List Move). IsStory z.0 z.1) (λ i. (long i, more i)) story in
    let parts = all_but_last (replicate n 0) ms m s in
    let was : t ≡ totals_after n ms = ∥∥₁_elim h (Coded-set (coded_list coded_ℕ) _ _) (λ f. f parts.0) in
    let may : CanMove t m = subst (λ (z : List ℕ). CanMove z m) (sym was) parts.1 in
    made may
    ∙ (ap (λ z. after_move z m) was
    ∙ (sym (fold_push after_move (replicate n 0) ms m)
    ∙ (λ i. totals_after (sym long i) (sym more i))))) ∣₁

-- what a board shows is right, where the moves could be made
pub are_right :
    (t : List ℕ) (ms : List Move) → ∥ (IsStory (length t) ms → t ≡ totals_after (length t) ms) ∥₁
    → ∥ IsStory (length t) ms ∥₁ → t ≡ totals_after (length t) ms
are_right t ms h story =
    ∥∥₁_elim story (Coded-set (coded_list coded_ℕ) _ _)
    (λ s. ∥∥₁_elim h (Coded-set (coded_list coded_ℕ) _ _) (λ f. f s))

pub front_may : (z : List ℕ) (ms more : List Move) → AllCan z (ms ++ more) → AllCan z ms
front_may z [] more h = tt
front_may z (x ∷ xs) more h = (h.0, front_may (after_move z x) xs more h.1)

pub front_story : (n : ℕ) (ms more : List Move) → ∥ IsStory n (ms ++ more) ∥₁ → ∥ IsStory n ms ∥₁
front_story n ms more h = ∥∥₁_map h (front_may (replicate n 0) ms more)

-- one move more, which can be made
pub story_more :
    (n : ℕ) (ms pending pending' : List Move) (m : Move) → ∥ IsStory n (ms ++ pending) ∥₁
    → CanMove (totals_after n (ms ++ pending)) m → pending' ≡ pending ++ m ∷ []
    → ∥ IsStory n (ms ++ pending') ∥₁
story_more n ms pending pending' m h may e =
    ∥∥₁_map h (λ s. subst (λ (z : List Move). IsStory n z)
    (append_assoc ms pending (m ∷ []) ∙ (λ i. ms ++ sym e i))
    (and_last (replicate n 0) (ms ++ pending) m s may))
