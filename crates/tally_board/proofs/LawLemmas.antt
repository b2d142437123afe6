-- The steps of a chronicle keep the rule of its book.
use Rattle.std.proofs.Common.{◌≡◌, ℕ, zero, suc, ◌<◌, ◌==◌, true, false, List, [], ◌∷◌, ◌++◌, length, refl}
use Rattle.std.proofs.Common.{ap, sym, ◌∙◌, subst, arith, inl, None, set, true≢false}
use Rattle.std.proofs.lemmas.List.{append-nil, get_or-set_same}
use mathlib.Core.List.{IsPrefix}
use prog.Atomic.{either}
use Rattle.logbook.specs.Pages.{Cell, Nib, cell, adds, gives, keeps, no_nib, may_write, step, Moves}
use Rattle.tally_board.specs.declared.line.Line.{Line}
use Rattle.tally_board.specs.Lines.{IsUnspent}
use Rattle.tally_board.specs.Law.{AreSpent, IsKept, Opened, Added, Held}

abbrev pub shown : List Line → List Line
shown log = []

abbrev pub moved : List Line → List Line → ℕ → Type 0
moved xs ys n = Unit {0}

abbrev IsHome : List Cell → ℕ → Type 0
IsHome cs k = (cell cs k).1 ≡ true

home_in : (cs : List Cell) (k : ℕ) → IsHome cs k → k < length cs
home_in [] k h = absurd (true≢false (sym h))
home_in (c ∷ cs) zero h = omega arith
home_in (c ∷ cs) (suc k) h = let r = home_in cs k h in omega arith

home_set : (cs : List Cell) (k n j : ℕ) → IsHome cs j → IsHome (set cs k (n, true)) j
home_set [] k n j h = h
home_set (c ∷ cs) zero n zero h = refl
home_set (c ∷ cs) zero n (suc j) h = h
home_set (c ∷ cs) (suc k) n zero h = h
home_set (c ∷ cs) (suc k) n (suc j) h = home_set cs k n j h

home_push : (cs : List Cell) (c : Cell) (j : ℕ) → IsHome cs j → IsHome (cs ++ c ∷ []) j
home_push [] c j h = absurd (true≢false (sym h))
home_push (d ∷ cs) c zero h = h
home_push (d ∷ cs) c (suc j) h = home_push cs c j h

set_home : (cs : List Cell) (k n : ℕ) → k < length cs → IsHome (set cs k (n, true)) k
set_home cs k n h = ap (λ (c : Cell). c.1) (get_or-set_same cs k (n, true) (0, false) h)

set_long : (cs : List Cell) (k : ℕ) (c : Cell) → length (set cs k c) ≡ length cs
set_long [] k c = refl
set_long (d ∷ cs) zero c = refl
set_long (d ∷ cs) (suc k) c = ap suc (set_long cs k c)

spent_still :
    (cs ds : List Cell) (log : List Line) → ((j : ℕ) → IsHome cs j → IsHome ds j) → AreSpent cs log
    → AreSpent ds log
spent_still cs ds [] more h = tt
spent_still cs ds (l ∷ ls) more h = (more l.key h.0, spent_still cs ds ls more h.1)

and_one : (cs : List Cell) (log : List Line) (l : Line) → AreSpent cs log → IsHome cs l.key → AreSpent cs (log ++ l ∷ [])
and_one cs [] l h one = (one, tt)
and_one cs (x ∷ xs) l h one = (h.0, and_one cs xs l h.1 one)

unspent : (cs : List Cell) (log : List Line) (k : ℕ) → AreSpent cs log → (cell cs k).1 ≡ false → IsUnspent k log
unspent cs [] k h away = tt
unspent cs (l ∷ ls) k h away =
    (λ e. true≢false (sym h.0 ∙ (ap (λ (j : ℕ). (cell cs j).1) e ∙ away)), unspent cs ls k h.1 away)

-- a key may be opened at any time
pub opens :
    (v : List Line) (e : Line)
    → Moves IsKept shown moved 0 (v, (no_nib, None)) (λ n. either (n == 0) 0 n)
    (Opened (step 0 0 0 e) (v, (no_nib, None)))
opens v e cs log kept pre away =
    let n = either ((cell cs 0).0 == 0) 0 (cell cs 0).0 in let ds = set cs 0 (n, true) in
    let still : (j : ℕ) → IsHome cs j → IsHome (ds ++ (0, false) ∷ []) j =
    λ j h. home_push ds (0, false) j (home_set cs 0 n j h) in (
      home_in cs 0 kept.head,
      kept.head,
      (
        adds,
        [],
        None,
        tt,
        record {
          head = still 0 kept.head;
          spent =
              subst (AreSpent (ds ++ (0, false) ∷ [])) (sym (append-nil log))
              (spent_still cs (ds ++ (0, false) ∷ []) log still kept.spent);
        },
        inl (refl, refl),
        (length cs, refl),
      ),
    )

-- who holds the pen of a key may spend it
pub spends :
    (v : List Line) (p : Nib) (e : Line) → p.right ≡ may_write
    → Moves IsKept shown moved 0 (v, (p, None)) (λ n. either (n == 0) 0 n)
    (Added (step 0 0 0 e) (v, (p, None)))
spends v p e may cs log kept pre away =
    let l : Line = record { key = p.key; step = e.step; next = e.next } in
    let n =
    either ((cell cs 0).0 == 0) 0 (cell cs 0).0 in
    let ds = set cs 0 (n, true) in let after = set ds p.key (p.value, true) in
    let here = away may in
    let still : (j : ℕ) → IsHome cs j → IsHome after j = λ j h. home_set ds p.key p.value j (home_set cs 0 n j h) in
    let one : IsHome after p.key =
    set_home ds p.key p.value (subst (λ (m : ℕ). p.key < m) (sym (set_long cs 0 (n, true))) here.0) in (
      home_in cs 0 kept.head,
      kept.head,
      (
        gives,
        l ∷ [],
        None,
        may,
        record { head = still 0 kept.head; spent = and_one after log l (spent_still cs after log still kept.spent) one },
        inl (refl, refl),
        (log, pre, unspent cs log p.key kept.spent here.1, refl),
      ),
    )

-- who holds the pen of a key sees that no line has spent it
pub holds :
    (v : List Line) (p : Nib) (e : Line) → p.right ≡ may_write
    → Moves IsKept shown moved 0 (v, (p, None)) (λ n. either (n == 0) 0 n)
    (Held (step 0 0 0 e) (v, (p, None)))
holds v p e may cs log kept pre away =
    let n = either ((cell cs 0).0 == 0) 0 (cell cs 0).0 in let ds = set cs 0 (n, true) in
    let here = away may in let all = sym (append-nil log) in
    let still : (j : ℕ) → IsHome cs j → IsHome ds j = λ j h. home_set cs 0 n j h in (
      home_in cs 0 kept.head,
      kept.head,
      (
        keeps,
        [],
        None,
        tt,
        record {
          head = still 0 kept.head;
          spent = subst (AreSpent ds) all (spent_still cs ds log still kept.spent);
        },
        inl (refl, refl),
        (
          refl,
          subst (IsPrefix v) all pre,
          subst (IsUnspent p.key) all (unspent cs log p.key kept.spent here.1),
        ),
      ),
    )
