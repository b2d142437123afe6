-- Pieces written one after another.
use Rattle.std.proofs.Common.{◌≡◌, ◌∙◌, refl, sym, ap, subst, ℕ, ◌+◌, ◌<◌, ◌≤◌, List, [], ◌∷◌, ◌++◌, length}
use Rattle.std.proofs.Common.{take, get_or, map, arith, append-nil}
use Rattle.std.specs.Prelude.{Result, Ok, Err, IsOk, IsErr}
use Rattle.std.specs.List.{flat_map}
use Rattle.std.proofs.lemmas.List.{take_more, take_all}
use Rattle.std.proofs.lemmas.List.Concat.{flat_map-append}
use Rattle.std.proofs.lemmas.List.FromFn.{map-range_with_len_more}
use Rattle.std.proofs.lemmas.List.Folds.{flat_map-map}
use Rattle.byte_edge.specs.declared.failed.Failed.{Failed}
use Rattle.byte_edge.specs.declared.sink.Sink.{Ghosts}
use Rattle.piece_text.specs.Writing.{Writes}
use Rattle.piece_text.proofs.Written.{wrote_nothing, later as written_later, stops}
use Rattle.sheet_page.specs.declared.pen.Pen.{Pen}
use Rattle.sheet_page.specs.Prints.{Prints}
use Rattle.sheet_page.specs.Values.{all_places}

-- one place more
places-more : (g : ℕ → List ℕ) (n : ℕ) → flat_map g (all_places (n + 1)) ≡ flat_map g (all_places n) ++ g n
places-more g n =
    let joined = flat_map (λ (l : List ℕ). l) in
    sym (flat_map-map (λ (l : List ℕ). l) g (all_places (n + 1)))
    ∙ ap joined (map-range_with_len_more g 0 n n (omega arith))
    ∙ flat_map-append (λ (l : List ℕ). l) (map g (all_places n)) (g n ∷ [])
    ∙ ap (λ (l : List ℕ). joined (map g (all_places n)) ++ l) (append-nil (g n))
    ∙ ap (λ (l : List ℕ). l ++ g n) (flat_map-map (λ (l : List ℕ). l) g (all_places n))

-- one item more
items-more :
    {X : Type 0} (g : X → List ℕ) (xs : List X) (i : ℕ) (d : X) → i < length xs
    → flat_map g (take (i + 1) xs) ≡ flat_map g (take i xs) ++ g (get_or xs i d)
items-more g xs i d below =
    ap (flat_map g) (take_more xs i d below)
    ∙ flat_map-append g (take i xs) (get_or xs i d ∷ [])
    ∙ ap (λ (l : List ℕ). flat_map g (take i xs) ++ l) (append-nil (g (get_or xs i d)))

-- after bytes that were handed to the sink, what a pen writes
behind :
    {places : ℕ} {S : Type 0} (k : Ghosts S) (a : S) (q r : Pen places S) (first second : List ℕ)
    (done : Result (Unit {0}) Failed) → q.done ≡ done → Writes k.written k.faults a q.sink.now first done
    → Prints k q r second
    → Writes k.written k.faults a r.sink.now (first ++ second) r.done
behind k a q r first second (Ok done) is wrote next =
    written_later r.sink.now second r.done wrote (next.well (rw is refl))
behind {places} {S} k a q r first second (Err stop) is stopped next =
    subst (λ (p : Pen places S). Writes k.written k.faults a p.sink.now (first ++ second) p.done) (sym (next.failed (rw is refl)))
    (subst (λ (s : Result (Unit {0}) Failed). Writes k.written k.faults a q.sink.now (first ++ second) s) (sym is)
    (stops {T = Unit {0}} second (Err stop) refl stopped))

-- one piece of writing after another
pub later :
    {places : ℕ} {S : Type 0} {k : Ghosts S} {p q r : Pen places S} {first second : List ℕ}
    → Prints k p q first → Prints k q r second → Prints k p r (first ++ second)
later {places} {S} {k} {p} {q} {r} {first} {second} one next = record {
  same_sink = next.same_sink ∙ one.same_sink;
  well = λ ok. behind k p.sink.now q r first second q.done refl (one.well ok) next;
  failed = λ err. next.failed (subst (λ (s : Pen places S). IsErr s.done) (sym (one.failed err)) err) ∙ one.failed err;
}

pub nothing : {places : ℕ} {S : Type 0} (k : Ghosts S) (p : Pen places S) → Prints k p p []
nothing k p = record { same_sink = refl; well = λ ok. none k p.sink.now p.done ok; failed = λ err. refl }
  where
    none :
        {S : Type 0} (k : Ghosts S) (a : S) (done : Result (Unit {0}) Failed) → IsOk done
        → Writes k.written k.faults a a [] done
    none k a (Ok x) ok = wrote_nothing k.written k.faults a
    none k a (Err e) ok = cc

-- what was handed to the sink, where the pen was new and all that it wrote is this
pub ended :
    {places : ℕ} {S : Type 0} {k : Ghosts S} {p q : Pen places S} {a c : S} {r : Result (Unit {0}) Failed}
    {bytes : List ℕ} → p.sink.now ≡ a → p.done ≡ Ok (tt {0}) → Prints k p q bytes → c ≡ q.sink.now → r ≡ q.done
    → Writes k.written k.faults a c bytes r
ended {S = S} {k} {p} {q} {a} {c} {r} {bytes} before well wrote after done =
    subst (λ (s : S). Writes k.written k.faults s c bytes r) before
    (subst (λ (s : S). Writes k.written k.faults p.sink.now s bytes r) (sym after)
    (subst (λ (s : Result (Unit {0}) Failed). Writes k.written k.faults p.sink.now q.sink.now bytes s) (sym done)
    (wrote.well (rw well refl))))

pub place_more :
    {places : ℕ} {S : Type 0} {k : Ghosts S} {p q r : Pen places S} (g : ℕ → List ℕ) (n : ℕ)
    → Prints k p q (flat_map g (all_places n)) → Prints k q r (g n) → Prints k p r (flat_map g (all_places (n + 1)))
place_more {k} {p} {r} g n done next =
    subst (λ (l : List ℕ). Prints k p r l) (sym (places-more g n)) (later done next)

-- one item more, which is x
pub item_more :
    {places : ℕ} {S X : Type 0} {k : Ghosts S} {p q r : Pen places S} (g : X → List ℕ)
    (xs : List X) (i : ℕ) (x : X) → x ≡ get_or xs i x → i < length xs
    → Prints k p q (flat_map g (take i xs)) → Prints k q r (g x) → Prints k p r (flat_map g (take (i + 1) xs))
item_more {k} {p} {q} {r} g xs i x is below done next =
    let here = subst (λ y. Prints k q r (g y)) is next in
    subst (λ (l : List ℕ). Prints k p r l) (sym (items-more g xs i x below)) (later done here)

-- all items
pub items_all :
    {places : ℕ} {S X : Type 0} {k : Ghosts S} {p r : Pen places S} (g : X → List ℕ) (xs : List X) (i : ℕ)
    → length xs ≤ i → Prints k p r (flat_map g (take i xs)) → Prints k p r (flat_map g xs)
items_all {X = X} {k} {p} {r} g xs i past done =
    subst (λ (l : List X). Prints k p r (flat_map g l)) (take_all i xs past) done

-- the same bytes by another name
pub renamed :
    {places : ℕ} {S : Type 0} {k : Ghosts S} {p r : Pen places S} {bytes others : List ℕ}
    → bytes ≡ others → Prints k p r bytes → Prints k p r others
renamed {k} {p} {r} same done = subst (λ (l : List ℕ). Prints k p r l) same done
