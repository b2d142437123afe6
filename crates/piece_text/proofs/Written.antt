-- Bytes written one piece after another.
use Rattle.std.proofs.Common.{◌≡◌, ℕ, ◌+◌, ◌<◌, List, [], ◌∷◌, ◌++◌, length, take, drop, get_or, map, Option}
use Rattle.std.proofs.Common.{Result, Ok, Err, IsErr, arith, sym, ap, subst, refl, ◌∙◌, append_assoc}
use Rattle.std.proofs.Common.{append-nil}
use Rattle.std.specs.Prelude.{OnOk, OnErr}
use Rattle.std.specs.List.{flat_map}
use Rattle.std.specs.Io.KnownBytes.{Appends}
use Rattle.std.proofs.KnownBytes.{Appends-nil, Appends-trans}
use Rattle.std.proofs.lemmas.List.{take_more, take-append-drop}
use Rattle.std.proofs.lemmas.List.Concat.{flat_map-append}
use Rattle.byte_edge.specs.Bytes.{AppendsFront}
use Rattle.byte_edge.specs.Faults.{CountsFault}
use Rattle.piece_text.specs.Writing.{Wrote, Stopped, Writes}

pub wrote_nothing : {S : Type 0} (w : S → Option (List ℕ)) (f : S → ℕ) (a : S) → Wrote w f a a []
wrote_nothing w f a = record { whole = Appends-nil (w a); calm = refl }

pub wrote_later :
    {S : Type 0} {w : S → Option (List ℕ)} {f : S → ℕ} {a b c : S} {first second : List ℕ}
    → Wrote w f a b first → Wrote w f b c second → Wrote w f a c (first ++ second)
wrote_later {w} {a} {b} {c} {first} {second} done next = record {
  whole = Appends-trans (w a) (w b) (w c) first second done.whole next.whole;
  calm = next.calm ∙ done.calm;
}

pub stopped_later :
    {S : Type 0} {w : S → Option (List ℕ)} {f : S → ℕ} {a b c : S} {first second : List ℕ}
    → Wrote w f a b first → Stopped w f b c second → Stopped w f a c (first ++ second)
stopped_later {w} {f} {a} {b} {c} {first} {second} done next =
    let front = next.part.0 in
    let rest = next.part.1 in
    record {
      part = (
        first ++ front,
        rest,
        ap (λ (l : List ℕ). first ++ l) next.part.2 ∙ sym (append_assoc first front rest),
        Appends-trans (w a) (w b) (w c) first front done.whole next.part.3,
      );
      rose = record {
        never_fell = omega (arith, next.rose.never_fell, done.calm);
        higher = λ few. omega (arith, next.rose.higher few, done.calm);
      };
    }

stopped_within :
    {S : Type 0} {w : S → Option (List ℕ)} {f : S → ℕ} {a b : S} {first : List ℕ} (second : List ℕ)
    → Stopped w f a b first → Stopped w f a b (first ++ second)
stopped_within second stopped =
    let front = stopped.part.0 in
    let rest = stopped.part.1 in
    record {
      part = (
        front,
        rest ++ second,
        ap (λ (l : List ℕ). l ++ second) stopped.part.2 ∙ append_assoc front rest second,
        stopped.part.3,
      );
      rose = stopped.rose;
    }

-- after bytes that were written, further ones
pub later :
    {S T E : Type 0} {w : S → Option (List ℕ)} {f : S → ℕ} {a b : S} {first : List ℕ} (c : S)
    (second : List ℕ) (r : Result T E) → Wrote w f a b first → Writes w f b c second r
    → Writes w f a c (first ++ second) r
later c second (Ok x) done next = wrote_later done next
later c second (Err e) done next = stopped_later done next

-- a failure within the first of some bytes
pub stops :
    {S T E : Type 0} {w : S → Option (List ℕ)} {f : S → ℕ} {a b : S} {first : List ℕ} (second : List ℕ)
    (r : Result T E) → IsErr r → Stopped w f a b first → Writes w f a b (first ++ second) r
stops second (Ok x) failed stopped = cc
stops second (Err e) failed stopped = stopped_within second stopped

-- one call that writes all
pub writes_all :
    {S T E : Type 0} (w : S → Option (List ℕ)) (f : S → ℕ) (a b : S) (bytes : List ℕ) (r : Result T E)
    → OnOk r (Appends (w a) (w b) bytes) → OnErr r (AppendsFront (w a) (w b) bytes)
    → CountsFault (f a) (f b) r → Writes w f a b bytes r
writes_all w f a b bytes (Ok x) all front faults = record { whole = all; calm = faults }
writes_all w f a b bytes (Err e) all front faults = record { part = front; rose = faults }

-- ---- what a loop writes of each item

module _ {X : Type 0} (g : X → List ℕ) where
  flat_map-more :
      (xs : List X) (i : ℕ) (d : X) → i < length xs
      → flat_map g (take (i + 1) xs) ≡ flat_map g (take i xs) ++ g (get_or xs i d)
  flat_map-more xs i d below =
      ap (flat_map g) (take_more xs i d below)
      ∙ flat_map-append g (take i xs) (get_or xs i d ∷ [])
      ∙ ap (λ (l : List ℕ). flat_map g (take i xs) ++ l) (append-nil (g (get_or xs i d)))

  pub wrote_more :
      {S : Type 0} {w : S → Option (List ℕ)} {f : S → ℕ} {a b c : S} (xs : List X) (i : ℕ) (d : X)
      → i < length xs → Wrote w f a b (flat_map g (take i xs)) → Wrote w f b c (g (get_or xs i d))
      → Wrote w f a c (flat_map g (take (i + 1) xs))
  wrote_more {w} {f} {a} {b} {c} xs i d below done next =
      subst (λ (bytes : List ℕ). Wrote w f a c bytes) (sym (flat_map-more xs i d below)) (wrote_later done next)

  pub stopped_at :
      {S T E : Type 0} {w : S → Option (List ℕ)} {f : S → ℕ} {a b c : S} (xs : List X) (i : ℕ) (d : X)
      (r : Result T E) → IsErr r → i < length xs → Wrote w f a b (flat_map g (take i xs))
      → Stopped w f b c (g (get_or xs i d)) → Writes w f a c (flat_map g xs) r
  stopped_at {w} {f} {a} {b} {c} xs i d r failed below done next =
      let rest = flat_map g (drop (i + 1) xs) in
      let whole : (flat_map g (take i xs) ++ g (get_or xs i d)) ++ rest ≡ flat_map g xs =
      ap (λ (l : List ℕ). l ++ rest) (sym (flat_map-more xs i d below))
      ∙ sym (flat_map-append g (take (i + 1) xs) (drop (i + 1) xs))
      ∙ ap (flat_map g) (take-append-drop (i + 1) xs) in
      subst (λ (bytes : List ℕ). Writes w f a c bytes r) whole (stops rest r failed (stopped_later done next))

-- what is written of items that are views of others
pub flat_map-map :
    {X Y : Type 0} (g : Y → List ℕ) (v : X → Y) (xs : List X)
    → flat_map (λ x. g (v x)) xs ≡ flat_map g (map v xs)
flat_map-map g v [] = refl
flat_map-map g v (x ∷ xs) = ap (λ (l : List ℕ). g (v x) ++ l) (flat_map-map g v xs)
