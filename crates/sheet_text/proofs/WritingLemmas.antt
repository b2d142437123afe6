-- Lines written one after another.
use Rattle.std.proofs.Common.{◌≡◌, ℕ, List, [], ◌∷◌, ◌++◌, Option, Result, Ok, Err, IsErr, arith, sym, ap}
use Rattle.std.proofs.Common.{subst, refl, ◌∙◌, append_assoc, append-nil}
use Rattle.std.specs.Prelude.{OnOk, OnErr}
use Rattle.std.specs.Io.KnownBytes.{Appends}
use Rattle.std.proofs.KnownBytes.{Appends-nil, Appends-trans}
use Rattle.std.proofs.lemmas.List.Concat.{flat_map-append}
use Rattle.byte_edge.specs.Bytes.{AppendsFront}
use Rattle.byte_edge.specs.Faults.{CountsFault}
use Rattle.sheet_text.specs.Lines.{ended, text_of_lines}
use Rattle.sheet_text.specs.Writing.{Wrote, Stopped, Writes}

pub text_of_lines-append :
    (first second : List (List ℕ))
    → text_of_lines (first ++ second) ≡ text_of_lines first ++ text_of_lines second
unfolding text_of_lines
text_of_lines-append first second = flat_map-append ended first second

pub text_of_lines-one : (line : List ℕ) → text_of_lines (line ∷ []) ≡ line ++ 10 ∷ []
unfolding text_of_lines
text_of_lines-one line = append-nil (line ++ 10 ∷ [])

pub wrote_nothing : {S : Type 0} (w : S → Option (List ℕ)) (f : S → ℕ) (a : S) → Wrote w f a a []
unfolding text_of_lines
wrote_nothing w f a = record { whole = Appends-nil (w a); calm = refl }

pub wrote_later :
    {S : Type 0} {w : S → Option (List ℕ)} {f : S → ℕ} {a b c : S} {first second : List (List ℕ)}
    → Wrote w f a b first → Wrote w f b c second → Wrote w f a c (first ++ second)
wrote_later {w} {a} {b} {c} {first} {second} done next = record {
  whole =
      rw text_of_lines-append
      (Appends-trans (w a) (w b) (w c) (text_of_lines first) (text_of_lines second) done.whole next.whole);
  calm = next.calm ∙ done.calm;
}

pub stopped_later :
    {S : Type 0} {w : S → Option (List ℕ)} {f : S → ℕ} {a b c : S} {first second : List (List ℕ)}
    → Wrote w f a b first → Stopped w f b c second → Stopped w f a c (first ++ second)
stopped_later {w} {f} {a} {b} {c} {first} {second} done next =
    let head = text_of_lines first in
    let front = next.part.0 in
    let rest = next.part.1 in
    record {
      part = (
        head ++ front,
        rest,
        text_of_lines-append first second ∙ ap (λ (l : List ℕ). head ++ l) next.part.2 ∙ sym (append_assoc head front rest),
        Appends-trans (w a) (w b) (w c) head front done.whole next.part.3,
      );
      rose = record {
        never_fell = omega (arith, next.rose.never_fell, done.calm);
        higher = λ few. omega (arith, next.rose.higher few, done.calm);
      };
    }

-- after lines that were written, further ones
pub later :
    {S T E : Type 0} {w : S → Option (List ℕ)} {f : S → ℕ} {a b : S} {first : List (List ℕ)} (c : S)
    (second : List (List ℕ)) (r : Result T E) → Wrote w f a b first → Writes w f b c second r
    → Writes w f a c (first ++ second) r
later c second (Ok x) done next = wrote_later done next
later c second (Err e) done next = stopped_later done next

-- a failure within the first of some lines
pub stops :
    {S T E : Type 0} {w : S → Option (List ℕ)} {f : S → ℕ} {a b : S} {first : List (List ℕ)}
    (second : List (List ℕ)) (r : Result T E) → IsErr r → Stopped w f a b first
    → Writes w f a b (first ++ second) r
stops second (Ok x) failed stopped = cc
stops {first} second (Err e) failed stopped =
    let front = stopped.part.0 in
    let rest = stopped.part.1 in
    record {
      part = (
        front,
        rest ++ text_of_lines second,
        text_of_lines-append first second ∙ ap (λ (l : List ℕ). l ++ text_of_lines second) stopped.part.2
            ∙ append_assoc front rest (text_of_lines second),
        stopped.part.3,
      );
      rose = stopped.rose;
    }

-- what is written to a sink as one piece is a line
pub writes_line :
    {S T E : Type 0} (w : S → Option (List ℕ)) (f : S → ℕ) (a b : S) (line text : List ℕ) (r : Result T E)
    → text ≡ line ++ 10 ∷ [] → OnOk r (Appends (w a) (w b) text) → OnErr r (AppendsFront (w a) (w b) text)
    → CountsFault (f a) (f b) r → Writes w f a b (line ∷ []) r
writes_line w f a b line text (Ok x) is all front faults =
    record { whole = subst (λ (t : List ℕ). Appends (w a) (w b) t) (is ∙ sym (text_of_lines-one line)) all; calm = faults }
writes_line w f a b line text (Err e) is all front faults =
    record {
      part =
          subst (λ (t : List ℕ). AppendsFront (w a) (w b) t) (is ∙ sym (text_of_lines-one line)) front;
      rose = faults;
    }

-- the same in the words of a public call
pub all-Writes :
    {S T E : Type 0} (w : S → Option (List ℕ)) (f : S → ℕ) (a b : S) (lines : List (List ℕ)) (r : Result T E)
    → Writes w f a b lines r → OnOk r (Appends (w a) (w b) (text_of_lines lines))
all-Writes w f a b lines (Ok x) did = did.whole
all-Writes w f a b lines (Err e) did = tt

pub front-Writes :
    {S T E : Type 0} (w : S → Option (List ℕ)) (f : S → ℕ) (a b : S) (lines : List (List ℕ)) (r : Result T E)
    → Writes w f a b lines r → OnErr r (AppendsFront (w a) (w b) (text_of_lines lines))
front-Writes w f a b lines (Ok x) did = tt
front-Writes w f a b lines (Err e) did = did.part

pub faults-Writes :
    {S T E : Type 0} (w : S → Option (List ℕ)) (f : S → ℕ) (a b : S) (lines : List (List ℕ)) (r : Result T E)
    → Writes w f a b lines r → CountsFault (f a) (f b) r
faults-Writes w f a b lines (Ok x) did = did.calm
faults-Writes w f a b lines (Err e) did = did.rose
