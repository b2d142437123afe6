-- The marks of an order that is read say candidates, and their items stand within the line.
use Rattle.std.proofs.Common.{◌≡◌, ℕ, zero, suc, ◌+◌, ◌≤◌, List, [], ◌∷◌, length, Option, Some, None, All, Ok}
use Rattle.std.proofs.Common.{subst, arith}
use Rattle.std.specs.List.{filter_map, cons_option, range_with_len}
use Rattle.std.specs.Option.{option_map}
use Rattle.std.proofs.lemmas.List.Elements.{All-nil, All-cons, All-head, All-tail, All-push}
use Rattle.ballot_marks.specs.declared.mark.Mark.{Mark}
use Rattle.ballot_marks.specs.Marks.{SaysOneOf}
use Rattle.preflib_text.specs.declared.braced.Braced.{Braced}
use Rattle.preflib_text.specs.declared.braced.Braced.TheVariants.{Nobody, One, More}
use Rattle.preflib_text.specs.declared.expected.Expected.{Expected}
use Rattle.preflib_text.specs.declared.expected.Expected.TheVariants.{Count, BehindCount, Item as AtItem, BehindItem}
use Rattle.preflib_text.specs.declared.expected.Expected.TheVariants.{Number as AtNumber, BehindNumber}
use Rattle.preflib_text.specs.Orders.{number_fault, part_fault}
use Rattle.preflib_text.specs.Parts.{Part, Number, Colon, Comma, Open, Close, Placed, part_at, parts}
use Rattle.preflib_text.specs.Standing.{Stand, starting, next, next_by, more_braced, says_braced, read}
use Rattle.preflib_text.proofs.ReadItems.{read_step}

-- a number that may stand there is a candidate's
one_of : (candidates n : ℕ) (others : List ℕ) → number_fault candidates others n ≡ None → (1 ≤ n) × (n ≤ candidates)
one_of candidates n others sound = grind arith

module _ (bound : ℕ) where
  -- the marks so far say candidates, and they stand within so many bytes
  record IsIn (s : Stand) : Type 0 where
    marks : All (λ m. SaysOneOf s.candidates m.says) s.marks
    braced : SaysOneOf s.candidates (says_braced s.braced)
    places : All (λ k. k ≤ bound) s.places
    opened : s.open_at ≤ bound

  more_in : (candidates n : ℕ) (b : Braced) → (1 ≤ n) × (n ≤ candidates)
      → SaysOneOf candidates (says_braced (more_braced b n))
  more_in candidates n Nobody is = is
  more_in candidates n (One m) is = tt
  more_in candidates n More is = tt

  module _ (room : ℕ) (s : Stand) (at : ℕ) (inside : at ≤ bound) (i : IsIn s) where
    abbrev IsMark : Mark → Type 0
    IsMark m = SaysOneOf s.candidates m.says

    abbrev IsPlace : ℕ → Type 0
    IsPlace k = k ≤ bound

    next_in : (e : Expected) (part : Part) → part_fault room s.candidates s.listed e part ≡ None
        → IsIn (next_by e s at part)
    next_in Count (Number m) sound = record { marks = i.marks; braced = i.braced; places = i.places; opened = i.opened }
    next_in BehindCount Colon sound = record { marks = i.marks; braced = i.braced; places = i.places; opened = i.opened }
    next_in AtItem (Number m) sound = record {
      marks = All-push IsMark s.marks _ i.marks (one_of s.candidates m s.listed sound);
      braced = i.braced;
      places = All-push IsPlace s.places at i.places inside;
      opened = i.opened;
    }
    next_in AtItem Open sound = record { marks = i.marks; braced = tt; places = i.places; opened = inside }
    next_in BehindItem Comma sound = record { marks = i.marks; braced = i.braced; places = i.places; opened = i.opened }
    next_in AtNumber (Number m) sound = record {
      marks = i.marks;
      braced = more_in s.candidates m s.braced (one_of s.candidates m s.listed sound);
      places = i.places;
      opened = i.opened;
    }
    next_in BehindNumber Comma sound = record { marks = i.marks; braced = i.braced; places = i.places; opened = i.opened }
    next_in BehindNumber Close sound = record {
      marks = All-push IsMark s.marks _ i.marks i.braced;
      braced = i.braced;
      places = All-push IsPlace s.places s.open_at i.places i.opened;
      opened = i.opened;
    }
    next_in e part sound = i

  read_in : (room : ℕ) (ps : List Placed) (s t : Stand) → All (λ p. p.at ≤ bound) ps → IsIn s
      → read room s ps ≡ Ok t → IsIn t
  read_in room [] s t all i is = subst IsIn (cc is) i
  read_in room (p ∷ ps) s t all i is =
      let step = read_step room s t p ps is in
      read_in room ps (next s p.at p.part) t (All-tail (λ q. q.at ≤ bound) p ps all)
      (next_in room s p.at (All-head (λ q. q.at ≤ bound) p ps all) i s.expected p.part step.0) step.1

  range_in : (a n : ℕ) → a + n ≤ bound + 1 → All (λ k. k ≤ bound) (range_with_len a n)
  range_in a zero few = All-nil (λ k. k ≤ bound)
  range_in a (suc n) few =
      All-cons (λ k. k ≤ bound) a (range_with_len (a + 1) n) (omega (arith, few)) (range_in (a + 1) n (omega (arith, few)))

  one_part_in : (k : ℕ) (o : Option Part) (ps : List Placed) → k ≤ bound → All (λ p. p.at ≤ bound) ps
      → All (λ p. p.at ≤ bound) (cons_option (option_map (λ part. record { at = k; part = part }) o) ps)
  one_part_in k None ps inside all = all
  one_part_in k (Some part) ps inside all = All-cons (λ p. p.at ≤ bound) _ ps inside all

  parts_in : (bytes : List ℕ) (ks : List ℕ) → All (λ k. k ≤ bound) ks
      → All (λ p. p.at ≤ bound) (filter_map (part_at bytes) ks)
  parts_in bytes [] all = All-nil (λ p. p.at ≤ bound)
  parts_in bytes (k ∷ ks) all =
      one_part_in k _ (filter_map (part_at bytes) ks) (All-head (λ j. j ≤ bound) k ks all)
      (parts_in bytes ks (All-tail (λ j. j ≤ bound) k ks all))

module _ (room n : ℕ) (bytes : List ℕ) (t : Stand) (is : read room (starting n) (parts bytes) ≡ Ok t) where
  whole_in : IsIn (length bytes) t
  whole_in =
      read_in (length bytes) room (parts bytes) (starting n) t
      (parts_in (length bytes) bytes (range_with_len 0 (length bytes + 1))
      (range_in (length bytes) 0 (length bytes + 1) (omega arith)))
      (record { marks = All-nil _; braced = tt; places = All-nil _; opened = omega arith }) is

  pub marks_in : All (λ m. SaysOneOf t.candidates m.says) t.marks
  marks_in = (whole_in).marks

  pub places_in : All (λ k. k ≤ length bytes) t.places
  places_in = (whole_in).places
