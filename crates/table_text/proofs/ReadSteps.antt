-- What is read to its end is spelled so: how a byte, and the end, lead on.
use Rattle.std.proofs.Common.{◌≡◌, ◌≢◌, ℕ, ◌+◌, List, [], ◌∷◌, ◌++◌, length, map, Bool, true, false, cond}
use Rattle.std.proofs.Common.{◌==◌, inl, inr, refl, sym, ◌∙◌, ap, subst, arith, append-nil, append_assoc}
use Rattle.std.proofs.Common.{length-append}
use Rattle.std.proofs.lemmas.Bool.{eqb-true, eq-eqb, true≢false}
use Rattle.std.proofs.lemmas.List.{map_push, nil_from_length}
use Rattle.table_text.specs.declared.text_kind.TextKind.TheVariants.{Ended, EmptyLine}
use Rattle.table_text.specs.Spelling.{IsLineEnd, AreFields, EndsRecord, Begins, Spelled}
use Rattle.table_text.specs.Reading.{Field, field_text, Reading, AtEnd, AtFault, ends, texts_of, Part, Front}
use Rattle.table_text.specs.Reading.{Plain, Within, BehindQuote, Return, begins_with_feed}
use Rattle.table_text.specs.Reading.{Stand, first_field, next_count, fault, is_empty, with_record}
use Rattle.table_text.specs.Reading.{after_field, read}
use Rattle.table_text.specs.Reader.{in_field}
use Rattle.table_text.specs.Laws.{IsSeparator}
use Rattle.table_text.proofs.Forward.{text_of}
use Rattle.table_text.proofs.SpelledRecords.{with_row_of}
use Rattle.table_text.proofs.Backward.{turned, AtFeed, IsWhole, PartIs}
use Rattle.table_text.proofs.Backward.{with_first, Stands}

module _ (s : ℕ) (fit : IsSeparator s) where
  -- what is read to its end is this text
  abbrev pub SpelledSo : Reading → List ℕ → Type 0
  SpelledSo reading text = reading.ending ≡ AtEnd → Spelled s (texts_of reading.rows) text

  -- the same of all that is read from a place on
  abbrev pub Behind : (at : ℕ) → List ℕ → Type 0
  Behind at rest =
      (row start : ℕ) (fields : List Field) (from : ℕ) (bytes : List ℕ) (part : Part) (front : List ℕ)
      → Stands s fit start fields from bytes part at front → AtFeed part rest
      → SpelledSo (read s (in_field row start fields from bytes part) at rest)
      ((front ++ bytes) ++ (turned part ++ rest))

  pub first_stands : (at : ℕ) → Stands s fit at [] at [] Front at []
  first_stands at = record {
    before = λ more rest are. are;
    part_is = refl;
    place = refl;
    here = omega arith;
  }

  line_end : (part : Part) (b : ℕ) → b ≡ 10 → IsLineEnd (turned part ++ b ∷ [])
  line_end Front b is = inl (ap (λ (n : ℕ). n ∷ []) is)
  line_end Plain b is = inl (ap (λ (n : ℕ). n ∷ []) is)
  line_end Within b is = inl (ap (λ (n : ℕ). n ∷ []) is)
  line_end BehindQuote b is = inl (ap (λ (n : ℕ). n ∷ []) is)
  line_end Return b is = inr (ap (λ (n : ℕ). 13 ∷ n ∷ []) is)

  module _ (row start : ℕ) (fields : List Field) (from : ℕ) (bytes : List ℕ) (part : Part) (at : ℕ)
      (front : List ℕ)
      (stands : Stands s fit start fields from bytes part at front) where
    abbrev pub here : Stand
    here = in_field row start fields from bytes part

    abbrev pub last : Field
    last = record { at = from; bytes = bytes }

    some_bytes : is_empty here ≡ false → front ++ bytes ≢ []
    some_bytes some none =
        let len : length (front ++ bytes) ≡ 0 = ap length none in
        true≢false (sym (eq-eqb (from + length bytes) start (omega (arith, stands.place, len))) ∙ some)

    begins :
        IsWhole s fit bytes → (records : List (List (List ℕ))) (end rest : List ℕ) → is_empty here ≡ false
        → EndsRecord records end
        → Begins s (map text_of (fields ++ last ∷ [])) records ((front ++ bytes) ++ (end ++ rest)) rest
    begins whole records end rest some ended = record {
      front = front ++ bytes;
      end = end;
      parts = refl;
      spelled =
          subst (λ (ts : List (List ℕ)). AreFields s ts (front ++ bytes)) (sym (map_push text_of fields last))
          (stands.before (field_text bytes ∷ []) bytes whole);
      some = some_bytes some;
      ended = ended;
    }

    at_end_tests :
        IsWhole s fit bytes → (empty first : Bool) → is_empty here ≡ empty
        → SpelledSo
        (cond empty (cond first (fault here Ended at) (ends AtEnd)) (with_record here (ends AtEnd)))
        (front ++ bytes)
    at_end_tests whole true true is ending = cc
    at_end_tests whole true false is ending =
        nil_from_length (front ++ bytes)
        (omega (arith, stands.place, eqb-true (from + length bytes) start is))
    at_end_tests whole false first is ending =
        subst (λ (r : Reading). Spelled s (texts_of r.rows) (front ++ bytes))
        (sym (with_row_of here (ends AtEnd) is)) (
          [],
          subst (λ (t : List ℕ). Begins s (map text_of (fields ++ last ∷ [])) [] t [])
              (append-nil (front ++ bytes))
              (begins whole [] [] [] is (inr (refl, refl))),
          refl,
        )

    pub at_end_back : IsWhole s fit bytes → SpelledSo (after_field here at) (front ++ bytes)
    at_end_back whole = at_end_tests whole (is_empty here) (row == 1) refl

    module _ (b : ℕ) (rest : List ℕ) (behind : Behind (at + 1) rest) where
      pub took :
          (p : Part) → turned part ≡ [] → turned p ≡ [] → AtFeed p rest → PartIs s fit p (bytes ++ b ∷ [])
          → SpelledSo (read s (in_field row start fields from (bytes ++ b ∷ []) p) (at + 1) rest)
          ((front ++ bytes) ++ (b ∷ rest))
      took p none also feed is ending =
          let more : List ℕ = bytes ++ b ∷ [] in
          let next : Stands s fit start fields from more p (at + 1) front = record {
            before = stands.before;
            part_is = is;
            place = omega (
              arith,
              stands.place,
              length-append front bytes,
              length-append front more,
              length-append bytes (b ∷ []),
            );
            here = omega (arith, stands.here, ap length none, ap length also, length-append bytes (b ∷ []));
          } in
          let regroup : (front ++ more) ++ (turned p ++ rest) ≡ (front ++ bytes) ++ (b ∷ rest) =
          ap (λ (t : List ℕ). (front ++ more) ++ (t ++ rest)) also
          ∙ (ap (λ (l : List ℕ). l ++ rest) (sym (append_assoc front bytes (b ∷ [])))
          ∙ append_assoc (front ++ bytes) (b ∷ []) rest) in
          subst (Spelled s (texts_of (read s (in_field row start fields from more p) (at + 1) rest).rows))
          regroup
          (behind row start fields from more p front next feed ending)

      pub parted :
          b ≡ s → turned part ≡ [] → IsWhole s fit bytes
          → SpelledSo (read s (in_field row start (fields ++ last ∷ []) (at + 1) [] Front) (at + 1) rest)
          ((front ++ bytes) ++ (b ∷ rest))
      parted is none whole ending =
          let longer : List ℕ = (front ++ bytes) ++ b ∷ [] in
          let next : Stands s fit start (fields ++ last ∷ []) (at + 1) [] Front (at + 1) longer = record {
            before = λ more text are.
                let texts :
                map text_of fields ++ (field_text bytes ∷ more)
                ≡ map text_of (fields ++ last ∷ []) ++ more =
                sym (append_assoc (map text_of fields) (field_text bytes ∷ []) more)
                ∙ ap (λ (ts : List (List ℕ)). ts ++ more) (sym (map_push text_of fields last)) in
                let spelling : front ++ (bytes ++ s ∷ text) ≡ longer ++ text =
                sym (append_assoc front bytes (s ∷ text))
                ∙ (sym (append_assoc (front ++ bytes) (s ∷ []) text)
                ∙ ap (λ (n : ℕ). ((front ++ bytes) ++ n ∷ []) ++ text) (sym is)) in
                subst (λ (ts : List (List ℕ)). AreFields s ts (longer ++ text)) texts
                (subst (AreFields s (map text_of fields ++ (field_text bytes ∷ more))) spelling
                (stands.before (field_text bytes ∷ more) (bytes ++ s ∷ text)
                (with_first s fit (field_text bytes) bytes more text whole are)));
            part_is = refl;
            place = omega (
              arith,
              stands.place,
              stands.here,
              ap length none,
              length-append longer [],
              length-append (front ++ bytes) (b ∷ []),
            );
            here = omega arith;
          } in
          let regroup : (longer ++ []) ++ rest ≡ (front ++ bytes) ++ (b ∷ rest) =
          ap (λ (l : List ℕ). l ++ rest) (append-nil longer) ∙ append_assoc (front ++ bytes) (b ∷ []) rest in
          subst (Spelled s (texts_of
          (read s (in_field row start (fields ++ last ∷ []) (at + 1) [] Front) (at + 1) rest).rows))
          regroup (behind row start (fields ++ last ∷ []) (at + 1) [] Front longer next tt ending)

      abbrev pub below : Reading
      below = read s (first_field (next_count row) (at + 1)) (at + 1) rest

      ended_tests :
          b ≡ 10 → IsWhole s fit bytes → (empty : Bool) → is_empty here ≡ empty
          → SpelledSo (with_record here below) ((front ++ bytes) ++ (turned part ++ (b ∷ rest)))
      ended_tests is whole true empty ending =
          let refused : with_record here below
          ≡ ends (AtFault (record { kind = EmptyLine; at = start; row = row; column = 1 })) = rw empty refl in
          let at_fault = sym (ap (λ (r : Reading). r.ending) refused) ∙ ending in cc
      ended_tests is whole false some ending =
          let joined = with_row_of here below some in
          let end : List ℕ = turned part ++ b ∷ [] in
          let text : (front ++ bytes) ++ (end ++ rest) ≡ (front ++ bytes) ++ (turned part ++ (b ∷ rest)) =
          ap (λ (l : List ℕ). (front ++ bytes) ++ l) (append_assoc (turned part) (b ∷ []) rest) in
          subst
          (λ (r : Reading). Spelled s (texts_of r.rows) ((front ++ bytes) ++ (turned part ++ (b ∷ rest))))
          (sym joined) (
            rest,
            subst (λ (t : List ℕ). Begins s (map text_of (fields ++ last ∷ [])) (texts_of below.rows) t rest)
                text
                (begins whole (texts_of below.rows) end rest some (inl (line_end part b is))),
            behind (next_count row) (at + 1) [] (at + 1) [] Front [] (first_stands (at + 1)) tt
                (sym (ap (λ (r : Reading). r.ending) joined) ∙ ending),
          )

      pub ended :
          b ≡ 10 → IsWhole s fit bytes
          → SpelledSo (with_record here below) ((front ++ bytes) ++ (turned part ++ (b ∷ rest)))
      ended is whole = ended_tests is whole (is_empty here) refl

      pub returned :
          b ≡ 13 → begins_with_feed rest ≡ true → turned part ≡ [] → IsWhole s fit bytes
          → SpelledSo (read s (in_field row start fields from bytes Return) (at + 1) rest)
          ((front ++ bytes) ++ (b ∷ rest))
      returned is feed none whole ending =
          let next : Stands s fit start fields from bytes Return (at + 1) front = record {
            before = stands.before;
            part_is = whole;
            place = stands.place;
            here = omega (arith, stands.here, ap length none);
          } in
          subst (λ (n : ℕ). Spelled s
          (texts_of (read s (in_field row start fields from bytes Return) (at + 1) rest).rows)
          ((front ++ bytes) ++ (n ∷ rest))) (sym is)
          (behind row start fields from bytes Return front next feed ending)
