-- The marks of a whole order, as they are read.
use Rattle.std.proofs.Common.{◌≡◌, ℕ, zero, suc, ◌+◌, ◌≤◌, false, List, [], ◌∷◌, ◌++◌, map, take, drop, length, Option, Some, None, Ok}
use Rattle.std.proofs.Common.{refl, ap, sym, ◌∙◌, subst, arith}
use Rattle.std.specs.List.{filter_map, cons_option, range_with_len, slice_get}
use Rattle.std.specs.Option.{option_map, option_and_then, unwrap_or}
use Rattle.std.proofs.lemmas.List.{append-nil, append_assoc, map-append, drop_all}
use Rattle.preflib_text.specs.declared.expected.Expected.{Expected}
use Rattle.preflib_text.specs.declared.expected.Expected.TheVariants.{Count, BehindCount, Item as AtItem, BehindItem}
use Rattle.preflib_text.specs.Faults.{Line}
use Rattle.preflib_text.specs.Items.{Item, items, count_of, marks_of}
use Rattle.preflib_text.specs.Orders.{number_in, count_fault, part_fault}
use Rattle.preflib_text.specs.Parts.{Part, Number, Colon, End, Placed, part_between, part_at, parts}
use Rattle.preflib_text.specs.Standing.{Stand, starting, next, next_by, standing_fault, unless_misplaced, read}
use Rattle.preflib_text.proofs.ItemLemmas.{items_with, items_from, Fits, left, gained, left_next, fits_next}
use Rattle.preflib_text.proofs.ItemLemmas.{marks_next, places_next, count_next, end_next}

abbrev ats : List Item → List ℕ
ats items = map (λ item. item.at) items

-- parts that end with the line's end; where none is left, it was taken
abbrev Ends : Expected → List Placed → Type 0
Ends e [] = e ≡ BehindItem
Ends e (p ∷ []) = p.part ≡ End
Ends e (p ∷ q ∷ ps) = Ends e (q ∷ ps)

ends_any : (e f : Expected) (p : Placed) (ps : List Placed) → Ends e (p ∷ ps) → Ends f (p ∷ ps)
ends_any e f p [] ends = ends
ends_any e f p (q ∷ ps) ends = ends_any e f q ps ends

ends_push : (e : Expected) (xs : List Placed) (p : Placed) → p.part ≡ End → Ends e (xs ++ p ∷ [])
ends_push e [] p is = is
ends_push e (x ∷ []) p is = is
ends_push e (x ∷ y ∷ xs) p is = ends_push e (y ∷ xs) p is

-- ---- all parts of a line

range_push : (a n : ℕ) → range_with_len a (suc n) ≡ range_with_len a n ++ (a + n) ∷ []
range_push a zero = ap (λ k. k ∷ []) (omega arith)
range_push a (suc n) =
    ap (λ rest. a ∷ rest) (range_push (a + 1) n ∙ ap (λ k. range_with_len (a + 1) n ++ k ∷ []) (omega arith))

put : {Y : Type 0} (o : Option Y) (some other : List Y) (y : Y) → some ≡ other ++ y ∷ []
    → cons_option o some ≡ cons_option o other ++ y ∷ []
put None some other y is = is
put (Some z) some other y is = ap (λ rest. z ∷ rest) is

filter_push : {X Y : Type 0} (h : X → Option Y) (xs : List X) (x : X) (y : Y) → h x ≡ Some y
    → filter_map h (xs ++ x ∷ []) ≡ filter_map h xs ++ y ∷ []
filter_push h [] x y is = ap (λ o. cons_option o []) is
filter_push h (z ∷ xs) x y is = put (h z) _ _ y (filter_push h xs x y is)

parts_end : (bytes : List ℕ) → Ends Count (parts bytes)
parts_end bytes =
    let n = length bytes in
    let same : 0 + n ≡ n = omega arith in
    let more : n + 1 ≡ suc n = omega arith in
    let last : part_at bytes (0 + n) ≡ Some (record { at = n; part = End }) =
    ap (part_at bytes) same
    ∙ ap (λ rest. option_map (λ part. record { at = n; part = part }) (part_between (take n bytes) rest))
    (drop_all n bytes (omega arith)) in
    let all : parts bytes ≡ filter_map (part_at bytes) (range_with_len 0 n) ++ record { at = n; part = End } ∷ [] =
    ap (λ k. filter_map (part_at bytes) (range_with_len 0 k)) more
    ∙ ap (filter_map (part_at bytes)) (range_push 0 n)
    ∙ filter_push (part_at bytes) (range_with_len 0 n) (0 + n) _ last in
    subst (Ends Count) (sym all) (ends_push Count (filter_map (part_at bytes) (range_with_len 0 n)) (record { at = n; part = End }) refl)

-- ---- what is read

-- what is read after a stand: these items, and no other count
record IsRead (s t : Stand) (items : List Item) : Type 0 where
  marks_are : t.marks ≡ s.marks ++ marks_of items
  places_are : t.places ≡ s.places ++ ats items
  count_is : t.count ≡ s.count

module _ (room : ℕ) where
  -- one part of an order that is read to its end
  pub read_step : (s t : Stand) (p : Placed) (ps : List Placed) → read room s (p ∷ ps) ≡ Ok t
      → (standing_fault room s p.part ≡ None) × (read room (next s p.at p.part) ps ≡ Ok t)
  read_step s t p ps is =
      (elim (standing_fault room s p.part)
      as (λ o. standing_fault room s p.part ≡ o
      → unless_misplaced o p.at (read room (next s p.at p.part) ps) ≡ Ok t
      → (standing_fault room s p.part ≡ None) × (read room (next s p.at p.part) ps ≡ Ok t)) [
        | None ↦ λ sound rest. (sound, rest)
        | Some kind ↦ λ fault other. absurd (cc other)
      ]) refl is

  ends_next : (s : Stand) (p : Placed) (ps : List Placed) → Ends s.expected (p ∷ ps)
      → standing_fault room s p.part ≡ None → Ends (next s p.at p.part).expected ps
  ends_next s p [] ends sound =
      ap (λ part. (next_by s.expected s p.at part).expected) ends
      ∙ end_next room s.candidates s p.at [] s.expected refl
      (ap (part_fault room s.candidates s.listed s.expected) (sym ends) ∙ sound)
  ends_next s p (q ∷ ps) ends sound = ends_any s.expected (next s p.at p.part).expected q ps ends

  read_items : (ps : List Placed) (s t : Stand) → Fits s.expected s.braced → Ends s.expected ps
      → read room s ps ≡ Ok t → IsRead s t (left s.expected s ps)
  unfolding left items_with
  read_items [] s t fits ends is =
      let none : left s.expected s [] ≡ [] = ap (λ e. left e s []) ends in
      let same : t ≡ s = sym (cc is) in
      record {
        marks_are = ap (λ x. x.marks) same ∙ sym (append-nil s.marks) ∙ ap (λ xs. s.marks ++ marks_of xs) (sym none);
        places_are = ap (λ x. x.places) same ∙ sym (append-nil s.places) ∙ ap (λ xs. s.places ++ ats xs) (sym none);
        count_is = ap (λ x. x.count) same;
      }
  read_items (p ∷ ps) s t fits ends is =
      let step = read_step s t p ps is in
      let further = next s p.at p.part in
      let g = gained s.expected s p.at p.part in
      let others = left further.expected further ps in
      let joined = left_next room s.candidates s p.at ps s.expected p.part refl fits step.0 in
      let rest =
      read_items ps further t (fits_next room s.candidates s p.at ps s.expected p.part refl fits step.0)
      (ends_next s p ps ends step.0) step.1 in
      record {
        marks_are = rest.marks_are
            ∙ ap (λ xs. xs ++ marks_of others) (marks_next room s.candidates s p.at ps s.expected p.part)
            ∙ append_assoc s.marks (marks_of g) (marks_of others)
            ∙ ap (λ xs. s.marks ++ xs) (sym (map-append _ g others))
            ∙ ap (λ xs. s.marks ++ marks_of xs) (sym joined);
        places_are = rest.places_are
            ∙ ap (λ xs. xs ++ ats others) (places_next room s.candidates s p.at ps s.expected p.part)
            ∙ append_assoc s.places (ats g) (ats others)
            ∙ ap (λ xs. s.places ++ xs) (sym (map-append _ g others))
            ∙ ap (λ xs. s.places ++ ats xs) (sym joined);
        count_is = rest.count_is ∙ count_next room s.candidates s p.at ps s.expected p.part fits;
      }

  -- ---- the count and the colon

  count_bounds : (m : ℕ) → count_fault room m ≡ None → (1 ≤ m) × (m ≤ room)
  count_bounds m sound = grind arith

  first_part : (n : ℕ) (part : Part) → part_fault room n [] Count part ≡ None → (m : ℕ) × (part ≡ Number m)
  first_part n (Number m) sound = (m, refl)
  first_part n part sound = absurd (cc sound)

  second_part : (n : ℕ) (part : Part) → part_fault room n [] BehindCount part ≡ None → part ≡ Colon
  second_part n Colon sound = refl
  second_part n part sound = absurd (cc sound)

  abbrev first_count : List Placed → ℕ
  first_count ps = unwrap_or (option_and_then (λ p. number_in p.part) (slice_get ps 0)) 0

  -- an order that is read whole
  pub record IsOrder (t : Stand) (count : ℕ) (items : List Item) : Type 0 where
    pub marks_are : t.marks ≡ marks_of items
    pub places_are : t.places ≡ ats items
    pub count_is : t.count ≡ count
    pub bounded : (1 ≤ t.count) × (t.count ≤ room)

  abbrev behind_colon : (n m : ℕ) → Stand
  behind_colon n m = record (starting n) { expected = AtItem; count = m }

  ends_behind : (q : Placed) (ps : List Placed) → q.part ≡ Colon → Ends Count (q ∷ ps) → Ends AtItem ps
  ends_behind q [] colon ends = absurd (cc (colon, ends))
  ends_behind q (r ∷ ps) colon ends = ends_any Count AtItem r ps ends

  read_whole : (n : ℕ) (ps : List Placed) (t : Stand) → Ends Count ps → read room (starting n) ps ≡ Ok t
      → IsOrder t (first_count ps) (items_with false (drop 2 ps))
  unfolding items_with left
  read_whole n [] t ends is = absurd (cc ends)
  read_whole n (p ∷ []) t ends is =
      let step = read_step (starting n) t p [] is in
      let number = first_part n p.part step.0 in
      absurd (cc (number.1, ends))
  read_whole n (p ∷ q ∷ ps) t ends is =
      let one = read_step (starting n) t p (q ∷ ps) is in
      let number = first_part n p.part one.0 in
      let m = number.0 in
      let begun = record (starting n) { expected = BehindCount; count = m } in
      let counted : read room begun (q ∷ ps) ≡ Ok t =
      ap (λ part. read room (next (starting n) p.at part) (q ∷ ps)) (sym number.1) ∙ one.1 in
      let two = read_step begun t q ps counted in
      let colon = second_part n q.part two.0 in
      let rest : read room (behind_colon n m) ps ≡ Ok t =
      ap (λ part. read room (next begun q.at part) ps) (sym colon) ∙ two.1 in
      let done = read_items ps (behind_colon n m) t tt (ends_behind q ps colon ends) rest in
      record {
        marks_are = done.marks_are;
        places_are = done.places_are;
        count_is = done.count_is ∙ ap (λ part. unwrap_or (number_in part) 0) (sym number.1);
        bounded = subst (λ k. (1 ≤ k) × (k ≤ room)) (sym done.count_is)
            (count_bounds m (ap (part_fault room n [] Count) (sym number.1) ∙ one.0));
      }

  pub order_read : (line : Line) (n : ℕ) (t : Stand) → read room (starting n) (parts line.bytes) ≡ Ok t
      → IsOrder t (count_of line) (items line)
  order_read line n t is =
      let placed = drop 2 (parts line.bytes) in
      subst (IsOrder t (count_of line)) (sym (items_from placed [] placed refl))
      (read_whole n (parts line.bytes) t (parts_end line.bytes) is)
