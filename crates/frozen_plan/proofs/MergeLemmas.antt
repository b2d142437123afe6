-- Equal lines made one.
use Rattle.std.proofs.Common.{◌≡◌, ℕ, ◌+◌, ◌≤◌, ◌<◌, List, [], ◌∷◌, ◌++◌, All, length, take, drop, get_or}
use Rattle.std.proofs.Common.{set, replicate, arith, refl, ap, sym, ◌∙◌, subst, append_assoc}
use Rattle.std.proofs.lemmas.Grind.{flat_map-append}
use Rattle.std.proofs.lemmas.List.{append-nil, length_push, get_or_push, get_or_append_left, get_or-drop}
use Rattle.std.proofs.lemmas.List.{replicate-append-replicate, take_more, take_more_set, drop-drop}
use Rattle.std.proofs.lemmas.List.{drop-set-lt, length-set}
use Rattle.std.proofs.lemmas.List.Elements.{All-push, All-take}
use Rattle.std.proofs.lemmas.List.Sums.{sum_by-cons, sum_by-append, sum_by-take-le}
use Rattle.packed_ballots.specs.declared.packed_line.PackedLine.{PackedLine}
use Rattle.packed_ballots.specs.Packed.{rank_of, rest_of, rests, line_count, front_of, IsKept, IsPacked}
use Rattle.frozen_plan.proofs.RunLemmas.{nothing, rest_none, length-rests}

-- ---- equal rankings

-- and where both end, they are equal
pub same_end :
    (bytes : List ℕ) (at : ℕ) (one other : PackedLine) → rank_of bytes at one ≡ 0 → rank_of bytes at other ≡ 0
    → rest_of bytes at one ≡ rest_of bytes at other
same_end bytes at one other here there = rest_none bytes at one here ∙ sym (rest_none bytes at other there)

-- ---- ballots

pub rests_push :
    (bytes : List ℕ) (lines : List PackedLine) (line : PackedLine)
    → rests bytes 0 (lines ++ line ∷ []) ≡ rests bytes 0 lines ++ replicate line.count (rest_of bytes 0 line)
rests_push bytes lines line =
    let own : PackedLine → List (List ℕ) = λ l. replicate l.count (rest_of bytes 0 l) in
    flat_map-append own lines (line ∷ []) ∙ ap (λ (l : List (List ℕ)). rests bytes 0 lines ++ l) (append-nil (own line))

-- an equal line has its ballots after those of the line that it is put to
rests_both : (bytes : List ℕ) (lines : List PackedLine) (last line : PackedLine) → rest_of bytes 0 last ≡ rest_of bytes 0 line
    → rests bytes 0
    (lines ++ record { front = last.front; start = last.start; count = last.count + line.count } ∷ [])
    ≡ rests bytes 0 (lines ++ last ∷ []) ++ replicate line.count (rest_of bytes 0 line)
rests_both bytes lines last line same =
    let r = rest_of bytes 0 last in
    let before = rests bytes 0 lines in
    rests_push bytes lines (record { front = last.front; start = last.start; count = last.count + line.count })
    ∙ (ap (λ (l : List (List ℕ)). before ++ l) (sym (replicate-append-replicate last.count line.count r))
    ∙ (sym (append_assoc before (replicate last.count r) (replicate line.count r))
    ∙ (ap (λ (l : List (List ℕ)). l ++ replicate line.count r) (sym (rests_push bytes lines last))
    ∙ ap (λ (q : List ℕ). rests bytes 0 (lines ++ last ∷ []) ++ replicate line.count q) same)))

-- ---- sound lines

All-front : (P : PackedLine → Type 0) (lines : List PackedLine) (last : PackedLine) → All P (lines ++ last ∷ []) → All P lines
All-front P lines last all k d inside =
    subst P (get_or_append_left lines (last ∷ []) d k inside) (all k d (omega (arith, inside, length_push lines last)))

All-last : (P : PackedLine → Type 0) (lines : List PackedLine) (last : PackedLine) → All P (lines ++ last ∷ []) → P last
All-last P lines last all =
    subst P (get_or_push lines last last (length lines) refl)
    (all (length lines) last (omega (arith, length_push lines last)))

-- the last of lines that a property has may be another one with it
All-other_last :
    (P : PackedLine → Type 0) (lines : List PackedLine) (last line : PackedLine) → (P last → P line)
    → All P (lines ++ last ∷ []) → All P (lines ++ line ∷ [])
All-other_last P lines last line more all =
    All-push P lines line (All-front P lines last all) (more (All-last P lines last all))

-- the last line may have more ballots
share_both : (n : ℕ) (bytes : List ℕ) (lines : List PackedLine) (last : PackedLine) (more : ℕ)
    → IsPacked n bytes (lines ++ last ∷ [])
    → IsPacked n bytes
    (lines ++ record { front = last.front; start = last.start; count = last.count + more } ∷ [])
share_both n bytes lines last more is =
    let line : PackedLine = record { front = last.front; start = last.start; count = last.count + more } in
    record {
      numbers = is.numbers;
      kept =
          All-other_last (IsKept bytes) lines last line
          (λ kept. record { front = kept.front; ended = kept.ended; inside = kept.inside }) is.kept;
      short = All-other_last (λ (l : PackedLine). length (rest_of bytes 0 l) ≤ 250) lines last line (λ short. short) is.short;
      counted = All-other_last (λ (l : PackedLine). 1 ≤ l.count) lines last line (λ some. omega (arith, some)) is.counted;
      fronts =
          All-other_last (λ (l : PackedLine). l.front ≡ front_of (rest_of bytes 0 l)) lines last line
          (λ front. front) is.fronts;
    }

-- and a further one of sound lines may come
pub share_more_lines : (n : ℕ) (bytes : List ℕ) (lines own : List PackedLine) (i : ℕ) → i < length lines
    → IsPacked n bytes lines → IsPacked n bytes own → IsPacked n bytes (own ++ get_or lines i nothing ∷ [])
share_more_lines n bytes lines own i inside all is =
    let line = get_or lines i nothing in
    record {
      numbers = is.numbers;
      kept = All-push (IsKept bytes) own line is.kept (all.kept i nothing inside);
      short = All-push (λ (l : PackedLine). length (rest_of bytes 0 l) ≤ 250) own line is.short (all.short i nothing inside);
      counted = All-push (λ (l : PackedLine). 1 ≤ l.count) own line is.counted (all.counted i nothing inside);
      fronts =
          All-push (λ (l : PackedLine). l.front ≡ front_of (rest_of bytes 0 l)) own line is.fronts
          (all.fronts i nothing inside);
    }

share_front : (n : ℕ) (bytes : List ℕ) (lines : List PackedLine) (k : ℕ) → IsPacked n bytes lines → IsPacked n bytes (take k lines)
share_front n bytes lines k is = record {
  numbers = is.numbers;
  kept = All-take (IsKept bytes) k lines is.kept;
  short = All-take (λ (l : PackedLine). length (rest_of bytes 0 l) ≤ 250) k lines is.short;
  counted = All-take (λ (l : PackedLine). 1 ≤ l.count) k lines is.counted;
  fronts = All-take (λ (l : PackedLine). l.front ≡ front_of (rest_of bytes 0 l)) k lines is.fronts;
}

-- ---- line by line

-- The lines up to the last one have the ballots of the first `i` lines, and those from there on are left.
pub record AreMerged (bytes : List ℕ) (old now : List PackedLine) (i last : ℕ) : Type 0 where
  pub as_many : length now ≡ length old
  pub before : last < i
  pub left : drop i now ≡ drop i old
  pub ballots : rests bytes 0 (take (last + 1) now) ≡ rests bytes 0 (take i old)
  pub sound : (n : ℕ) → IsPacked n bytes old → IsPacked n bytes (take (last + 1) now)

pub first_merged : (bytes : List ℕ) (lines : List PackedLine) → AreMerged bytes lines lines 1 0
first_merged bytes lines =
    record {
      as_many = refl;
      before = omega arith;
      left = refl;
      ballots = refl;
      sound = λ n is. share_front n bytes lines 1 is;
    }

-- the next line is as it was
same_line : (now old : List PackedLine) (i : ℕ) → drop i now ≡ drop i old → get_or now i nothing ≡ get_or old i nothing
same_line now old i left =
    let here : i ≡ i + 0 = omega arith in
    ap (λ (k : ℕ). get_or now k nothing) here
    ∙ (sym (get_or-drop i now 0 nothing)
    ∙ (ap (λ (l : List PackedLine). get_or l 0 nothing) left
    ∙ (get_or-drop i old 0 nothing ∙ ap (λ (k : ℕ). get_or old k nothing) (sym here))))

one_less_left : (now old : List PackedLine) (i : ℕ) → drop i now ≡ drop i old → drop (i + 1) now ≡ drop (i + 1) old
one_less_left now old i left = sym (drop-drop 1 i now) ∙ (ap (drop 1) left ∙ drop-drop 1 i old)

module _ (bytes : List ℕ) (old now : List PackedLine) (i last : ℕ) (so_far : AreMerged bytes old now i last)
    (inside : i < length now) where
  abbrev pub one : PackedLine
  one = get_or now last nothing

  abbrev pub line : PackedLine
  line = get_or now i nothing

  abbrev own : List (List ℕ)
  own = replicate line.count (rest_of bytes 0 line)

  within : last + 1 < length now
  within = omega (arith, so_far.before, inside)

  among : i < length old
  among = omega (arith, so_far.as_many, inside)

  passed : take (i + 1) old ≡ take i old ++ line ∷ []
  passed = take_more old i nothing among ∙ ap (λ (l : PackedLine). take i old ++ l ∷ []) (sym (same_line now old i so_far.left))

  front : take (last + 1) now ≡ take last now ++ one ∷ []
  front = take_more now last nothing (omega (arith, within))

  -- the ballots of the line come after the others
  with_line : rests bytes 0 (take (last + 1) now) ++ own ≡ rests bytes 0 (take (i + 1) old)
  with_line =
      ap (λ (l : List (List ℕ)). l ++ own) so_far.ballots
      ∙ (sym (rests_push bytes (take i old) line) ∙ ap (rests bytes 0) (sym passed))

  pub merged_same : rest_of bytes 0 one ≡ rest_of bytes 0 line
      → AreMerged bytes old
      (set now last (record { front = one.front; start = one.start; count = one.count + line.count }))
      (i + 1) last
  merged_same same =
      let both : PackedLine = record { front = one.front; start = one.start; count = one.count + line.count } in
      let is : take (last + 1) (set now last both) ≡ take last now ++ both ∷ [] =
      take_more_set now last both (omega (arith, within)) in
      record {
        as_many = length-set now last both ∙ so_far.as_many;
        before = omega (arith, so_far.before);
        left = drop-set-lt (i + 1) now last both (omega (arith, so_far.before)) ∙ one_less_left now old i so_far.left;
        ballots =
            ap (rests bytes 0) is
            ∙ (rests_both bytes (take last now) one line same
            ∙ (ap (λ (l : List PackedLine). rests bytes 0 l ++ own) (sym front) ∙ with_line));
        sound =
            λ n all. subst (IsPacked n bytes) (sym is) (share_both n bytes (take last now) one line.count
            (subst (IsPacked n bytes) front (so_far.sound n all)));
      }

  pub merged_other : AreMerged bytes old (set now (last + 1) line) (i + 1) (last + 1)
  merged_other =
      let is : take (last + 1 + 1) (set now (last + 1) line) ≡ take (last + 1) now ++ line ∷ [] =
      take_more_set now (last + 1) line within in
      record {
        as_many = length-set now (last + 1) line ∙ so_far.as_many;
        before = omega (arith, so_far.before);
        left = drop-set-lt (i + 1) now (last + 1) line (omega (arith, so_far.before)) ∙ one_less_left now old i so_far.left;
        ballots = ap (rests bytes 0) is ∙ (rests_push bytes (take (last + 1) now) line ∙ with_line);
        sound = λ n all. subst (IsPacked n bytes) (sym is)
            (subst (λ (l : PackedLine). IsPacked n bytes (take (last + 1) now ++ l ∷ [])) (sym (same_line now old i so_far.left))
            (share_more_lines n bytes old (take (last + 1) now) i among all (so_far.sound n all)));
      }

  -- both lines have no more ballots than all
  pub both_few : one.count + line.count ≤ line_count old
  both_few =
      let count : PackedLine → ℕ = λ l. l.count in
      omega (
        arith,
        ap line_count front,
        sum_by-append count (take last now) (one ∷ []),
        sum_by-cons count one [],
        ap length so_far.ballots,
        length-rests bytes 0 (take (last + 1) now),
        length-rests bytes 0 (take i old),
        ap line_count passed,
        sum_by-append count (take i old) (line ∷ []),
        sum_by-cons count line [],
        sum_by-take-le count old (i + 1),
      )
