-- A text whose orders are written from ballots.
use Rattle.std.proofs.Common.{◌≡◌, ℕ, ◌+◌, ◌^◌, ◌<◌, ◌≤◌, true, false, cond, eqb, not, List, [], ◌∷◌, ◌++◌}
use Rattle.std.proofs.Common.{length, map, take, replicate, Option, Some, None, All, refl, ap, sym, ◌∙◌, subst, arith}
use Rattle.std.specs.List.{enumerate_from, join_with_byte, position, position_or_len, slice_get, sum_by}
use Rattle.std.specs.Option.{option_and_then, option_map}
use Rattle.std.specs.Prelude.{decimal, nat_lt}
use Rattle.std.proofs.lemmas.Bool.Decides.{nat_tests}
use Rattle.std.proofs.lemmas.List.{append_assoc, length-append, length_push, take_at}
use Rattle.std.proofs.lemmas.List.Elements.{All-append, All-cons, All-head, All-nil, All-tail, All-weaker}
use Rattle.std.proofs.lemmas.List.Sums.{sum_by_push, sum_by-cons}
use Rattle.plain_ballots.specs.Ballots.{ballot_count, plain}
use Rattle.plain_ballots.specs.Ranking.{IsRanking}
use Rattle.plain_ballots.specs.declared.ballot_line.BallotLine.{BallotLine}
use Rattle.plain_ballots.specs.declared.limits.TheConstants.{MOST_CANDIDATES, MOST_BALLOTS}
use Rattle.ballot_marks.specs.Laws.{PlainMarksAreRanked}
use Rattle.ballot_marks.specs.Marks.{plain_mark}
use Rattle.ballot_marks.specs.declared.choice.Treat.{Treat}
use Rattle.preflib_text.specs.declared.pref_fault.PrefFault.{PrefFault}
use Rattle.preflib_text.specs.declared.pref_kind.PrefKind.TheVariants.{BadByte, EmptyLine}
use Rattle.preflib_text.specs.Ballots.{ballots, plain_of, room_behind, treating}
use Rattle.preflib_text.specs.Faults.{Line, in_line}
use Rattle.preflib_text.specs.Items.{Order, count_of, items, marks_of, order_of}
use Rattle.preflib_text.specs.Lines.{form_fault, is_control}
use Rattle.preflib_text.specs.Refusals.{parts_fault}
use Rattle.preflib_text.specs.Standing.{read, starting}
use Rattle.preflib_text.specs.Parts.{parts}
use Rattle.preflib_text.specs.Texts.{is_digit}
use Rattle.preflib_text.specs.Written.{RanksSomebody, order_line}
use Rattle.preflib_text.proofs.NumberLemmas.{written}
use Rattle.preflib_text.proofs.Options.{IsNothing, joined, none_or}
use Rattle.preflib_text.proofs.ReadItems.{order_read}
use Rattle.preflib_text.proofs.StandLemmas.{read_sound}
use Rattle.preflib_text.proofs.WrittenLines.{line_read}

-- ---- the bytes of an order

abbrev pub IsPrinted : ℕ → Type 0
IsPrinted b = is_control b ≡ false

digit_printed : (b : ℕ) → is_digit b ≡ true → IsPrinted b
digit_printed b is = grind (arith, nat_tests)

decimal_printed : (n : ℕ) → n < 2 ^ 64 → All IsPrinted (decimal n)
decimal_printed n small = All-weaker (λ b. is_digit b ≡ true) IsPrinted digit_printed (decimal n) (written n small).each

list_printed : (ranks : List ℕ) → All (λ c. c < 2 ^ 64) ranks → All IsPrinted (join_with_byte 44 (map decimal ranks))
list_printed [] small = All-nil IsPrinted
list_printed (c ∷ []) small = decimal_printed c (All-head (λ c. c < 2 ^ 64) c [] small)
list_printed (c ∷ d ∷ ranks) small =
    All-append IsPrinted (decimal c) (44 ∷ join_with_byte 44 (map decimal (d ∷ ranks)))
    (decimal_printed c (All-head (λ c. c < 2 ^ 64) c (d ∷ ranks) small))
    (All-cons IsPrinted 44 (join_with_byte 44 (map decimal (d ∷ ranks))) refl
    (list_printed (d ∷ ranks) (All-tail (λ c. c < 2 ^ 64) c (d ∷ ranks) small)))

all_pass : (bs : List ℕ) → All IsPrinted bs → position_or_len is_control bs ≡ length bs
all_pass [] all = refl
all_pass (b ∷ bs) all =
    let more = all_pass bs (All-tail IsPrinted b bs all) in
    ap (λ t. cond (not t) (1 + position_or_len is_control bs) 0) (All-head IsPrinted b bs all) ∙ omega (arith, more)

none_past : (n : ℕ) → nat_lt n n ≡ false
none_past n = grind (arith, nat_tests)

no_control : (bs : List ℕ) → All IsPrinted bs → position is_control bs ≡ None
no_control bs all =
    ap (λ k. cond (nat_lt k (length bs)) (Some k) None) (all_pass bs all)
    ∙ ap (λ t. cond t (Some (length bs)) None) (none_past (length bs))

some_bytes : (n : ℕ) → 0 < n → eqb n 0 ≡ false
some_bytes n some = grind (arith, nat_tests)

-- a line of printed bytes has a sound form
sound_form : (line : Line) → 0 < length line.bytes → All IsPrinted line.bytes → form_fault line ≡ None
sound_form line some all =
    ap (λ t. cond t (Some (in_line line EmptyLine 0)) (option_map (in_line line BadByte) (position is_control line.bytes)))
    (some_bytes (length line.bytes) some)
    ∙ ap (option_map (in_line line BadByte)) (no_control line.bytes all)

-- ---- a line that is an order's

-- an order of n candidates
pub record IsOrder (n : ℕ) (order : BallotLine) : Type 0 where
  pub ranking : IsRanking n order.ranking
  pub counted : 1 ≤ order.count
  pub somebody : RanksSomebody order

pub order_printed : (n : ℕ) (order : BallotLine) → n ≤ MOST_CANDIDATES → order.count ≤ MOST_BALLOTS → IsOrder n order
    → All IsPrinted (order_line order)
order_printed n order few most is =
    let rest = join_with_byte 44 (map decimal order.ranking) in
    All-append IsPrinted (decimal order.count) (58 ∷ 32 ∷ rest) (decimal_printed order.count (omega (arith, most)))
    (All-cons IsPrinted 58 (32 ∷ rest) refl (All-cons IsPrinted 32 rest refl
    (list_printed order.ranking
    (All-weaker (λ c. (1 ≤ c) × (c ≤ n)) (λ c. c < 2 ^ 64) (λ c one. omega (arith, one.1, few)) order.ranking
    is.ranking.numbers))))

module _ (n : ℕ) (few : n ≤ MOST_CANDIDATES) (line : Line) (order : BallotLine) (bytes_are : line.bytes ≡ order_line order)
    (is : IsOrder n order)
  where
    pub form_sound : order.count ≤ MOST_BALLOTS → form_fault line ≡ None
    form_sound most =
        let long = length-append (decimal order.count) (58 ∷ 32 ∷ join_with_byte 44 (map decimal order.ranking)) in
        sound_form line (omega (arith, ap length bytes_are, long, (written order.count (omega (arith, most))).some))
        (subst (All IsPrinted) (sym bytes_are) (order_printed n order few most is))

    -- what a line says that has room
    pub record IsOrderLine (room : ℕ) : Type 0 where
      pub sound : parts_fault room n line ≡ None
      pub order_is : order_of line ≡ record { count = order.count; marks = map plain_mark order.ranking }

    pub order_line_is : (room : ℕ) → room ≤ MOST_BALLOTS → order.count ≤ room → IsOrderLine room
    order_line_is room most high =
        let reads = line_read room n order few most is.counted high is.ranking is.somebody in
        let read_is = ap (λ bs. read room (starting n) (parts bs)) bytes_are ∙ reads.read_is in
        let whole = order_read room line n reads.last read_is in
        let count : count_of line ≡ order.count = sym whole.count_is ∙ reads.count_is in
        let marks : marks_of (items line) ≡ map plain_mark order.ranking = sym whole.marks_are ∙ reads.marks_are in
        record {
          sound = none_or (form_fault line) _ (form_sound (omega (arith, most, high)))
              (read_sound line room n reads.last read_is);
          order_is = (λ i. record { count = count i; marks = marks i });
        }

-- ---- all lines

abbrev pub bytes_of : List Line → List (List ℕ)
bytes_of lines = map (λ line. line.bytes) lines

-- no order counts more than all do
pub each_few : (order : BallotLine) (orders : List BallotLine) (most : ℕ) → ballot_count (order ∷ orders) ≤ most
    → (order.count ≤ most) × (ballot_count orders ≤ most)
each_few order orders most few =
    let all = sum_by-cons (λ (o : BallotLine). o.count) order orders in (omega (arith, all), omega (arith, all))

module _ (n : ℕ) (few : n ≤ MOST_CANDIDATES) where
  -- the order that a line is
  one_order : (l : Line) (o : BallotLine) → l.bytes ≡ order_line o → IsOrder n o → o.count ≤ MOST_BALLOTS
      → order_of l ≡ record { count = o.count; marks = map plain_mark o.ranking }
  one_order l o is sound most = (order_line_is n few l o is sound MOST_BALLOTS (omega arith) most).order_is

  one_count : (l : Line) (o : BallotLine) → l.bytes ≡ order_line o → IsOrder n o → o.count ≤ MOST_BALLOTS
      → count_of l ≡ o.count
  one_count l o is sound most = ap (λ (order : Order). order.count) (one_order l o is sound most)

  -- so many ballots
  pub total_is : (lines : List Line) (orders : List BallotLine) → bytes_of lines ≡ map order_line orders
      → All (IsOrder n) orders → ballot_count orders ≤ MOST_BALLOTS → sum_by count_of lines ≡ ballot_count orders
  total_is [] [] is all most = refl
  total_is [] (o ∷ os) is all most = absurd (cc is)
  total_is (l ∷ ls) [] is all most = absurd (cc is)
  total_is (l ∷ ls) (o ∷ os) is all most =
      let few = each_few o os MOST_BALLOTS most in
      let first = one_count l o (cc is) (All-head (IsOrder n) o os all) few.0 in
      let more = total_is ls os (cc is) (All-tail (IsOrder n) o os all) few.1 in
      sum_by-cons count_of l ls ∙ omega (arith, first, more) ∙ sym (sum_by-cons (λ (o : BallotLine). o.count) o os)

  -- just these ballots
  pub ballots_are : PlainMarksAreRanked → (equal : Treat) (lines : List Line) (orders : List BallotLine)
      → bytes_of lines ≡ map order_line orders → All (IsOrder n) orders → ballot_count orders ≤ MOST_BALLOTS
      → ballots equal (map order_of lines) ≡ Some (plain orders)
  ballots_are plain_ranked equal [] [] is all most = refl
  ballots_are plain_ranked equal [] (o ∷ os) is all most = absurd (cc is)
  ballots_are plain_ranked equal (l ∷ ls) [] is all most = absurd (cc is)
  ballots_are plain_ranked equal (l ∷ ls) (o ∷ os) is all most =
      let few = each_few o os MOST_BALLOTS most in
      let sound = All-head (IsOrder n) o os all in
      let own : plain_of equal (order_of l) ≡ Some (replicate o.count o.ranking) =
      ap (plain_of equal) (one_order l o (cc is) sound few.0)
      ∙ ap (option_map (replicate o.count)) (plain_ranked (treating equal) o.ranking sound.ranking.different) in
      ap (λ first. joined first (ballots equal (map order_of ls))) own
      ∙ ap (joined (Some (replicate o.count o.ranking)))
      (ballots_are plain_ranked equal ls os (cc is) (All-tail (IsOrder n) o os all) few.1)

  abbrev faults_from : List Line → ℕ → List Line → List (Option PrefFault)
  faults_from all i rest =
      map (λ (r : ℕ × Line). parts_fault r.0 n r.1)
      (map (λ (at : ℕ × Line). (room_behind (take at.0 all), at.1)) (enumerate_from i rest))

  -- and none of the lines has a fault
  pub lines_sound : (rest : List Line) (orders : List BallotLine) (before all : List Line) → all ≡ before ++ rest
      → bytes_of rest ≡ map order_line orders → All (IsOrder n) orders
      → sum_by count_of before + ballot_count orders ≤ MOST_BALLOTS → All IsNothing (faults_from all (length before) rest)
  lines_sound [] orders before all parts is sound most = All-nil IsNothing
  lines_sound (l ∷ ls) [] before all parts is sound most = absurd (cc is)
  lines_sound (l ∷ ls) (o ∷ os) before all parts is sound most =
      let front : take (length before) all ≡ before =
      ap (take (length before)) parts ∙ take_at before (l ∷ ls) (length before) refl in
      let first = All-head (IsOrder n) o os sound in
      let count = sum_by-cons (λ (o : BallotLine). o.count) o os in
      let room : o.count ≤ room_behind before = omega (arith, count, most) in
      let small : room_behind before ≤ MOST_BALLOTS = omega arith in
      let counts = one_count l o (cc is) first (omega (arith, count, most)) in
      let fits : sum_by count_of (before ++ l ∷ []) + ballot_count os ≤ MOST_BALLOTS =
      omega (arith, sum_by_push count_of before l, counts, count, most) in
      All-cons IsNothing (parts_fault (room_behind (take (length before) all)) n l) (faults_from all (length before + 1) ls)
      (ap (λ xs. parts_fault (room_behind xs) n l) front
      ∙ (order_line_is n few l o (cc is) first (room_behind before) small room).sound)
      (subst (λ k. All IsNothing (faults_from all k ls)) (length_push before l)
      (lines_sound ls os (before ++ l ∷ []) all (parts ∙ sym (append_assoc before (l ∷ []) ls)) (cc is)
      (All-tail (IsOrder n) o os sound) fits))

  -- the first line has a sound form
  pub first_sound : (lines : List Line) (orders : List BallotLine) → bytes_of lines ≡ map order_line orders
      → All (IsOrder n) orders → ballot_count orders ≤ MOST_BALLOTS
      → option_and_then form_fault (slice_get lines 0) ≡ None
  first_sound [] orders is all most = refl
  first_sound (l ∷ ls) [] is all most = absurd (cc is)
  first_sound (l ∷ ls) (o ∷ os) is all most =
      form_sound n few l o (cc is) (All-head (IsOrder n) o os all) (each_few o os MOST_BALLOTS most).0
