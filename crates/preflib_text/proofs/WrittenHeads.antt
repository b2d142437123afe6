-- Orders that are written after metadata.
use Rattle.std.proofs.Common.{◌≡◌, ℕ, ◌+◌, ◌-◌, ◌<◌, ◌≤◌, Bool, true, false, cond, eqb, ◌&&◌, List, [], ◌∷◌, ◌++◌}
use Rattle.std.proofs.Common.{length, map, take, drop, Option, Some, None, All, refl, ap, sym, ◌∙◌, subst, arith}
use Rattle.std.specs.List.{join_with_byte, list_any, range_with_len, slice_get, slice_split, starts_with}
use lib.Pointwise.{pointwise}
use Rattle.std.specs.Option.{option_map_or}
use Rattle.std.specs.Prelude.{decimal, is_none, nat_eq}
use Rattle.std.proofs.lemmas.Bool.Decides.{nat_tests}
use Rattle.std.proofs.lemmas.List.{append-nil, append_assoc}
use Rattle.std.proofs.lemmas.List.Elements.{All-cons, All-drop, All-head, All-nil, All-tail, All-weaker}
use Rattle.std.proofs.lemmas.List.Splits.{slice_split_at}
use Rattle.std.proofs.lemmas.List.Sums.{take_while-cons}
use Rattle.plain_ballots.specs.Ballots.{ballot_count}
use Rattle.plain_ballots.specs.declared.ballot_line.BallotLine.{BallotLine}
use Rattle.plain_ballots.specs.declared.limits.TheConstants.{MOST_BALLOTS, MOST_CANDIDATES}
use Rattle.ballot_marks.specs.Laws.{PlainMarksAreRanked}
use Rattle.preflib_text.specs.declared.pref_fault.PrefFault.{PrefFault}
use Rattle.preflib_text.specs.declared.pref_kind.PrefKind.TheVariants.{BadHeader, NameExpected}
use Rattle.preflib_text.specs.Asked.{Asked}
use Rattle.preflib_text.specs.Ballots.{entries, entries_of, is_metadata, line_behind, metadata, order_lines}
use Rattle.preflib_text.specs.Faults.{Line, in_line}
use Rattle.preflib_text.specs.Head.{bad_withdrawn, candidates, head_fault, name_of, voters}
use Rattle.preflib_text.specs.Heading.{behind, front}
use Rattle.preflib_text.specs.Lines.{lines, lines_of, without_return}
use Rattle.preflib_text.specs.Metadata.{Entry}
use Rattle.preflib_text.specs.Refusals.{metadata_faults}
use Rattle.preflib_text.specs.Texts.{is_digit}
use Rattle.preflib_text.specs.Written.{HasMetadata, IsHead, WrittenOrdersSayBallots, order_line, order_text}
use Rattle.preflib_text.proofs.FewLemmas.{few_candidates}
use Rattle.preflib_text.proofs.HeadingLemmas.{AreMetadata, drop_front, front_and_behind, whole_front}
use Rattle.preflib_text.proofs.LineLemmas.{first_line, is_feed}
use Rattle.preflib_text.proofs.NumberLemmas.{written}
use Rattle.preflib_text.proofs.Options.{IsNothing}
use Rattle.preflib_text.proofs.WrittenOrders.{IsOrder, IsPrinted, bytes_of, each_few, order_printed}
use Rattle.preflib_text.proofs.WrittenTexts.{all_orders, orders_say_ballots}
use Rattle.preflib_text.proofs.FeedLemmas.{LinesFollow, before_feed, lines_follow}

-- ---- written lines

not_feed : (b : ℕ) → IsPrinted b → is_feed b ≡ false
not_feed b printed = grind (arith, nat_tests)

not_return : (b : ℕ) → IsPrinted b → eqb 13 b ≡ false
not_return b printed = grind (arith, nat_tests)

not_hash : (b : ℕ) → is_digit b ≡ true → eqb 35 b ≡ false
not_hash b digit = grind (arith, nat_tests)

no_return : (xs : List ℕ) → All IsPrinted xs → pointwise nat_eq (13 ∷ []) xs ≡ false
no_return [] all = refl
no_return (b ∷ bs) all =
    let other = not_return b (All-head IsPrinted b bs all) in
    ap (λ t. t && pointwise nat_eq [] bs) other

kept_whole : (xs : List ℕ) → All IsPrinted xs → without_return xs ≡ xs
kept_whole xs all =
    ap (λ t. cond t (take (length xs - 1) xs) xs)
    (no_return (drop (length xs - 1) xs) (All-drop IsPrinted (length xs - 1) xs all))

digit_first : (digits rest : List ℕ) → 0 < length digits → All (λ b. is_digit b ≡ true) digits
    → starts_with nat_eq (digits ++ rest) (35 ∷ []) ≡ false
digit_first [] rest some each = absurd (omega (arith, some))
digit_first (d ∷ ds) rest some each =
    ap (λ t. t && true) (not_hash d (All-head (λ b. is_digit b ≡ true) d ds each))

module _ (n : ℕ) (few : n ≤ MOST_CANDIDATES) where
  text_lines : (row at : ℕ) (orders : List BallotLine) → All (IsOrder n) orders → ballot_count orders ≤ MOST_BALLOTS
      → bytes_of (lines_of row at (slice_split is_feed (order_text orders))) ≡ map order_line orders
  text_lines row at [] all most = refl
  text_lines row at (o ∷ os) all most =
      let line = order_line o in
      let counts = each_few o os MOST_BALLOTS most in
      let printed = order_printed n o few counts.0 (All-head (IsOrder n) o os all) in
      let cut : slice_split is_feed (order_text (o ∷ os)) ≡ line ∷ slice_split is_feed (order_text os) =
      ap (slice_split is_feed) (append_assoc line (10 ∷ []) (order_text os))
      ∙ slice_split_at is_feed line 10 (order_text os)
      (All-weaker IsPrinted (λ b. is_feed b ≡ false) not_feed line printed) refl in
      ap (λ ps. bytes_of (lines_of row at ps)) cut ∙ ap bytes_of (first_line row at line (order_text os))
      ∙ ap (λ bs. bs ∷ bytes_of (lines_of (row + 1) (at + length line + 1) (slice_split is_feed (order_text os))))
      (kept_whole line printed)
      ∙ ap (λ ls. line ∷ ls) (text_lines (row + 1) (at + length line + 1) os (All-tail (IsOrder n) o os all) counts.1)

  -- no order is metadata
  none_next :
      (ls : List Line) (orders : List BallotLine) → bytes_of ls ≡ map order_line orders
      → ballot_count orders ≤ MOST_BALLOTS
      → option_map_or is_metadata (slice_get ls 0) false ≡ false
  none_next [] orders is most = refl
  none_next (l ∷ ls) [] is most = absurd (cc is)
  none_next (l ∷ ls) (o ∷ os) is most =
      let counts = each_few o os MOST_BALLOTS most in
      let count = written o.count (omega (arith, counts.0)) in
      let same : l.bytes ≡ order_line o = cc is in
      ap (λ bs. starts_with nat_eq bs (35 ∷ [])) same
      ∙ digit_first (decimal o.count) (58 ∷ 32 ∷ join_with_byte 44 (map decimal o.ranking)) count.some count.each

-- ---- metadata with orders after them

either_way : (a b : Bool) (w x y z : PrefFault) (rest : Option PrefFault) → cond a (Some w) (cond b (Some x) rest) ≡ None
    → cond a (Some y) (cond b (Some z) rest) ≡ None
either_way true b w x y z rest is = absurd (cc is)
either_way false true w x y z rest is = absurd (cc is)
either_way false false w x y z rest is = is

-- metadata without a fault have none wherever they end
sound_anywhere : (asked : Asked) (said : List Entry) (one other : Line) → head_fault asked said one ≡ None
    → head_fault asked said other ≡ None
sound_anywhere asked said one other is =
    let n = candidates said in
    either_way (eqb n 0) (list_any (λ c. is_none (name_of said c)) (range_with_len 1 n)) (in_line one BadHeader 0)
    (in_line one NameExpected 0) (in_line other BadHeader 0) (in_line other NameExpected 0) (bad_withdrawn asked n) is

front_is_metadata : (ls : List Line) → AreMetadata (front ls)
front_is_metadata [] = All-nil (λ line. is_metadata line ≡ true)
front_is_metadata (l ∷ ls) =
    subst AreMetadata (sym (take_while-cons is_metadata l ls))
    ((elim (is_metadata l) as (λ t. is_metadata l ≡ t → AreMetadata (cond t (l ∷ front ls) [])) [
      | true ↦ λ is. All-cons (λ line. is_metadata line ≡ true) l (front ls) is (front_is_metadata ls)
      | false ↦ λ no. All-nil (λ line. is_metadata line ≡ true)
    ]) refl)

all_front : (ls : List Line) → behind ls ≡ [] → ls ≡ front ls
all_front ls none = sym (front_and_behind ls) ∙ ap (λ xs. front ls ++ xs) none ∙ append-nil (front ls)

module _ (asked : Asked) (head : List ℕ) (n : ℕ) (orders : List BallotLine) (is : IsHead asked head n)
    (few : n ≤ MOST_CANDIDATES) (all : All (IsOrder n) orders) (most : ballot_count orders ≤ MOST_BALLOTS)
  where
    abbrev text : List ℕ
    text = head ++ order_text orders

    follow : LinesFollow head (order_text orders)
    follow =
        let before = before_feed head is.ended in
        subst (λ h. LinesFollow h (order_text orders)) (sym before.1) (lines_follow before.0 (order_text orders))

    abbrev own : List Line
    own = lines_of follow.row follow.at (slice_split is_feed (order_text orders))

    own_are : bytes_of own ≡ map order_line orders
    own_are = text_lines n few follow.row follow.at orders all most

    head_lines : metadata text ≡ lines head
    head_lines =
        ap front follow.lines_are
        ∙ whole_front (lines head) own
        (subst AreMetadata (sym (all_front (lines head) is.no_orders)) (front_is_metadata (lines head)))
        (none_next n few own orders own_are most)

    same_metadata : metadata text ≡ metadata head
    same_metadata = head_lines ∙ all_front (lines head) is.no_orders

    pub orders_behind : bytes_of (order_lines text) ≡ map order_line orders
    orders_behind =
        ap (λ ls. bytes_of (drop (length ls) (lines text))) head_lines
        ∙ ap (λ ls. bytes_of (drop (length (lines head)) ls)) follow.lines_are
        ∙ ap bytes_of (drop_front (lines head) own) ∙ own_are

    pub same_voters : voters (entries text) ≡ voters (entries head)
    same_voters = ap (λ ls. voters (entries_of ls)) same_metadata

    pub metadata_stay : HasMetadata asked text n
    metadata_stay = record {
      sound = subst (λ ls. All IsNothing (metadata_faults asked ls)) (sym same_metadata) is.sound.sound;
      whole_sound = subst (λ ls. head_fault asked (entries_of ls) (line_behind text) ≡ None) (sym same_metadata)
          (sound_anywhere asked (entries head) (line_behind head) (line_behind text) is.sound.whole_sound);
      candidates_are = ap (λ ls. candidates (entries_of ls)) same_metadata ∙ is.sound.candidates_are;
    }

pub written_orders_say_ballots : PlainMarksAreRanked → WrittenOrdersSayBallots
written_orders_say_ballots plain_ranked asked head n orders is voters_are sound somebody =
    let all = all_orders n orders sound somebody in
    let few : n ≤ MOST_CANDIDATES =
    subst (λ k. k ≤ MOST_CANDIDATES) is.sound.candidates_are (few_candidates asked (metadata head) is.sound.sound) in
    let most = sound.bounded in
    orders_say_ballots plain_ranked asked (head ++ order_text orders) n orders
    (metadata_stay asked head n orders is few all most)
    (λ said given. voters_are said (sym (same_voters asked head n orders is few all most) ∙ given))
    (orders_behind asked head n orders is few all most) sound somebody
