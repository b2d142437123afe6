-- The lines of several plans taken together.
use Rattle.std.proofs.Common.{◌≡◌, ℕ, ◌+◌, ◌<◌, ◌≤◌, Bool, true, false, cond, List, [], ◌∷◌, ◌++◌, length}
use Rattle.std.proofs.Common.{map, get_or, replicate, All, arith, refl, ap, sym, subst, ◌∙◌, zero, suc}
use Rattle.std.proofs.Common.{append_assoc}
use Rattle.std.specs.Prelude.{AllPairs, IsPermutation}
use Rattle.std.specs.List.{sum_by}
use Rattle.std.specs.Str.{bytes_eq}
use Rattle.std.specs.declared.cmp.Ordering.{Ordering}
use Rattle.std.specs.declared.cmp.Ordering.TheVariants.{Less, Equal, Greater}
use Rattle.std.specs.Ordering.{ordering_reverse, is_eq}
use Rattle.std.proofs.lemmas.Cmp.{nat_list_cmp_total}
use Rattle.std.proofs.lemmas.Map.Text.{is_eq-slice_cmp}
use Rattle.std.proofs.lemmas.Slice.Eq.{bytes_eq-Decides}
use Rattle.std.proofs.lemmas.List.{length-append, length-replicate, replicate-append-replicate}
use Rattle.std.proofs.lemmas.List.Elements.{All-nil, All-cons, All-head, All-tail, All-append, All-replicate}
use Rattle.std.proofs.lemmas.List.Kept.{AllPairs-cons}
use Rattle.std.proofs.lemmas.List.Sorted.{All-permutation, IsPermutation-refl, IsPermutation-sym}
use Rattle.std.proofs.lemmas.List.Sorted.{IsPermutation-trans, IsPermutation-append_right}
use Rattle.std.proofs.lemmas.List.Sums.{sum_by-cons}
use Rattle.plain_ballots.specs.declared.ballot_line.BallotLine.{BallotLine}
use Rattle.plain_ballots.specs.Ballots.{plain}
use Rattle.plain_ballots.proofs.PermutationLemmas.{IsPermutation-shift}
use Rattle.blt_writer.specs.Order.{StandsBefore, AreLinesOf}
use Rattle.blt_writer.specs.Merge.{all_plain, had, left, written, IsFrom, AreInOrder}
use Rattle.blt_writer.proofs.LineOrder.{order, pairs_head, pairs_tail, before_all}

-- ---- the ballots of a ranking, and those that are left

parts_by :
    (b : Bool) (r : List ℕ) (line : BallotLine) (ls : List BallotLine) → bytes_eq line.ranking r ≡ b
    → plain (line ∷ ls) ≡ replicate (cond b line.count 0) r ++ plain (cond b ls (line ∷ ls))
parts_by true r line ls is =
    let same : line.ranking ≡ r = (bytes_eq-Decides line.ranking r).0 is in
    ap (λ (q : List ℕ). replicate line.count q ++ plain ls) same
parts_by false r line ls is = refl

plain_parts : (r : List ℕ) (ls : List BallotLine) → plain ls ≡ replicate (had r ls) r ++ plain (left r ls)
plain_parts r [] = refl
plain_parts r (line ∷ ls) = parts_by (bytes_eq line.ranking r) r line ls refl

pub all_parts :
    (r : List ℕ) (lists : List (List BallotLine))
    → IsPermutation (all_plain lists) (replicate (sum_by (had r) lists) r ++ all_plain (map (left r) lists))
all_parts r [] = IsPermutation-refl []
all_parts r (ls ∷ lists) =
    let mine : List (List ℕ) = replicate (had r ls) r in
    let theirs : List (List ℕ) = replicate (sum_by (had r) lists) r in
    let rest = plain (left r ls) in
    let others = all_plain (map (left r) lists) in
    let count : sum_by (had r) (ls ∷ lists) ≡ had r ls + sum_by (had r) lists = sum_by-cons (had r) ls lists in
    let together : mine ++ (theirs ++ (rest ++ others)) ≡ replicate (sum_by (had r) (ls ∷ lists)) r ++ (rest ++ others) =
    sym (append_assoc mine theirs (rest ++ others))
    ∙ ap (λ (l : List (List ℕ)). l ++ (rest ++ others)) (replicate-append-replicate (had r ls)
    (sum_by (had r) lists) r ∙ ap (λ (k : ℕ). replicate k r) (sym count)) in
    let start : plain ls ++ all_plain lists ≡ mine ++ (rest ++ all_plain lists) =
    ap (λ (l : List (List ℕ)). l ++ all_plain lists) (plain_parts r ls) ∙ append_assoc mine rest (all_plain lists) in
    subst
    (λ (l : List (List ℕ)). IsPermutation l (replicate (sum_by (had r) (ls ∷ lists)) r ++ (rest ++ others)))
    (sym start)
    (subst (λ (l : List (List ℕ)). IsPermutation (mine ++ (rest ++ all_plain lists)) l) together
    (IsPermutation-append_right mine _ _
    (IsPermutation-trans _ _ _ (IsPermutation-append_right rest _ _ (all_parts r lists))
    (IsPermutation-shift rest theirs others))))

-- ---- all that is left is after the ranking

abbrev pub IsLater : (r s : List ℕ) → Type 0
IsLater r s = order r s ≡ Less

pub plain_all : (P : List ℕ → Type 0) (ls : List BallotLine) → All (λ (l : BallotLine). P l.ranking) ls → All P (plain ls)
plain_all P [] all = All-nil P
plain_all P (l ∷ ls) all =
    All-append P (replicate l.count l.ranking) (plain ls)
    (All-replicate P l.count l.ranking (All-head (λ (l : BallotLine). P l.ranking) l ls all))
    (plain_all P ls (All-tail (λ (l : BallotLine). P l.ranking) l ls all))

pub lines_all :
    (P : List ℕ → Type 0) (ls : List BallotLine) → All (λ (l : BallotLine). 1 ≤ l.count) ls → All P (plain ls)
    → All (λ (l : BallotLine). P l.ranking) ls
lines_all P [] counted all = All-nil (λ (l : BallotLine). P l.ranking)
lines_all P (l ∷ ls) counted all =
    let Q : BallotLine → Type 0 = λ l. 1 ≤ l.count in
    let some : 1 ≤ l.count = All-head Q l ls counted in
    All-cons (λ (l : BallotLine). P l.ranking) l ls (front_of P l.count l.ranking (plain ls) some all)
    (lines_all P ls (All-tail Q l ls counted) (behind_of P l.count l.ranking (plain ls) all))
  where
    front_of : (P : List ℕ → Type 0) (n : ℕ) (r : List ℕ) (rs : List (List ℕ)) → 1 ≤ n → All P (replicate n r ++ rs) → P r
    front_of P zero r rs some all = absurd (omega arith)
    front_of P (suc n) r rs some all = All-head P r (replicate n r ++ rs) all

    behind_of : (P : List ℕ → Type 0) (n : ℕ) (r : List ℕ) (rs : List (List ℕ)) → All P (replicate n r ++ rs) → All P rs
    behind_of P zero r rs all = all
    behind_of P (suc n) r rs all = behind_of P n r rs (All-tail P r (replicate n r ++ rs) all)

-- not before and not the same is after
pub later_by : (o : Ordering) (a r : List ℕ) → order a r ≡ o → (o ≡ Less → ⊥) → is_eq o ≡ false → order r a ≡ Less
later_by Less a r is from other = absurd (from refl)
later_by Equal a r is from other = cc
later_by Greater a r is from other = nat_list_cmp_total.antisymm r a ∙ ap ordering_reverse is

later_left_by :
    (b : Bool) (r : List ℕ) (line : BallotLine) (ls : List BallotLine) → bytes_eq line.ranking r ≡ b → IsFrom r (line ∷ ls)
    → AllPairs StandsBefore (line ∷ ls) → All (λ (l : BallotLine). IsLater r l.ranking) (cond b ls (line ∷ ls))
later_left_by true r line ls is from rising =
    subst (λ (q : List ℕ). All (λ (l : BallotLine). IsLater q l.ranking) ls)
    ((bytes_eq-Decides line.ranking r).0 is) (pairs_head StandsBefore line ls rising)
later_left_by false r line ls is from rising =
    before_all (record { count = 0; ranking = r }) line ls
    (later_by (order line.ranking r) line.ranking r refl from (is_eq-slice_cmp line.ranking r ∙ is)) rising

later_left :
    (r : List ℕ) (ls : List BallotLine) → IsFrom r ls → AllPairs StandsBefore ls
    → All (λ (l : BallotLine). IsLater r l.ranking) (left r ls)
later_left r [] from rising = All-nil (λ (l : BallotLine). IsLater r l.ranking)
later_left r (line ∷ ls) from rising = later_left_by (bytes_eq line.ranking r) r line ls refl from rising

all_later :
    (r : List ℕ) (lists : List (List BallotLine)) → All (IsFrom r) lists → AreInOrder lists
    → All (IsLater r) (all_plain (map (left r) lists))
all_later r [] from rising = All-nil (IsLater r)
all_later r (ls ∷ lists) from rising =
    All-append (IsLater r) (plain (left r ls)) (all_plain (map (left r) lists))
    (plain_all (IsLater r) (left r ls)
    (later_left r ls (All-head (IsFrom r) ls lists from) (All-head (AllPairs StandsBefore) ls lists rising)))
    (all_later r lists (All-tail (IsFrom r) ls lists from) (All-tail (AllPairs StandsBefore) ls lists rising))

-- ---- one ranking more

pub one_more :
    (n : ℕ) (r : List ℕ) (bag rest_bag : List (List ℕ)) (rest : List BallotLine)
    → IsPermutation bag (replicate n r ++ rest_bag)
    → All (IsLater r) rest_bag → AreLinesOf rest_bag rest
    → AreLinesOf bag (written (record { count = n; ranking = r }) ++ rest)
one_more zero r bag rest_bag rest parts later are = record {
  rising = are.rising;
  counted = are.counted;
  same = IsPermutation-trans _ _ _ are.same (IsPermutation-sym _ _ parts);
}
one_more (suc n) r bag rest_bag rest parts later are =
    let line : BallotLine = record { count = suc n; ranking = r } in
    let all = All-permutation (IsLater r) rest_bag (plain rest) (IsPermutation-sym _ _ are.same) later in
    record {
      rising = AllPairs-cons StandsBefore line rest (lines_all (IsLater r) rest are.counted all) are.rising;
      counted = All-cons (λ (l : BallotLine). 1 ≤ l.count) line rest (omega arith) are.counted;
      same =
          IsPermutation-trans _ _ _ (IsPermutation-append_right (replicate (suc n) r) _ _ are.same)
          (IsPermutation-sym _ _ parts);
    }

pub least_taken :
    (r : List ℕ) (lists : List (List BallotLine)) (rest : List BallotLine) → All (IsFrom r) lists → AreInOrder lists
    → AreLinesOf (all_plain (map (left r) lists)) rest
    → AreLinesOf (all_plain lists) (written (record { count = sum_by (had r) lists; ranking = r }) ++ rest)
least_taken r lists rest from rising are =
    one_more (sum_by (had r) lists) r (all_plain lists) (all_plain (map (left r) lists)) rest
    (all_parts r lists) (all_later r lists from rising) are

-- ---- what is left is in order, and is shorter

rising_by :
    (b : Bool) (line : BallotLine) (ls : List BallotLine) → AllPairs StandsBefore (line ∷ ls)
    → AllPairs StandsBefore (cond b ls (line ∷ ls))
rising_by true line ls rising = pairs_tail StandsBefore line ls rising
rising_by false line ls rising = rising

rising_left : (r : List ℕ) (ls : List BallotLine) → AllPairs StandsBefore ls → AllPairs StandsBefore (left r ls)
rising_left r [] rising = rising
rising_left r (line ∷ ls) rising = rising_by (bytes_eq line.ranking r) line ls rising

pub order_left : (r : List ℕ) (lists : List (List BallotLine)) → AreInOrder lists → AreInOrder (map (left r) lists)
order_left r [] rising = rising
order_left r (ls ∷ lists) rising =
    All-cons (AllPairs StandsBefore) (left r ls) (map (left r) lists)
    (rising_left r ls (All-head (AllPairs StandsBefore) ls lists rising))
    (order_left r lists (All-tail (AllPairs StandsBefore) ls lists rising))

shorter_by : (b : Bool) (line : BallotLine) (ls : List BallotLine) → length (cond b ls (line ∷ ls)) ≤ length (line ∷ ls)
shorter_by true line ls = omega arith
shorter_by false line ls = omega arith

not_longer : (r : List ℕ) (ls : List BallotLine) → length (left r ls) ≤ length ls
not_longer r [] = omega arith
not_longer r (line ∷ ls) = shorter_by (bytes_eq line.ranking r) line ls

abbrev pub line_count : List (List BallotLine) → ℕ
line_count lists = sum_by (λ (ls : List BallotLine). length ls) lists

count-cons : (ls : List BallotLine) (lists : List (List BallotLine)) → line_count (ls ∷ lists) ≡ length ls + line_count lists
count-cons ls lists = sum_by-cons (λ (ls : List BallotLine). length ls) ls lists

none_longer : (r : List ℕ) (lists : List (List BallotLine)) → line_count (map (left r) lists) ≤ line_count lists
none_longer r [] = omega arith
none_longer r (ls ∷ lists) =
    omega (arith, not_longer r ls, none_longer r lists, count-cons ls lists, count-cons (left r ls) (map (left r) lists))

first_gone :
    (r : List ℕ) (ls : List BallotLine) (line : BallotLine) (rest : List BallotLine) → ls ≡ line ∷ rest
    → line.ranking ≡ r → length (left r ls) < length ls
first_gone r ls line rest is same =
    let test : bytes_eq line.ranking r ≡ true = (bytes_eq-Decides line.ranking r).1 same in
    let gone : left r ls ≡ rest = ap (left r) is ∙ ap (λ (b : Bool). cond b rest (line ∷ rest)) test in
    omega (arith, ap length gone, ap length is)

-- a list that begins with the ranking loses its first line
pub fewer_left :
    (r : List ℕ) (lists : List (List BallotLine)) (i : ℕ) (d : List BallotLine) (line : BallotLine) (rest : List BallotLine)
    → i < length lists → get_or lists i d ≡ line ∷ rest → line.ranking ≡ r
    → line_count (map (left r) lists) < line_count lists
fewer_left r [] i d line rest inside is same = absurd (omega arith)
fewer_left r (ls ∷ lists) zero d line rest inside is same =
    omega (
      arith,
      first_gone r ls line rest is same,
      none_longer r lists,
      count-cons ls lists,
      count-cons (left r ls) (map (left r) lists),
    )
fewer_left r (ls ∷ lists) (suc i) d line rest inside is same =
    omega (
      arith,
      not_longer r ls,
      fewer_left r lists i d line rest (omega arith) is same,
      count-cons ls lists,
      count-cons (left r ls) (map (left r) lists),
    )

-- ---- how many ballots of a ranking there are

had_le : (r : List ℕ) (ls : List BallotLine) → had r ls ≤ length (plain ls)
had_le r ls =
    let mine : List (List ℕ) = replicate (had r ls) r in
    omega (
      arith,
      ap length (plain_parts r ls),
      length-append mine (plain (left r ls)),
      length-replicate {A = List ℕ} (had r ls) r,
    )

pub all_had_le : (r : List ℕ) (lists : List (List BallotLine)) → sum_by (had r) lists ≤ length (all_plain lists)
all_had_le r [] = omega arith
all_had_le r (ls ∷ lists) =
    omega (arith, sum_by-cons (had r) ls lists, had_le r ls, all_had_le r lists, length-append (plain ls) (all_plain lists))
