-- Lines that stand in order, written ranking by ranking.
use Rattle.std.proofs.Common.{◌≡◌, ◌≢◌, ℕ, zero, suc, ◌+◌, ◌≤◌, List, [], ◌∷◌, ◌++◌, length}
use Rattle.std.proofs.Common.{get_or, replicate, All, Option, Result, IsErr, Ok, Err, arith, refl, ap, sym}
use Rattle.std.proofs.Common.{subst, ◌∙◌, append_assoc, append-nil}
use Rattle.std.specs.Prelude.{IsPermutation, false}
use Rattle.std.specs.List.{flat_map}
use Rattle.std.specs.declared.cmp.Ordering.{Ordering}
use Rattle.std.specs.declared.cmp.Ordering.TheVariants.{Less, Equal, Greater}
use Rattle.std.specs.Ordering.{is_eq, ordering_reverse}
use Rattle.std.proofs.lemmas.Cmp.{nat_list_cmp_total}
use Rattle.std.proofs.lemmas.List.{length-append, length-replicate}
use Rattle.std.proofs.lemmas.List.{replicate-append-replicate}
use Rattle.std.proofs.lemmas.List.{get_or-append-add}
use Rattle.std.proofs.lemmas.List.Concat.{flat_map-append}
use Rattle.std.proofs.lemmas.List.Elements.{All-nil, All-cons, All-head, All-tail}
use Rattle.std.proofs.lemmas.List.Sorted.{IsPermutation-refl}
use Rattle.std.proofs.lemmas.List.Sums.{sum_by-cons}
use Rattle.piece_text.specs.Writing.{Wrote, Writes}
use Rattle.piece_text.proofs.Written.{wrote_nothing, wrote_later, stopped_later, stops, later as writes_later}
use Rattle.plain_ballots.specs.declared.ballot_line.BallotLine.{BallotLine}
use Rattle.plain_ballots.specs.Ballots.{plain, ballot_count}
use Rattle.blt_writer.specs.Order.{AreLinesOf}
use Rattle.blt_writer.specs.Text.{ballot_text}
use Rattle.blt_writer.specs.Merge.{written}
use Rattle.blt_writer.specs.Merged.{WritesLines}
use Rattle.blt_writer.specs.Page.{HandsOver}
use Rattle.blt_writer.specs.Packed.{AreListed}
use Rattle.blt_writer.proofs.EveryText.{lines_of, are_lines_of}
use Rattle.blt_writer.proofs.LineOrder.{order, same_place, before_trans, pairs_tail}
use Rattle.blt_writer.proofs.MergeLemmas.{IsLater, later_by, plain_all, one_more}
use Rattle.blt_writer.proofs.MergingLemmas.{line}
use Rattle.blt_writer.proofs.RunLines.{BeginsOther, AreParted}

-- lines of one ranking are so many ballots of it
pub same_ballots :
    (r : List ℕ) (same behind : List BallotLine) → All (λ (l : BallotLine). l.ranking ≡ r) same
    → plain (same ++ behind) ≡ replicate (ballot_count same) r ++ plain behind
same_ballots r [] behind all = refl
same_ballots r (l ∷ same) behind all =
    let IsIt : BallotLine → Type 0 = λ l. l.ranking ≡ r in
    let count : ballot_count (l ∷ same) ≡ l.count + ballot_count same =
    sum_by-cons (λ (line : BallotLine). line.count) l same in
    let rest = same_ballots r same behind (All-tail IsIt l same all) in
    ap (λ (q : List ℕ). replicate l.count q ++ plain (same ++ behind)) (All-head IsIt l same all)
    ∙ (ap (λ (bag : List (List ℕ)). replicate l.count r ++ bag) rest
    ∙ (sym (append_assoc (replicate l.count r) (replicate (ballot_count same) r) (plain behind))
    ∙ ap (λ (bag : List (List ℕ)). bag ++ plain behind)
    (replicate-append-replicate l.count (ballot_count same) r ∙ ap (λ (n : ℕ). replicate n r) (sym count))))

-- what is before a ranking is before one that isn't listed before that
before_by : (o : Ordering) (a b c : List ℕ) → order b c ≡ o → order a b ≡ Less → (order c b ≡ Less → ⊥) → order a c ≡ Less
before_by Less a b c is before listed = before_trans a b c before is
before_by Equal a b c is before listed = subst (λ (q : List ℕ). order a q ≡ Less) (same_place b c is) before
before_by Greater a b c is before listed = absurd (listed (nat_list_cmp_total.antisymm c b ∙ ap ordering_reverse is))

not_equal : (o : Ordering) (a r : List ℕ) → order a r ≡ o → a ≢ r → is_eq o ≡ false
not_equal Less a r is other = refl
not_equal Equal a r is other = absurd (other (same_place a r is))
not_equal Greater a r is other = refl

-- so all ballots after stand after it
behind_later :
    (r : List ℕ) (behind : List BallotLine) → AreListed behind → BeginsOther r behind
    → All (λ (l : BallotLine). order l.ranking r ≡ Less → ⊥) behind → All (IsLater r) (plain behind)
behind_later r [] listed other from = All-nil (IsLater r)
behind_later r (l ∷ behind) listed other from =
    let first : order r l.ranking ≡ Less =
    later_by (order l.ranking r) l.ranking r refl (All-head (λ (l : BallotLine). order l.ranking r ≡ Less → ⊥) l behind from)
    (not_equal (order l.ranking r) l.ranking r refl other) in
    plain_all (IsLater r) (l ∷ behind)
    (All-cons (λ (l : BallotLine). IsLater r l.ranking) l behind first
    (λ i d inside. let next =
    get_or behind i d in
    before_by (order l.ranking next.ranking) r l.ranking next.ranking refl first
    (listed 0 (suc i) d (omega arith) (omega (arith, inside)))))

-- Some lines were written or stand on the page, and with any lines of the ballots that are left they are lines of all
-- ballots.
pub record IsListing {S : Type 0} (w : S → Option (List ℕ)) (f : S → ℕ) (a b : S) (page : List ℕ)
    (old now : List BallotLine) : Type 0 where
  pub few : length (plain now) ≤ 999999999
  pub counted : All (λ (l : BallotLine). 1 ≤ l.count) now
  pub listed : AreListed now
  pub done : List BallotLine
  pub so_far : (rest : List BallotLine) → AreLinesOf (plain now) rest → AreLinesOf (plain old) (done ++ rest)
  pub gone : List ℕ
  pub parts : gone ++ page ≡ flat_map ballot_text done
  pub wrote : Wrote w f a b gone

pub listing_begun :
    {S : Type 0} (w : S → Option (List ℕ)) (f : S → ℕ) (a : S) (page : List ℕ) (old : List BallotLine)
    → page ≡ [] → length (plain old) ≤ 999999999
    → All (λ (l : BallotLine). 1 ≤ l.count) old → AreListed old → IsListing w f a a page old old
listing_begun w f a page old empty few counted listed = record {
  few = few;
  counted = counted;
  listed = listed;
  done = [];
  so_far = λ rest are. are;
  gone = [];
  parts = empty;
  wrote = wrote_nothing w f a;
}

-- what stood on the page was handed over
pub listing_handed :
    {S T E : Type 0} {w : S → Option (List ℕ)} {f : S → ℕ} {a b c : S} {page after : List ℕ}
    {old now : List BallotLine} (v : T)
    → IsListing w f a b page old now → HandsOver {T = T} {E = E} w f b c page after (Ok v) → IsListing w f a c after old now
listing_handed {after} v is handed = record {
  few = is.few;
  counted = is.counted;
  listed = is.listed;
  done = is.done;
  so_far = is.so_far;
  gone = is.gone ++ handed.front;
  parts = append_assoc is.gone handed.front after ∙ (ap (λ (l : List ℕ). is.gone ++ l) handed.parts ∙ is.parts);
  wrote = wrote_later is.wrote handed.writes;
}

-- or was not
pub listing_stopped :
    {S T E V F : Type 0} {w : S → Option (List ℕ)} {f : S → ℕ} {a b c : S} {page after : List ℕ}
    {old now : List BallotLine} (e : F) (result : Result T E)
    → IsErr result → IsListing w f a b page old now → HandsOver {T = V} {E = F} w f b c page after (Err e)
    → WritesLines w f a c (plain old) result
listing_stopped {w} {f} {a} {c} {page} {after} {now} e result failed is handed =
    let rest = lines_of (plain now) in
    let text : (is.gone ++ handed.front) ++ (after ++ flat_map ballot_text rest) ≡ flat_map ballot_text (is.done ++ rest) =
    sym (append_assoc (is.gone ++ handed.front) after (flat_map ballot_text rest))
    ∙ (ap (λ (l : List ℕ). l ++ flat_map ballot_text rest)
    (append_assoc is.gone handed.front after ∙ (ap (λ (l : List ℕ). is.gone ++ l) handed.parts ∙ is.parts))
    ∙ sym (flat_map-append ballot_text is.done rest)) in
    record {
      lines = is.done ++ rest;
      are = is.so_far rest (are_lines_of (plain now));
      writes =
          subst (λ (l : List ℕ). Writes w f a c l result) text
          (stops (after ++ flat_map ballot_text rest) result failed (stopped_later is.wrote handed.writes));
    }

listed_behind : (same behind : List BallotLine) → AreListed (same ++ behind) → AreListed behind
listed_behind [] behind listed = listed
listed_behind (l ∷ same) behind listed =
    listed_behind same behind (pairs_tail (λ (one other : BallotLine). order other.ranking one.ranking ≢ Less)
    l (same ++ behind) listed)

counted_behind :
    (same behind : List BallotLine) → All (λ (l : BallotLine). 1 ≤ l.count) (same ++ behind)
    → All (λ (l : BallotLine). 1 ≤ l.count) behind
counted_behind [] behind counted = counted
counted_behind (l ∷ same) behind counted =
    counted_behind same behind (All-tail (λ (l : BallotLine). 1 ≤ l.count) l (same ++ behind) counted)

from_behind :
    (r : List ℕ) (first : BallotLine) (same behind : List BallotLine) → first.ranking ≡ r
    → AreListed (first ∷ (same ++ behind)) → All (λ (l : BallotLine). order l.ranking r ≡ Less → ⊥) behind
from_behind r first same behind is listed i d inside before =
    let size = length-append same behind in
    let here : get_or (first ∷ (same ++ behind)) (suc (length same + i)) d ≡ get_or behind i d =
    get_or-append-add same behind i d in
    listed 0 (suc (length same + i)) d (omega arith) (omega (arith, size, inside))
    (ap (λ (l : BallotLine). order l.ranking first.ranking) here ∙ (ap (order (get_or behind i d).ranking) is ∙ before))

written_one : (n : ℕ) (r : List ℕ) → 1 ≤ n → flat_map ballot_text (written (line n r)) ≡ ballot_text (line n r)
written_one zero r some = absurd (omega (arith, some))
written_one (suc n) r some = append-nil (ballot_text (line (suc n) r))

module _ {S : Type 0} {w : S → Option (List ℕ)} {f : S → ℕ} {a b : S} {page : List ℕ}
    {old now : List BallotLine} (r : List ℕ) (first : BallotLine)
    (same behind : List BallotLine) (is : IsListing w f a b page old now) (parted : AreParted r now first same behind) where
  abbrev pub count : ℕ
  count = ballot_count (first ∷ same)

  whole : plain now ≡ replicate count r ++ plain behind
  whole = ap plain parted.parts ∙ same_ballots r (first ∷ same) behind parted.alike

  listed : AreListed (first ∷ (same ++ behind))
  listed = subst AreListed parted.parts is.listed

  counted : All (λ (l : BallotLine). 1 ≤ l.count) (first ∷ (same ++ behind))
  counted = subst (All (λ (l : BallotLine). 1 ≤ l.count)) parted.parts is.counted

  some : 1 ≤ count
  some =
      let one : 1 ≤ first.count = All-head (λ (l : BallotLine). 1 ≤ l.count) first (same ++ behind) counted in
      let sum = sum_by-cons (λ (l : BallotLine). l.count) first same in
      omega (arith, one, sum)

  later : All (IsLater r) (plain behind)
  later =
      behind_later r behind (listed_behind (first ∷ same) behind listed) parted.other
      (from_behind r first same behind (All-head (λ (l : BallotLine). l.ranking ≡ r) first same parted.alike) listed)

  longer :
      (rest : List BallotLine) → AreLinesOf (plain behind) rest
      → AreLinesOf (plain old) ((is.done ++ written (line count r)) ++ rest)
  longer rest are =
      subst (AreLinesOf (plain old)) (sym (append_assoc is.done (written (line count r)) rest))
      (is.so_far (written (line count r) ++ rest)
      (one_more count r (plain now) (plain behind) rest
      (subst (λ (bag : List (List ℕ)). IsPermutation bag (replicate count r ++ plain behind)) (sym whole)
      (IsPermutation-refl (replicate count r ++ plain behind)))
      later are))

  text : flat_map ballot_text (written (line count r)) ≡ ballot_text (line count r)
  text = written_one count r some

  pub few_of_run : count ≤ 999999999
  few_of_run =
      let size = ap length whole ∙ length-append (replicate count r) (plain behind) in
      omega (arith, size, length-replicate count r, is.few)

  pub listing_more : IsListing w f a b (page ++ ballot_text (line count r)) old behind
  listing_more = record {
    few = let size = ap length whole ∙ length-append (replicate count r) (plain behind) in omega (arith, size, is.few);
    counted = counted_behind (first ∷ same) behind counted;
    listed = listed_behind (first ∷ same) behind listed;
    done = is.done ++ written (line count r);
    so_far = longer;
    gone = is.gone;
    parts =
        sym (append_assoc is.gone page (ballot_text (line count r)))
        ∙ (ap (λ (l : List ℕ). l ++ ballot_text (line count r)) is.parts
        ∙ (ap (λ (l : List ℕ). flat_map ballot_text is.done ++ l) (sym text)
        ∙ sym (flat_map-append ballot_text is.done (written (line count r)))));
    wrote = is.wrote;
  }

-- nothing is left to be listed, and the page is written
pub listing_done :
    {S T E : Type 0} {w : S → Option (List ℕ)} {f : S → ℕ} {a b c : S} {page : List ℕ}
    {old now : List BallotLine} (result : Result T E)
    → IsListing w f a b page old now → now ≡ [] → Writes w f b c page result → WritesLines w f a c (plain old) result
listing_done {w} {f} {a} {c} {old} result is empty writes = record {
  lines = is.done;
  are =
      subst (AreLinesOf (plain old)) (append-nil is.done)
      (is.so_far [] (subst (λ (l : List BallotLine). AreLinesOf (plain l) []) (sym empty) (are_lines_of [])));
  writes = subst (λ (l : List ℕ). Writes w f a c l result) is.parts (writes_later c _ result is.wrote writes);
}
