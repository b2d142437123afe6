-- Lines that are written ranking by ranking.
use Rattle.std.proofs.Common.{◌≡◌, ℕ, ◌<◌, ◌≤◌, List, [], ◌∷◌, ◌++◌, length, map, get_or, replicate, All}
use Rattle.std.proofs.Common.{Option, Result, IsErr, arith, refl, ap, sym, subst, ◌∙◌, append_assoc}
use Rattle.std.proofs.Common.{append-nil}
use Rattle.std.specs.List.{flat_map, sum_by}
use Rattle.std.proofs.lemmas.List.{length-append}
use Rattle.std.proofs.lemmas.List.Concat.{flat_map-append}
use Rattle.std.proofs.lemmas.List.Elements.{All-head, All-tail}
use Rattle.std.proofs.lemmas.List.Sorted.{length_permutation}
use Rattle.piece_text.specs.Writing.{Wrote, Stopped, Writes}
use Rattle.piece_text.proofs.Written.{wrote_later, stopped_later, stops}
use Rattle.plain_ballots.specs.declared.ballot_line.BallotLine.{BallotLine}
use Rattle.blt_writer.specs.Order.{AreLinesOf}
use Rattle.blt_writer.specs.Text.{ballot_text}
use Rattle.blt_writer.specs.Merge.{all_plain, had, left, written, IsHead, AreInOrder, TakesLeast}
use Rattle.blt_writer.specs.Merged.{WritesLines}
use Rattle.blt_writer.proofs.EveryText.{lines_of, are_lines_of}
use Rattle.blt_writer.proofs.MergeLemmas.{all_parts, least_taken, order_left, line_count, fewer_left}

-- Some lines were written, and with any lines of the ballots that are left they are lines of all ballots.
pub record IsMerging {S : Type 0} (w : S → Option (List ℕ)) (f : S → ℕ) (a b : S)
    (old now : List (List BallotLine)) : Type 0 where
  pub few : length (all_plain now) ≤ 999999999
  pub order : AreInOrder now
  pub done : List BallotLine
  pub so_far : (rest : List BallotLine) → AreLinesOf (all_plain now) rest → AreLinesOf (all_plain old) (done ++ rest)
  pub wrote : Wrote w f a b (flat_map ballot_text done)

-- the line of a ranking and its number of ballots
abbrev pub line : (count : ℕ) → (ranking : List ℕ) → BallotLine
line n r = record { count = n; ranking = r }

fewer_ballots :
    (r : List ℕ) (lists : List (List BallotLine))
    → length (all_plain (map (left r) lists)) ≤ length (all_plain lists)
fewer_ballots r lists =
    let mine : List (List ℕ) = replicate (sum_by (had r) lists) r in
    let size = length_permutation (all_plain lists) (mine ++ all_plain (map (left r) lists)) (all_parts r lists) in
    omega (arith, size, length-append mine (all_plain (map (left r) lists)))

one_less :
    (r : List ℕ) (n : ℕ) (now next : List (List BallotLine)) → TakesLeast r n now next → AreInOrder now
    → (rest : List BallotLine)
    → AreLinesOf (all_plain next) rest → AreLinesOf (all_plain now) (written (line n r) ++ rest)
one_less r n now next takes order rest are =
    subst (λ (k : ℕ). AreLinesOf (all_plain now) (written (line k r) ++ rest)) (sym takes.counted)
    (least_taken r now rest takes.least.from order
    (subst (λ (l : List (List BallotLine)). AreLinesOf (all_plain l) rest) takes.behind are))

longer :
    {S : Type 0} {w : S → Option (List ℕ)} {f : S → ℕ} {a b : S} {old now : List (List BallotLine)} (r : List ℕ) (n : ℕ)
    (next : List (List BallotLine)) → (so_far : IsMerging w f a b old now) → TakesLeast r n now next
    → (rest : List BallotLine)
    → AreLinesOf (all_plain next) rest → AreLinesOf (all_plain old) ((so_far.done ++ written (line n r)) ++ rest)
longer {old} {now} r n next so_far takes rest are =
    subst (AreLinesOf (all_plain old)) (sym (append_assoc so_far.done (written (line n r)) rest))
    (so_far.so_far (written (line n r) ++ rest) (one_less r n now next takes so_far.order rest are))

-- what is left is in order, and is not too much
pub merging_left :
    {S : Type 0} {w : S → Option (List ℕ)} {f : S → ℕ} {a b : S} {old now : List (List BallotLine)} (r : List ℕ) (n : ℕ)
    (next : List (List BallotLine)) → IsMerging w f a b old now → TakesLeast r n now next
    → AreInOrder next × (length (all_plain next) ≤ 999999999)
merging_left {now} r n next so_far takes = (
  subst AreInOrder (sym takes.behind) (order_left r now so_far.order),
  subst (λ (l : List (List BallotLine)). length (all_plain l) ≤ 999999999) (sym takes.behind)
      (omega (arith, fewer_ballots r now, so_far.few)),
)

pub merging_more :
    {S : Type 0} {w : S → Option (List ℕ)} {f : S → ℕ} {a b c : S} {old now : List (List BallotLine)} (r : List ℕ) (n : ℕ)
    (next : List (List BallotLine)) → IsMerging w f a b old now → TakesLeast r n now next
    → Wrote w f b c (flat_map ballot_text (written (line n r))) → IsMerging w f a c old next
merging_more {w} {f} {a} {c} r n next so_far takes wrote = record {
  few = (merging_left r n next so_far takes).1;
  order = (merging_left r n next so_far takes).0;
  done = so_far.done ++ written (line n r);
  so_far = longer r n next so_far takes;
  wrote =
      subst (Wrote w f a c) (sym (flat_map-append ballot_text so_far.done (written (line n r))))
      (wrote_later so_far.wrote wrote);
}

pub merging_stopped :
    {S T E : Type 0} {w : S → Option (List ℕ)} {f : S → ℕ} {a b c : S} {old now : List (List BallotLine)}
    (r : List ℕ) (n : ℕ)
    (next : List (List BallotLine)) (result : Result T E) → IsErr result → IsMerging w f a b old now
    → TakesLeast r n now next
    → Stopped w f b c (flat_map ballot_text (written (line n r))) → WritesLines w f a c (all_plain old) result
merging_stopped {w} {f} {a} {c} r n next result failed so_far takes stopped =
    let rest = lines_of (all_plain next) in
    let here = so_far.done ++ written (line n r) in
    record {
      lines = here ++ rest;
      are = longer r n next so_far takes rest (are_lines_of (all_plain next));
      writes =
          subst (λ (l : List ℕ). Writes w f a c l result)
          (ap (λ (l : List ℕ). l ++ flat_map ballot_text rest)
          (sym (flat_map-append ballot_text so_far.done (written (line n r))))
          ∙ sym (flat_map-append ballot_text here rest))
          (stops (flat_map ballot_text rest) result failed (stopped_later so_far.wrote stopped));
    }

none_left : (lists : List (List BallotLine)) → All (λ ls. ls ≡ []) lists → all_plain lists ≡ []
none_left [] empty = refl
none_left (ls ∷ lists) empty =
    let P : List BallotLine → Type 0 = λ ls. ls ≡ [] in
    ap (λ (l : List BallotLine). all_plain (l ∷ lists)) (All-head P ls lists empty)
    ∙ none_left lists (All-tail P ls lists empty)

-- all of them were written
pub merging_done :
    {S : Type 0} {w : S → Option (List ℕ)} {f : S → ℕ} {a b : S} {old now : List (List BallotLine)}
    (so_far : IsMerging w f a b old now)
    → All (λ ls. ls ≡ []) now
    → (lines : List BallotLine) × AreLinesOf (all_plain old) lines × Wrote w f a b (flat_map ballot_text lines)
merging_done {w} {f} {a} {b} {old} so_far empty =
    let whole = append-nil so_far.done in (
      so_far.done,
      subst (AreLinesOf (all_plain old)) whole
          (so_far.so_far [] (subst (λ (l : List (List ℕ)). AreLinesOf l []) (sym (none_left _ empty)) (are_lines_of []))),
      so_far.wrote,
    )

-- a list that begins with the ranking
begins :
    (r : List ℕ) (ls : List BallotLine) → IsHead r ls
    → (first : BallotLine) × (rest : List BallotLine) × (ls ≡ first ∷ rest) × (first.ranking ≡ r)
begins r [] head = absurd head
begins r (l ∷ ls) head = (l, ls, refl, sym head)

pub fewer_lines :
    (r : List ℕ) (n : ℕ) (now next : List (List BallotLine)) → TakesLeast r n now next
    → line_count next < line_count now
fewer_lines r n now next takes =
    let least = takes.least in
    let d : List BallotLine = [] in
    let is = begins r (get_or now least.place d) (least.first d) in
    subst (λ (l : List (List BallotLine)). line_count l < line_count now) (sym takes.behind)
    (fewer_left r now least.place d is.0 is.1 least.inside is.2 is.3)
