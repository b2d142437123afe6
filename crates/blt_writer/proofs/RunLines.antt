-- The lines of a run of entries of one ranking, and those after it.
use Rattle.std.proofs.Common.{◌≡◌, ◌≢◌, ℕ, zero, suc, ◌+◌, ◌<◌, ◌≤◌, List, [], ◌∷◌, ◌++◌, length, take, drop}
use Rattle.std.proofs.Common.{get_or, All, arith, refl, ap, sym}
use Rattle.std.proofs.Common.{subst, ◌∙◌}
use Rattle.std.specs.List.{sum_by}
use Rattle.std.proofs.lemmas.List.{length-take, length-drop, map-append}
use Rattle.std.proofs.lemmas.List.{take-append-drop, get_or-take, get_or-drop}
use Rattle.std.proofs.lemmas.List.Elements.{All-map, All-weaker, All-from_get_or}
use Rattle.std.proofs.lemmas.List.Sums.{sum_by-cons}
use Rattle.plain_ballots.specs.declared.ballot_line.BallotLine.{BallotLine}
use Rattle.plain_ballots.specs.Ballots.{ballot_count}
use Rattle.blt_writer.specs.declared.entry.Entry.{Entry}
use Rattle.blt_writer.specs.Packed.{ranking_at, line_of, entry_lines, IsEntry, IsRun}

-- the first line after those of a ranking has another
abbrev pub BeginsOther : (r : List ℕ) → List BallotLine → Type 0
BeginsOther r [] = Unit {0}
BeginsOther r (l ∷ lines) = l.ranking ≢ r

-- the lines of one ranking, of which there are some, and those after them
pub record AreParted (r : List ℕ) (now : List BallotLine) (first : BallotLine) (same behind : List BallotLine) : Type 0 where
  pub parts : now ≡ first ∷ (same ++ behind)
  pub alike : All (λ (l : BallotLine). l.ranking ≡ r) (first ∷ same)
  pub other : BeginsOther r behind

-- ---- of entries

pub counted_lines :
    (packed : List ℕ) (entries : List Entry) → All (IsEntry packed) entries
    → All (λ (l : BallotLine). 1 ≤ l.count) (entry_lines packed entries)
counted_lines packed entries sound =
    All-map (λ (l : BallotLine). 1 ≤ l.count) (line_of packed) entries
    (All-weaker (IsEntry packed) (λ (e : Entry). 1 ≤ e.count) (λ e is. is.counted) entries sound)

pub count_of_lines :
    (packed : List ℕ) (entries : List Entry)
    → ballot_count (entry_lines packed entries) ≡ sum_by (λ (e : Entry). e.count) entries
count_of_lines packed [] = refl
count_of_lines packed (e ∷ entries) =
    omega (
      arith,
      sum_by-cons (λ (l : BallotLine). l.count) (line_of packed e) (entry_lines packed entries),
      sum_by-cons (λ (e : Entry). e.count) e entries,
      count_of_lines packed entries,
    )

-- the lines of a run, with those after it
parted_by :
    (packed : List ℕ) (n : ℕ) (first : Entry) (entries : List Entry)
    → ((i : ℕ) → i < suc n → ranking_at packed (get_or (first ∷ entries) i first).start ≡ ranking_at packed first.start)
    → (n < length entries → ranking_at packed (get_or entries n first).start ≢ ranking_at packed first.start)
    → AreParted (ranking_at packed first.start) (entry_lines packed (first ∷ entries)) (line_of packed first)
    (entry_lines packed (take n entries)) (entry_lines packed (drop n entries))
parted_by packed n first entries alike other =
    let r = ranking_at packed first.start in
    let IsIt : Entry → Type 0 = λ e. ranking_at packed e.start ≡ r in
    record {
      parts =
          ap (λ (es : List Entry). entry_lines packed (first ∷ es)) (sym (take-append-drop n entries))
          ∙ ap (λ (ls : List BallotLine). line_of packed first ∷ ls)
          (map-append (line_of packed) (take n entries) (drop n entries));
      alike =
          All-map (λ (l : BallotLine). l.ranking ≡ r) (line_of packed) (first ∷ take n entries)
          (All-from_get_or IsIt (first ∷ take n entries) first
          (λ i inside.
          let size = length-take n entries in
          subst IsIt (sym (get_or-take (suc n) (first ∷ entries) i first (omega (arith, inside, size))))
          (alike i (omega (arith, inside, size)))));
      other = begins_other packed r n first entries other;
    }
  where
    begins_with :
        (packed r : List ℕ) (behind : List Entry) (d : Entry)
        → (0 < length behind → ranking_at packed (get_or behind 0 d).start ≢ r)
        → BeginsOther r (entry_lines packed behind)
    begins_with packed r [] d other = tt
    begins_with packed r (e ∷ behind) d other = other (omega arith)

    begins_other :
        (packed r : List ℕ) (n : ℕ) (d : Entry) (entries : List Entry)
        → (n < length entries → ranking_at packed (get_or entries n d).start ≢ r)
        → BeginsOther r (entry_lines packed (drop n entries))
    begins_other packed r n d entries other =
        begins_with packed r (drop n entries) d
        (λ some.
        let size = length-drop n entries in
        let none_more : n + 0 ≡ n = omega arith in
        let at : get_or (drop n entries) 0 d ≡ get_or entries n d =
        get_or-drop n entries 0 d ∙ ap (λ (k : ℕ). get_or entries k d) none_more in
        subst (λ (e : Entry). ranking_at packed e.start ≢ r) (sym at) (other (omega (arith, some, size))))

pub parted :
    (packed : List ℕ) (entries : List Entry) (n : ℕ) (first : Entry) → 0 < length entries
    → ((d : Entry) → first ≡ get_or entries 0 d)
    → IsRun packed entries n
    → AreParted (ranking_at packed first.start) (entry_lines packed entries) (line_of packed first)
    (entry_lines packed (drop 1 (take n entries))) (entry_lines packed (drop n entries))
parted packed [] n first some at run = absurd (omega (arith, some))
parted packed (e ∷ entries) zero first some at run = absurd (omega (arith, run.some))
parted packed (e ∷ entries) (suc n) first some at run =
    subst (λ (one : Entry). AreParted (ranking_at packed one.start) (entry_lines packed (e ∷ entries))
    (line_of packed one) (entry_lines packed (take n entries)) (entry_lines packed (drop n entries)))
    (sym (at e)) (parted_by packed n e entries (run.alike e) (λ inside. run.other e (omega (arith, inside))))

-- how many ballots the run has
pub count_of_run :
    (packed : List ℕ) (entries : List Entry) (n : ℕ) (first : Entry) → 0 < length entries
    → ((d : Entry) → first ≡ get_or entries 0 d)
    → IsRun packed entries n
    → sum_by (λ (e : Entry). e.count) (take n entries)
    ≡ ballot_count (line_of packed first ∷ entry_lines packed (drop 1 (take n entries)))
count_of_run packed [] n first some at run = absurd (omega (arith, some))
count_of_run packed (e ∷ entries) zero first some at run = absurd (omega (arith, run.some))
count_of_run packed (e ∷ entries) (suc n) first some at run =
    sym (ap (λ (one : Entry). ballot_count (line_of packed one ∷ entry_lines packed (take n entries))) (at e)
    ∙ count_of_lines packed (e ∷ take n entries))
