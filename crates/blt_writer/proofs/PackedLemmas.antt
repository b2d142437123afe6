-- Rankings that are packed one after another.
use Rattle.std.proofs.Common.{◌≡◌, ℕ, ◌+◌, ◌<◌, ◌≤◌, List, [], ◌∷◌, ◌++◌, All, length, take, drop, replicate}
use Rattle.std.proofs.Common.{refl, ap, sym, subst, ◌∙◌, arith, append_assoc}
use Rattle.std.specs.Prelude.{IsPermutation, slice_index}
use Rattle.std.proofs.lemmas.List.{get_or_append_left, get_or_at, drop-append-le, drop_at, take-append-le}
use Rattle.std.proofs.lemmas.List.{take_all, length-drop, length-append, length_push, map_push}
use Rattle.std.proofs.lemmas.List.Elements.{All-push, All-tail, All-weaker}
use Rattle.std.proofs.lemmas.List.Sorted.{IsPermutation-map}
use Rattle.plain_ballots.specs.Ballots.{plain}
use Rattle.plain_ballots.proofs.PermutationLemmas.{flat_map-IsPermutation}
use Rattle.plain_ballots.specs.declared.ballot_line.BallotLine.{BallotLine}
use Rattle.blt_writer.specs.declared.entry.Entry.{Entry}
use Rattle.blt_writer.specs.Packed.{ranking_at, front, line_of, entry_lines, IsEntry}
use Rattle.blt_writer.proofs.FrontLemmas.{IsCandidate}

-- a ranking that comes in is found where it begins
pub ranking_new : (packed ranking : List ℕ) → ranking_at (packed ++ (length ranking ∷ ranking)) (length packed) ≡ ranking
ranking_new packed ranking =
    let n = length ranking in
    let all = packed ++ (n ∷ ranking) in
    let first : slice_index all (length packed) ≡ n = get_or_at packed n ranking 0 (length packed) refl in
    let parted : all ≡ (packed ++ n ∷ []) ++ ranking = sym (append_assoc packed (n ∷ []) ranking) in
    let behind : drop (length packed + 1) all ≡ ranking =
    ap (drop (length packed + 1)) parted ∙ drop_at (packed ++ n ∷ []) ranking (length packed + 1) (length_push packed n) in
    ap (λ (k : ℕ). take k (drop (length packed + 1) all)) first ∙ (ap (take n) behind ∙ take_all n ranking (omega arith))

-- and stays there when others come in after it
pub ranking_kept :
    (packed more : List ℕ) (start : ℕ) → start + slice_index packed start < length packed
    → ranking_at (packed ++ more) start ≡ ranking_at packed start
ranking_kept packed more start inside =
    let n = slice_index packed start in
    let same : slice_index (packed ++ more) start ≡ n = get_or_append_left packed more 0 start (omega (arith, inside)) in
    let behind : drop (start + 1) (packed ++ more) ≡ drop (start + 1) packed ++ more =
    drop-append-le (start + 1) packed more (omega (arith, inside)) in
    ap (λ (k : ℕ). take k (drop (start + 1) (packed ++ more))) same
    ∙ (ap (take n) behind
    ∙ take-append-le n (drop (start + 1) packed) more (omega (arith, inside, length-drop (start + 1) packed)))

entry_kept : (packed more : List ℕ) (entry : Entry) → IsEntry packed entry → IsEntry (packed ++ more) entry
entry_kept packed more entry is =
    let same = ranking_kept packed more entry.start is.inside in
    let n : slice_index (packed ++ more) entry.start ≡ slice_index packed entry.start =
    get_or_append_left packed more 0 entry.start (omega (arith, is.inside)) in
    record {
      inside = omega (arith, n, is.inside, length-append packed more);
      candidates = subst (All IsCandidate) (sym same) is.candidates;
      front_is = is.front_is ∙ ap (front 8) (sym same);
      counted = is.counted;
    }

lines_kept :
    (packed more : List ℕ) (entries : List Entry) → All (IsEntry packed) entries
    → entry_lines (packed ++ more) entries ≡ entry_lines packed entries
lines_kept packed more [] all = refl
lines_kept packed more (entry ∷ entries) all =
    let first : line_of (packed ++ more) entry ≡ line_of packed entry =
    ap (λ (r : List ℕ). let l : BallotLine = record { count = entry.count; ranking = r } in l)
    (ranking_kept packed more entry.start (all 0 entry (omega arith)).inside) in
    ap (λ (l : BallotLine). l ∷ entry_lines (packed ++ more) entries) first
    ∙ ap (λ (l : List BallotLine). line_of packed entry ∷ l)
    (lines_kept packed more entries (All-tail (IsEntry packed) entry entries all))

-- the entry of a line whose ranking comes in
abbrev pub entry_of : (packed : List ℕ) → BallotLine → Entry
entry_of packed line = record { front = front 8 line.ranking; start = length packed; count = line.count }

module _ (packed : List ℕ) (entries : List Entry) (line : BallotLine) (sound : All (IsEntry packed) entries)
    (candidates : All IsCandidate line.ranking) (some : 1 ≤ line.count) where
  abbrev pub ranks_then : List ℕ
  ranks_then = packed ++ (length line.ranking ∷ line.ranking)

  abbrev pub entries_then : List Entry
  entries_then = entries ++ entry_of packed line ∷ []

  own : ranking_at ranks_then (length packed) ≡ line.ranking
  own = ranking_new packed line.ranking

  own_entry : IsEntry ranks_then (entry_of packed line)
  own_entry =
      let n : slice_index ranks_then (length packed) ≡ length line.ranking =
      get_or_at packed (length line.ranking) line.ranking 0 (length packed) refl in
      record {
        inside = omega (arith, n, length-append packed (length line.ranking ∷ line.ranking));
        candidates = subst (All IsCandidate) (sym own) candidates;
        front_is = ap (front 8) (sym own);
        counted = some;
      }

  own_line : line_of ranks_then (entry_of packed line) ≡ line
  own_line = ap (λ (r : List ℕ). let l : BallotLine = record { count = line.count; ranking = r } in l) own

  -- one line more is packed
  sound_then : All (IsEntry ranks_then) entries_then
  sound_then =
      All-push (IsEntry ranks_then) entries (entry_of packed line)
      (All-weaker (IsEntry packed) (IsEntry ranks_then)
      (entry_kept packed (length line.ranking ∷ line.ranking)) entries sound) own_entry

  lines_then : entry_lines ranks_then entries_then ≡ entry_lines packed entries ++ line ∷ []
  lines_then =
      map_push (line_of ranks_then) entries (entry_of packed line)
      ∙ (ap (λ (l : List BallotLine). l ++ line_of ranks_then (entry_of packed line) ∷ [])
      (lines_kept packed (length line.ranking ∷ line.ranking) entries sound)
      ∙ ap (λ (l : BallotLine). entry_lines packed entries ++ l ∷ []) own_line)

  pub still_sound :
      (ranks : List ℕ) (more : List Entry) → ranks ≡ ranks_then → more ≡ entries_then
      → All (IsEntry ranks) more
  still_sound ranks more ranks_are entries_are =
      subst (λ (p : List ℕ). All (IsEntry p) more) (sym ranks_are)
      (subst (All (IsEntry ranks_then)) (sym entries_are) sound_then)

  pub one_line_more :
      (ranks : List ℕ) (more : List Entry) → ranks ≡ ranks_then → more ≡ entries_then
      → entry_lines ranks more ≡ entry_lines packed entries ++ line ∷ []
  one_line_more ranks more ranks_are entries_are =
      ap (λ (p : List ℕ). entry_lines p more) ranks_are ∙ (ap (entry_lines ranks_then) entries_are ∙ lines_then)

-- The lines of entries, in whatever order the entries stand.
pub same_entry_lines :
    (packed : List ℕ) (entries now : List Entry) → IsPermutation entries now
    → IsPermutation (entry_lines packed entries) (entry_lines packed now)
same_entry_lines packed entries now moved = IsPermutation-map (line_of packed) entries now moved

-- The ballots of lines, in whatever order the lines stand.
pub same_plain : (lines now : List BallotLine) → IsPermutation lines now → IsPermutation (plain lines) (plain now)
same_plain lines now moved = flat_map-IsPermutation (λ (l : BallotLine). replicate l.count l.ranking) lines now moved
