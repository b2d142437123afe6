-- Pieces of ballot lines that stand one after another are one.
use Rattle.std.proofs.Common.{◌≡◌, ℕ, ◌+◌, ◌≤◌, List, [], ◌∷◌, ◌++◌, length, take, drop, All}
use Rattle.std.proofs.Common.{sym, ◌∙◌, ap, subst, arith, append_assoc, Ok, Err}
use Rattle.std.specs.Prelude.{Result}
use Rattle.std.proofs.lemmas.List.{append-nil, length-append, get_or_append_left}
use Rattle.std.proofs.Math.Seq.{get_or-append_seam, take-append_seam}
use Rattle.std.proofs.lemmas.List.Elements.{All-append, All-nil}
use Rattle.std.proofs.lemmas.List.Sums.{sum_by-append}
use Rattle.std.proofs.lemmas.List.Sorted.{IsPermutation-append, IsPermutation-refl, length_permutation}
use Rattle.plain_ballots.specs.declared.ballot_line.BallotLine.{BallotLine}
use Rattle.plain_ballots.specs.Ballots.{BallotList, ballot_count, plain}
use Rattle.plain_ballots.specs.Ranking.{IsRanking}
use Rattle.plain_ballots.proofs.PlainLemmas.{plain-append, length-plain}
use Rattle.input_text.specs.declared.input_stop.InputStop.{InputStop}
use Rattle.input_text.specs.declared.input_stop.InputStop.TheVariants as stop
use Rattle.input_text.specs.Token.{Scan}
use Rattle.input_text.specs.Reads.{IsBehind, Reads}
use Rattle.input_text.specs.Judged.{reads}
use Rattle.blt_reader.specs.declared.line_bounds.LineBounds.{LineBounds}
use Rattle.blt_reader.specs.Blt.{AreLines}
use Rattle.blt_reader.specs.BallotTable.{Lines, Between}
use Rattle.blt_reader.specs.Pieces.{lines_table, ReadsPiece, ReadsOn}
use Rattle.blt_reader.specs.Stored.{ReadsHeld, HoldsLines}
use Rattle.ballot_pieces.specs.Found.{holds, no_ballots, text_from, IsFound}
use Rattle.ballot_pieces.specs.declared.at_count.AtCount.{AtCount}
use Rattle.ballot_pieces.specs.declared.found.Found.{Found}
use Rattle.input_text.proofs.Reading.{behind_itself, behind_trans}

count_both : (lines more : List BallotLine) → ballot_count (lines ++ more) ≡ ballot_count lines + ballot_count more
count_both lines more = sum_by-append (λ (l : BallotLine). l.count) lines more

-- packed ballots are as many as any lines of them
same_count :
    (packed : BallotList) (lines : List BallotLine) → holds packed lines
    → ballot_count packed.lines ≡ ballot_count lines
same_count packed lines held =
    omega (arith, length_permutation (plain packed.lines) (plain lines) held, length-plain packed.lines, length-plain lines)

-- lines of both, where these stay within the bounds together
lines_of_both :
    (candidates most : ℕ) (lines more : List BallotLine) → AreLines candidates most lines
    → AreLines candidates most more → ballot_count lines + ballot_count more ≤ most
    → AreLines candidates most (lines ++ more)
lines_of_both candidates most lines more are others few = record {
  rankings = All-append (λ (l : BallotLine). IsRanking candidates l.ranking) lines more are.rankings others.rankings;
  counted = All-append (λ (l : BallotLine). 1 ≤ l.count) lines more are.counted others.counted;
  bounded = omega (arith, few, count_both lines more);
}

module _ (bounds : LineBounds) where
  abbrev Piece_of : BallotList → Scan → BallotList → Scan → Type 0
  Piece_of = ReadsPiece holds bounds

  -- nothing was read yet
  pub nothing_read : (store : BallotList) (text : Scan) → Piece_of store text store text
  nothing_read store text = record {
    lines = [];
    held = λ before h. subst (holds store) (sym (append-nil before)) h;
    are = λ before h are. subst (AreLines bounds.candidates bounds.most) (sym (append-nil before)) are;
    same =
        λ before few.
        ap (λ (l : List BallotLine). reads (lines_table bounds) (Between l) text) (sym (append-nil before));
  }

  none_held : (candidates : ℕ) → holds (no_ballots candidates) []
  none_held candidates = IsPermutation-refl (plain [])

  no_lines : AreLines bounds.candidates bounds.most []
  no_lines = record {
    rankings = All-nil (λ (l : BallotLine). IsRanking bounds.candidates l.ranking);
    counted = All-nil (λ (l : BallotLine). 1 ≤ l.count);
    bounded = omega arith;
  }

  -- a piece, and one that begins where it ends
  module _
      (store own more all : BallotList) (start mid end : Scan) (first : Piece_of store start own mid)
      (second : Piece_of (no_ballots bounds.candidates) mid more end) (appended : all.lines ≡ own.lines ++ more.lines)
      (few : ballot_count own.lines + ballot_count more.lines ≤ bounds.most) where
    second_held : holds more second.lines
    second_held = second.held [] (none_held bounds.candidates)

    both_held : (before : List BallotLine) → holds store before → holds all ((before ++ first.lines) ++ second.lines)
    both_held before h =
        rw (appended, plain-append own.lines more.lines, plain-append (before ++ first.lines) second.lines)
        (IsPermutation-append (plain own.lines) (plain (before ++ first.lines)) (plain more.lines) (plain second.lines)
        (first.held before h) second_held)

    both_are :
        (before : List BallotLine) → holds store before → AreLines bounds.candidates bounds.most before
        → AreLines bounds.candidates bounds.most ((before ++ first.lines) ++ second.lines)
    both_are before h are =
        lines_of_both bounds.candidates bounds.most (before ++ first.lines) second.lines (first.are before h are)
        (second.are [] (none_held bounds.candidates) no_lines)
        (omega (
          arith,
          few,
          same_count own (before ++ first.lines) (first.held before h),
          same_count more second.lines second_held,
        ))

    pub both_read : Piece_of store start all end
    both_read =
        let behind : (before : List BallotLine) → (before ++ first.lines) ++ second.lines
        ≡ before ++ (first.lines ++ second.lines) =
        λ before. append_assoc before first.lines second.lines in
        record {
          lines = first.lines ++ second.lines;
          held = λ before h. subst (holds all) (behind before) (both_held before h);
          are =
              λ before h are.
              subst (AreLines bounds.candidates bounds.most) (behind before) (both_are before h are);
          same =
              λ before room.
              let both = count_both first.lines second.lines in
              first.same before (omega (arith, room, both))
              ∙ (second.same (before ++ first.lines) (omega (arith, room, both, count_both before first.lines))
              ∙ ap (λ (l : List BallotLine). reads (lines_table bounds) (Between l) end) (behind before));
        }

  -- ---- all lines

  read_before :
      (old mid new : Scan) (was is : Lines) (result : Result BallotList InputStop) (value : BallotList → List BallotLine)
      → reads (lines_table bounds) was old ≡ reads (lines_table bounds) is mid
      → Reads (lines_table bounds) is value mid result new → Reads (lines_table bounds) was value old result new
  read_before old mid new was is (Ok found) value same read = same ∙ read
  read_before old mid new was is (Err (stop.Fault fault)) value same read = same ∙ read
  read_before old mid new was is (Err stop.NoMemory) value same read = tt

  module _ (store found : BallotList) (old mid : Scan) (none : holds store []) (piece : Piece_of store old found mid) where
    pub some_lines : HoldsLines holds bounds.candidates bounds.most found
    some_lines = (piece.lines, piece.held [] none, piece.are [] none no_lines)

    pub all_read :
        (result : Result BallotList InputStop) (new : Scan) → ReadsOn holds bounds found mid result new
        → ReadsHeld holds (lines_table bounds) (Between []) (λ more lines. lines) old result new
    all_read result new read =
        let on = read piece.lines (piece.held [] none) (piece.are [] none no_lines) in (
          on.0,
          on.1,
          read_before old mid new (Between []) (Between piece.lines) result (λ more. on.0)
              (piece.same [] (omega (
                arith,
                (piece.are [] none no_lines).bounded,
                count_both [] piece.lines,
              ))) on.2,
        )

  -- ---- what was found

  pub nothing_found :
      (store : BallotList) (from : AtCount) → store.candidates ≡ bounds.candidates
      → IsFound bounds store from (record { ballots = store; to = from })
  nothing_found store from same = record {
    candidates = same;
    reads = nothing_read store (text_from from);
    behind = behind_itself from.tokens;
  }

  pub both_found :
      (store : BallotList) (from next : AtCount) (old found new : Found)
      → IsFound bounds (no_ballots bounds.candidates) next found → old.to ≡ next → new.to ≡ found.to
      → new.ballots.candidates ≡ bounds.candidates → new.ballots.lines ≡ old.ballots.lines ++ found.ballots.lines
      → ballot_count old.ballots.lines + ballot_count found.ballots.lines ≤ bounds.most
      → IsFound bounds store from old → IsFound bounds store from new
  both_found store from next old found new is meets ends candidates lines few before =
      let behind : IsFound bounds (no_ballots bounds.candidates) old.to found =
      subst (λ (a : AtCount). IsFound bounds (no_ballots bounds.candidates) a found) (sym meets) is in
      record {
        candidates = candidates;
        reads =
            subst (λ (a : AtCount). Piece_of store (text_from from) new.ballots (text_from a)) (sym ends)
            (both_read store old.ballots found.ballots new.ballots (text_from from) (text_from old.to) (text_from found.to)
            before.reads behind.reads lines few);
        behind =
            subst (λ (a : AtCount). IsBehind from.tokens a.tokens) (sym ends)
            (behind_trans before.behind behind.behind);
      }

-- pieces before the last one, and the last one
pub all_before_last : {X : Type 0} (P : X → Type 0) (xs : List X) (x : X) → All P (xs ++ x ∷ []) → All P xs × P x
all_before_last P xs x all = (
  λ k d inside.
      subst P (get_or_append_left xs (x ∷ []) d k inside) (all k d (omega (arith, inside, length-append xs (x ∷ [])))),
  subst P (get_or-append_seam xs x [] x) (all (length xs) x (omega (arith, length-append xs (x ∷ [])))),
)

-- what a slice of a whole list was changed to is the list
pub all_kept :
    {X : Type 0} (P : X → Type 0) (new items : List X) (len : ℕ) → length new ≡ length items → len ≡ length items
    → All P new → All P (take len (new ++ drop (length new) items))
all_kept P new items len same is all =
    let whole : len ≡ length new = omega (arith, same, is) in
    let behind = drop (length new) items in
    subst (All P) (sym (ap (λ (n : ℕ). take n (new ++ behind)) whole ∙ take-append_seam new behind)) all
