-- A hall before the first change, and the text after the last one.
use Rattle.std.proofs.Common.{◌≡◌, ℕ, zero, suc, ◌+◌, ◌-◌, ◌<◌, ◌≤◌, List, [], length, replicate, refl, sym}
use Rattle.std.proofs.Common.{ap, ◌∙◌, subst, arith, None}
use Rattle.std.specs.List.{flat_map, range_with_len}
use Rattle.std.proofs.lemmas.List.{get_or-replicate, length-replicate}
use Rattle.std.proofs.lemmas.List.Elements.{All-nil}
use Rattle.plain_ballots.specs.declared.ballot_line.BallotLine.{BallotLine}
use Rattle.plain_ballots.specs.Ballots.{BallotList, plain}
use Rattle.batch_core.specs.declared.entry.Entry.{Entry}
use Rattle.batch_core.specs.Book.{empty, lines_of, standing, last_batch}
use Rattle.batch_core.specs.Histories.{IsLegal, after_all, standing_after}
use Rattle.batch_core.specs.Lawful.{AreLawful, MayStep, IsInRange}
use Rattle.batch_core.specs.Laws.{StandsInTheBook}
use Rattle.tally_board.specs.Desk.{Desk, new_desk}
use Rattle.tally_board.specs.Moves.{totals_after}
use Rattle.tally_cli.specs.declared.hall.Hall.{Hall}
use Rattle.tally_cli.specs.First.{first}
use Rattle.tally_cli.specs.Owed.{total_lines}
use Rattle.tally_cli.specs.Shown.{total, kept_for, AreKept, IsShown}
use Rattle.tally_cli.proofs.Standing.{last_is}
use Rattle.tally_cli.proofs.ShownSteps.{length_totals}
use Rattle.tally_cli.proofs.TotalLines.{lines_same}

none_from : (a n : ℕ) → flat_map (λ (number : ℕ). lines_of None) (range_with_len a n) ≡ []
none_from a zero = refl
none_from a (suc n) = none_from (a + 1) n

none_stand : standing empty ≡ []
none_stand = none_from 1 last_batch

none_kept :
    (n : ℕ) (kept : List BallotList) → kept ≡ replicate 9999 (record { candidates = n; lines = [] })
    → (batch : ℕ) → IsInRange batch
    → kept_for n kept batch ≡ record { candidates = n; lines = [] }
none_kept n kept is batch range =
    let none : BallotList = record { candidates = n; lines = [] } in
    let below : batch - 1 < 9999 = omega (arith, range.0, range.1) in
    ap (λ (k : List BallotList). kept_for n k batch) is ∙ get_or-replicate 9999 (batch - 1) none none below

-- a hall in which no ballots stand
pub nothing_shown :
    (hall : Hall) (n : ℕ) → n ≤ 250 → hall.book.candidates ≡ n → hall.book.shard ≡ 1 → hall.book.shards ≡ 1
    → hall.book.entries ≡ []
    → hall.scribe ≡ new_desk hall.scribe.board n
    → hall.kept.items ≡ replicate 9999 (record { candidates = n; lines = [] }) → IsShown hall
nothing_shown hall n few candidates shard shards entries board kept =
    let none : BallotList = record { candidates = n; lines = [] } in record {
      few = subst (λ (k : ℕ). k ≤ 250) (sym candidates) few;
      shard = shard;
      shards = shards;
      legal = subst IsLegal (sym entries) tt;
      lawful =
          subst (AreLawful hall.book.candidates) (sym entries)
          (All-nil (λ (e : Entry). MayStep hall.book.candidates e.call));
      candidates = ap (λ (d : Desk). d.candidates) board ∙ sym candidates;
      pending = ap (λ (d : Desk). d.pending) board;
      kept = subst (λ (es : List Entry). AreKept hall.book.candidates (after_all empty es) hall.kept.items) (sym entries)
          (subst (λ (k : ℕ). AreKept k empty hall.kept.items) (sym candidates)
          (record {
            all = ap length kept ∙ length-replicate 9999 none;
            of_candidates = λ b range. ap (λ (l : BallotList). l.candidates) (none_kept n hall.kept.items kept b range);
            lines = λ b range. ap (λ (l : BallotList). l.lines) (none_kept n hall.kept.items kept b range);
          }));
      totals = λ c some most.
          (λ i. total (totals_after (candidates i) (board i).published) c)
          ∙ (get_or-replicate n (c - 1) 0 0 (let less = subst (λ (k : ℕ). c ≤ k) candidates most in omega (arith, some, less))
          ∙ ((λ i. first (plain (sym none_stand i)) c)
          ∙ ap (λ (es : List Entry). first (plain (standing (after_all empty es))) c) (sym entries)));
    }

-- the totals in the end are those of what is in the end
pub shown_lines :
    StandsInTheBook → (hall : Hall) → IsShown hall → (n : ℕ) → hall.book.candidates ≡ n → (t : List ℕ)
    → t ≡ totals_after hall.scribe.candidates hall.scribe.published
    → total_lines (length t) (total t)
    ≡ total_lines n (first (plain (standing_after hall.book.entries (length hall.book.entries))))
shown_lines stands hall shown n candidates t is =
    let m = hall.book.candidates in
    let totals : t ≡ totals_after m hall.scribe.published =
    is ∙ ap (λ (k : ℕ). totals_after k hall.scribe.published) shown.candidates in
    let long : length t ≡ m = ap length totals ∙ length_totals m hall.scribe.published in
    ap (λ (k : ℕ). total_lines k (total t)) long
    ∙ (lines_same m (total t) (first (plain (standing_after hall.book.entries (length hall.book.entries))))
    (λ c some most. ap (λ (l : List ℕ). total l c) totals
    ∙ (shown.totals c some most
    ∙ ap (λ (l : List BallotLine). first (plain l) c) (sym (last_is stands hall.book.entries))))
    ∙ ap (λ (k : ℕ). total_lines k (first (plain (standing_after hall.book.entries (length hall.book.entries))))) candidates)
