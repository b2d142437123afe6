-- A hall goes on to show its book after one change more.
use Rattle.std.proofs.Common.{◌≡◌, ℕ, ◌+◌, ◌-◌, ◌≤◌, true, false, List, [], ◌∷◌, ◌++◌, length, replicate, set}
use Rattle.std.proofs.Common.{fold, map, refl, sym, ap, ◌∙◌, subst, arith, Option, Some, None}
use Rattle.std.specs.List.{All}
use Rattle.std.proofs.lemmas.List.{length-set, length-replicate, map-append}
use Rattle.std.proofs.lemmas.List.Elements.{All-push}
use Rattle.plain_ballots.specs.declared.ballot_line.BallotLine.{BallotLine}
use Rattle.plain_ballots.specs.Ballots.{BallotList, plain}
use Rattle.plain_ballots.specs.Ranking.{IsRanking}
use Rattle.batch_core.specs.declared.batch.Batch.{Batch}
use Rattle.batch_core.specs.declared.change.Change.{Change}
use Rattle.batch_core.specs.declared.call.Call.TheVariants.{Change as Changes}
use Rattle.batch_core.specs.declared.entry.Entry.{Entry}
use Rattle.batch_core.specs.declared.reply.Reply.{Reply}
use Rattle.batch_core.specs.Book.{BookState, empty, after, reply, batch_of, lines_of, standing, change_after}
use Rattle.batch_core.specs.Histories.{after_all, IsLegal}
use Rattle.batch_core.specs.Lawful.{IsLawful, AreLawful, MayStep}
use Rattle.batch_core.specs.Laws.{GrowsByAnAnswer, LeadsOn, StandsInTheBook, OneBatchIsReplaced, FewEnoughToCount}
use Rattle.tally_board.specs.declared.ballot_move.Move.{Move}
use Rattle.tally_board.specs.Desk.{Desk}
use Rattle.tally_board.specs.Moves.{AllCan, after_move, totals_after}
use Rattle.tally_cli.specs.declared.hall.Hall.{Hall}
use Rattle.tally_cli.specs.First.{first}
use Rattle.tally_cli.specs.LineMoves.{moves_of, exchange}
use Rattle.tally_cli.specs.Changes.{asked}
use Rattle.tally_cli.specs.Shown.{total, kept_for, AreKept, IsShown, IsLeft, CanExchange, AreExchanged}
use Rattle.tally_cli.proofs.MoveSteps.{fold_both, both_may}
use Rattle.tally_cli.proofs.Totals.{shifts}
use Rattle.tally_cli.proofs.Standing.{moved, held, few_stand, own_after, kept_more, kept_same, in_range}

length_after : (z : List ℕ) (moves : List Move) → length (fold after_move z moves) ≡ length z
length_after z [] = refl
length_after z (m ∷ moves) = length_after (after_move z m) moves ∙ length-set z (m.candidate - 1) _

pub length_totals : (n : ℕ) (moves : List Move) → length (totals_after n moves) ≡ n
length_totals n moves = length_after (replicate n 0) moves ∙ length-replicate n 0

-- the laws of books that the steps rest on
pub record Laws : Type 0 where
  pub grows : GrowsByAnAnswer
  pub leads : LeadsOn
  pub stands : StandsInTheBook
  pub replaced : OneBatchIsReplaced
  pub few : FewEnoughToCount

-- the moves of an exchange can be made, and do what they are to do
pub record Exchanges (n : ℕ) (z : List ℕ) (old new : List BallotLine) : Type 0 where
  pub can : AllCan z (exchange old new)
  pub totals : AreExchanged n z old new (fold after_move z (exchange old new))

pub exchanges :
    (n : ℕ) (z : List ℕ) (old new : List BallotLine) → length z ≡ n
    → All (λ line. IsRanking n line.ranking) old → All (λ line. IsRanking n line.ranking) new
    → CanExchange n z old new → Exchanges n z old new
exchanges n z old new long old_ranks new_ranks may =
    let gone = shifts false n z old long old_ranks may.going in
    let left = fold after_move z (moves_of false old) in
    let come = shifts true n left new gone.long new_ranks
    (λ c some most. subst (λ (t : ℕ). t + first (plain new) c ≤ 999999999) (sym (gone.totals c some most))
    (may.coming c some most)) in
    record {
      can = both_may z (moves_of false old) (moves_of true new) gone.can come.can;
      totals = λ c some most.
          ap (λ (t : List ℕ). total t c) (fold_both z (moves_of false old) (moves_of true new))
          ∙ (come.totals c some most ∙ ap (λ (t : ℕ). t + first (plain new) c) (gone.totals c some most));
    }

-- the entry of a change
abbrev pub entry_of : ℕ → Change → Reply → Entry
entry_of team change answer = record { caller = team; call = Changes change; reply = answer }

-- a change that was entered in the book of a hall
pub record IsEntered (hall new : Hall) (team : ℕ) (change : Change) (answer : Reply) : Type 0 where
  pub lawful : IsLawful hall.book.candidates change
  pub candidates : new.book.candidates ≡ hall.book.candidates
  pub shard : new.book.shard ≡ hall.book.shard
  pub shards : new.book.shards ≡ hall.book.shards
  pub answered : answer ≡ reply (after_all empty hall.book.entries) (Changes change)
  pub entries : new.book.entries ≡ hall.book.entries ++ entry_of team change answer ∷ []

-- what the book of a hall has after one change more, and the board still to be told of
shown_then :
    (hall new : Hall) (all : List Entry) → IsShown hall → new.book.candidates ≡ hall.book.candidates
    → new.book.shard ≡ hall.book.shard → new.book.shards ≡ hall.book.shards
    → new.book.entries ≡ all → IsLegal all → AreLawful hall.book.candidates all → (b : BookState) → after_all empty all ≡ b
    → new.scribe.candidates ≡ hall.scribe.candidates → new.scribe.pending ≡ []
    → AreKept hall.book.candidates b new.kept.items
    → ((c : ℕ) → 1 ≤ c → c ≤ hall.book.candidates
    → total (totals_after hall.book.candidates new.scribe.published) c ≡ first (plain (standing b)) c)
    → IsShown new
shown_then hall new all shown same shard shards entries legal lawful b book_is board pending kept totals = record {
  few = subst (λ (k : ℕ). k ≤ 250) (sym same) shown.few;
  shard = shard ∙ shown.shard;
  shards = shards ∙ shown.shards;
  legal = subst IsLegal (sym entries) legal;
  lawful = subst (λ (z : ℕ × List Entry). AreLawful z.0 z.1) (λ i. (sym same i, sym entries i)) lawful;
  candidates = board ∙ (shown.candidates ∙ sym same);
  pending = pending;
  kept = subst (λ (z : ℕ × BookState). AreKept z.0 z.1 new.kept.items) (λ i. (sym same i, sym of_book i)) kept;
  totals = λ c some most.
      (λ i. total (totals_after (same i) new.scribe.published) c)
      ∙ (totals c some (subst (λ (k : ℕ). c ≤ k) same most)
      ∙ ap (λ (z : BookState). first (plain (standing z)) c) (sym of_book));
}
  where
    of_book : after_all empty new.book.entries ≡ b
    of_book = ap (after_all empty) entries ∙ book_is

then_lawful :
    (hall new : Hall) (team : ℕ) (change : Change) (answer : Reply) → IsShown hall
    → IsEntered hall new team change answer
    → AreLawful hall.book.candidates (hall.book.entries ++ entry_of team change answer ∷ [])
then_lawful hall new team change answer shown entered =
    All-push (λ (e : Entry). MayStep hall.book.candidates e.call) hall.book.entries
    (entry_of team change answer) shown.lawful entered.lawful

-- the lines that a change leaves in its batch
left_lines :
    Laws → (hall new : Hall) (team : ℕ) (change : Change) (answer : Reply) (ballots : BallotList)
    → IsEntered hall new team change answer → IsLeft change answer (Some ballots)
    → lines_of ((after (after_all empty hall.book.entries) (Changes change)).batches (batch_of change)) ≡ ballots.lines
left_lines laws hall new team change answer ballots entered left =
    let book = after_all empty hall.book.entries in
    let kept = book.batches (batch_of change) in
    ap lines_of (own_after book change ∙ ap (change_after kept change) (sym entered.answered)) ∙ left kept

-- the old ballots of a batch may go, and those that its change leaves may come
pub may_exchange :
    Laws → (hall new : Hall) (team : ℕ) (change : Change) (answer : Reply) (ballots : BallotList)
    → IsShown hall → IsEntered hall new team change answer
    → IsLeft change answer (Some ballots)
    → CanExchange hall.book.candidates (totals_after hall.book.candidates hall.scribe.published)
    (kept_for hall.book.candidates hall.kept.items (batch_of change)).lines ballots.lines
may_exchange laws hall new team change answer ballots shown entered left =
    let n = hall.book.candidates in
    let book = after_all empty hall.book.entries in
    let k = batch_of change in
    let range = in_range n change entered.lawful in
    let old = (kept_for n hall.kept.items k).lines in
    let olds : (c : ℕ) → first (plain old) c ≡ first (plain (lines_of (book.batches k))) c =
    λ c. ap (λ (l : List BallotLine). first (plain l) c) (shown.kept.lines k range) in
    let news :
    (c : ℕ)
    → first (plain (lines_of ((after book (Changes change)).batches k))) c
    ≡ first (plain ballots.lines) c =
    λ c. ap (λ (l : List BallotLine). first (plain l) c)
    (left_lines laws hall new team change answer ballots entered left) in
    let few : (c : ℕ) → first (plain (standing (after book (Changes change)))) c ≤ 999999999 =
    λ c. subst (λ (b : BookState). first (plain (standing b)) c ≤ 999999999)
    (laws.leads hall.book.entries (entry_of team change answer))
    (few_stand laws.few laws.stands n c (hall.book.entries ++ entry_of team change answer ∷ [])
    (then_lawful hall new team change answer shown entered)) in
    record {
      going = λ c some most. omega (arith, shown.totals c some most, held book k c range, olds c);
      coming =
          λ c some most. omega (
            arith,
            shown.totals c some most,
            held book k c range,
            olds c,
            news c,
            moved laws.replaced book change c range,
            few c,
          );
    }

-- An accepted change, with its moves published.
pub accepted :
    Laws → (hall new : Hall) (team : ℕ) (change : Change) (answer : Reply) (ballots : BallotList)
    → IsShown hall → IsEntered hall new team change answer
    → IsLeft change answer (Some ballots) → ballots.candidates ≡ hall.book.candidates
    → new.kept.items ≡ set hall.kept.items (batch_of change - 1) ballots
    → new.scribe.candidates ≡ hall.scribe.candidates → new.scribe.pending ≡ []
    → AreExchanged hall.book.candidates (totals_after hall.book.candidates hall.scribe.published)
    (kept_for hall.book.candidates hall.kept.items (batch_of change)).lines ballots.lines
    (totals_after hall.book.candidates new.scribe.published)
    → IsShown new
accepted laws hall new team change answer ballots shown entered left candidates kept board pending totals =
    let n = hall.book.candidates in
    let book = after_all empty hall.book.entries in
    let entry = entry_of team change answer in
    let k = batch_of change in
    let range = in_range n change entered.lawful in
    let lines = left_lines laws hall new team change answer ballots entered left in
    shown_then hall new (hall.book.entries ++ entry ∷ []) shown entered.candidates entered.shard
    entered.shards entered.entries
    (laws.grows hall.book.entries entry shown.legal entered.answered) (then_lawful hall new team change answer shown entered)
    (after book (Changes change)) (laws.leads hall.book.entries entry)
    board pending
    (subst (AreKept n (after book (Changes change))) (sym kept)
    (kept_more n book change hall.kept.items ballots range shown.kept candidates lines))
    (λ c some most. totals c some most
    ∙ omega (
      arith,
      shown.totals c some most,
      held book k c range,
      ap (λ (l : List BallotLine). first (plain l) c) (shown.kept.lines k range),
      ap (λ (l : List BallotLine). first (plain l) c) lines,
      moved laws.replaced book change c range,
    ))

-- A change that was refused.
pub refused :
    Laws → (hall new : Hall) (team : ℕ) (change : Change) (answer : Reply) → IsShown hall
    → IsEntered hall new team change answer
    → IsLeft change answer None → new.kept.items ≡ hall.kept.items → new.scribe ≡ hall.scribe → IsShown new
refused laws hall new team change answer shown entered left kept board =
    let n = hall.book.candidates in
    let book = after_all empty hall.book.entries in
    let entry = entry_of team change answer in
    let k = batch_of change in
    let range = in_range n change entered.lawful in
    let same : (after book (Changes change)).batches k ≡ book.batches k =
    own_after book change
    ∙ (ap (change_after (book.batches k) change) (sym entered.answered) ∙ left (book.batches k)) in
    shown_then hall new (hall.book.entries ++ entry ∷ []) shown entered.candidates entered.shard
    entered.shards entered.entries
    (laws.grows hall.book.entries entry shown.legal entered.answered) (then_lawful hall new team change answer shown entered)
    (after book (Changes change)) (laws.leads hall.book.entries entry)
    (ap (λ (d : Desk). d.candidates) board) (ap (λ (d : Desk). d.pending) board ∙ shown.pending)
    (subst (AreKept n (after book (Changes change))) (sym kept) (kept_same n book change hall.kept.items shown.kept same))
    (λ c some most.
    ap (λ (d : Desk). total (totals_after n d.published) c) board
    ∙ (shown.totals c some most
    ∙ omega (arith, moved laws.replaced book change c range, ap (λ (b : Option Batch). first (plain (lines_of b)) c) same)))

-- who asked what, with one entry more
pub asked_more :
    (es all : List Entry) (team : ℕ) (change : Change) (answer : Reply)
    → all ≡ es ++ entry_of team change answer ∷ []
    → map asked all ≡ map asked es ++ (team, Changes change) ∷ []
asked_more es all team change answer is = ap (map asked) is ∙ map-append asked es (entry_of team change answer ∷ [])
