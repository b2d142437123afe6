use Rattle.std.proofs.Common.{◌≡◌, ◌∙◌, ℕ, ◌-◌, ◌<◌, List, ◌++◌, [], length, replicate, sym, ap, subst, arith}
use Rattle.std.specs.List.{All}
use Rattle.std.proofs.lemmas.List.{get_or_default}
use Rattle.plain_ballots.specs.declared.ballot_line.BallotLine.{BallotLine}
use Rattle.plain_ballots.specs.Ballots.{BallotList, IsSound}
use Rattle.plain_ballots.specs.Ranking.{IsRanking}
use Rattle.tally_board.specs.declared.ballot_move.Move.{Move}
use Rattle.tally_board.specs.Desk.{Desk}
use Rattle.tally_board.specs.Moves.{AllCan, totals_after}
use Rattle.tally_cli.specs.LineMoves.{exchange}
use Rattle.tally_cli.specs.Shown.{total, kept_for, CanExchange}
use Rattle.tally_cli.proofs.MoveSteps.{fold_both}
use Rattle.tally_cli.proofs.ShownSteps.{Exchanges, exchanges, length_totals}
use Rattle.tally_cli.proofs.hall.Hall.show.Goals as goal

able :
    (n : ℕ) (kept : List BallotList) (batch : ℕ) (published : List Move) (found new : BallotList)
    → found ≡ kept_for n kept batch → (kept_for n kept batch).candidates ≡ n → new.candidates ≡ n
    → IsSound found.candidates found.lines → IsSound new.candidates new.lines
    → CanExchange n (totals_after n published) (kept_for n kept batch).lines new.lines
    → Exchanges n (totals_after n published) (kept_for n kept batch).lines new.lines
able n kept batch published found new is old_of new_of old_sound new_sound may =
    exchanges n (totals_after n published) (kept_for n kept batch).lines new.lines (length_totals n published)
    (subst (λ (k : ℕ). All (λ line. IsRanking k line.ranking) (kept_for n kept batch).lines) old_of
    (subst (λ (b : BallotList). All (λ line. IsRanking b.candidates line.ranking) b.lines) is old_sound.rankings))
    (subst (λ (k : ℕ). All (λ line. IsRanking k line.ranking) new.lines) new_of new_sound.rankings)
    may

pub exchange-requires-clause-moves : goal.exchange-requires-clause-moves
exchange-requires-clause-moves g c =
    let n = c.args.self.now.scribe.candidates in
    let kept = c.args.self.now.kept.items in
    let below : c.args.batch - 1 < length kept = omega (arith, c.requires.all, c.requires.batch.0, c.requires.batch.1) in
    let found : c.index.result.now ≡ kept_for n kept c.args.batch =
    c.index.ensures
    ∙ get_or_default kept (c.args.batch - 1) _ (record { candidates = n; lines = [] }) below in
    let old = c.lines.ensures.lines ∙ ap (λ (b : BallotList). b.lines) found in
    let does =
    able n kept c.args.batch c.args.self.now.scribe.published c.index.result.now c.args.ballots found
    c.requires.of_candidates c.requires.candidates c.lines.ensures.sound c.lines-2.ensures.sound
    c.requires.exchange in
    subst (λ (z : List BallotLine × List BallotLine). AllCan (totals_after n c.args.self.now.scribe.published)
    (exchange z.0 z.1)) (λ i. (sym old i, sym c.lines-2.ensures.lines i)) does.can

pub returns-clause-totals : goal.returns-clause-totals
returns-clause-totals g c k some most =
    let n = c.args.self.now.scribe.candidates in
    let kept = c.args.self.now.kept.items in
    let below : c.args.batch - 1 < length kept = omega (arith, c.requires.all, c.requires.batch.0, c.requires.batch.1) in
    let found : c.index.result.now ≡ kept_for n kept c.args.batch =
    c.index.ensures
    ∙ get_or_default kept (c.args.batch - 1) _ (record { candidates = n; lines = [] }) below in
    let old = c.lines.ensures.lines ∙ ap (λ (b : BallotList). b.lines) found in
    let does =
    able n kept c.args.batch c.args.self.now.scribe.published c.index.result.now c.args.ballots found
    c.requires.of_candidates c.requires.candidates c.lines.ensures.sound c.lines-2.ensures.sound
    c.requires.exchange in
    ap (λ (d : Desk). total (totals_after n d.published) k) c.in_ok-exchange.ensures
    ∙ ((λ i. total (totals_after n (c.args.self.now.scribe.published ++ exchange (old i) (c.lines-2.ensures.lines i))) k)
    ∙ (ap (λ (t : List ℕ). total t k) (fold_both (replicate n 0) c.args.self.now.scribe.published
    (exchange (kept_for n kept c.args.batch).lines c.args.ballots.lines))
    ∙ does.totals k some most))
