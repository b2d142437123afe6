use Rattle.std.proofs.Common.{ℕ, ◌+◌, false, length, take, sym, ◌∙◌, ap, subst, arith, rules}
use Rattle.std.proofs.lemmas.List.{length-replicate}
use Rattle.std.proofs.lemmas.Result.{err_from_is_err_and}
use Rattle.plain_ballots.specs.Ranking.{IsRanking}
use Rattle.input_text.specs.Token.{Scan}
use Rattle.blt_reader.specs.Pieces.{counted}
use Rattle.input_text.proofs.Reading.{behind_trans, behind_itself, fewer_left}
use Rattle.blt_reader.proofs.HeldLines.{HeldSoFar, none_held, next_fails, within_limit, too_many_held}
use Rattle.blt_reader.proofs.HeldLines.{room_in_store, ranks_fail, one_more_held}
use Rattle.blt_reader.proofs.lines.read_lines_ahead.Goals as goal

pub returns-then-count-bounds-clause-refused : goal.returns-then-count-bounds-clause-refused
returns-then-count-bounds-clause-refused g c =
    rw c.refused.ensures
    (too_many_held g.B.BallotStore.holds c.args.bounds c.args.store _ c.loop-count.ballots c.loop-count.tokens.rest
    c.loop-count.count c.loop-count.at c.loop-count.invariant.so_far c.ballot_count.result c.ballot_count.ensures
    (omega (arith, c.loop-count-test.true)) (omega (arith, c.if-count-bounds.true)))

pub returns-in_err-len-clause-refused : goal.returns-in_err-len-clause-refused
returns-in_err-len-clause-refused g c =
    let p = err_from_is_err_and c.from_residual-in_err-len.result c.from_residual-in_err-len.ensures.1 in
    let fits =
    within_limit g.B.BallotStore.holds c.args.bounds c.args.store _ c.loop-count.ballots _ c.loop-count.invariant.so_far
    c.requires.held c.ballot_count.result c.ballot_count.ensures in
    rw (p.1, p.2) (ranks_fail g.B.BallotStore.holds c.args.bounds c.args.store _ c.loop-count.ballots c.loop-count.tokens.rest
    c.loop-count.count c.loop-count.at c.loop-count.invariant.so_far c.ballot_count.result c.ballot_count.ensures
    (omega (arith, c.loop-count-test.true)) (omega (arith, c.if-count-bounds.false)) fits
    (λ (len : ℕ). take len c.read_ranks.new.ranks) _ _ c.in_err-len.ensures.reads)

pub returns-in_err-next-clause-refused : goal.returns-in_err-next-clause-refused
returns-in_err-next-clause-refused g c =
    let p = err_from_is_err_and c.from_residual-in_err-next.result c.from_residual-in_err-next.ensures.1 in
    let fits =
    within_limit g.B.BallotStore.holds c.args.bounds c.args.store _ c.loop-count.ballots _ c.loop-count.invariant.so_far
    c.requires.held c.ballot_count.result c.ballot_count.ensures in
    let more =
    one_more_held g.B.BallotStore.holds c.args.bounds c.args.store _ c.loop-count.ballots c.loop-count.tokens.rest
    c.loop-count.count c.loop-count.at c.loop-count.invariant.so_far c.ballot_count.result c.ballot_count.ensures
    (omega (arith, c.loop-count-test.true)) (omega (arith, c.if-count-bounds.false)) fits c.take_line.new.self
    (take c.in_ok-len.len c.read_ranks.new.ranks) c.read_ranks.new.tokens.rest c.in_ok-len.ensures.reads
    c.in_ok-len.ensures.ranking c.in-Ok.ensures.lines in
    rw (p.1, p.2) (next_fails g.B.BallotStore.holds c.args.bounds c.args.store _ c.take_line.new.self _ more _ _
    c.in_err-next.ensures.fault)

pub loop-count-init : goal.loop-count-init
loop-count-init g c =
    record {
      so_far = none_held g.B.BallotStore.holds c.args.bounds c.args.store (counted c.args.first c.args.tokens.now.rest);
      among = c.requires.candidates;
      numbers = ap length c.in_ok-named.ensures ∙ length-replicate (c.args.bounds.candidates + 1) false;
      room = search rules;
      behind = behind_itself c.args.tokens.now;
    }

pub loop-count-preserved : goal.loop-count-preserved
loop-count-preserved g c =
    let before = c.loop-count.invariant in
    let start : Scan = counted c.args.first c.args.tokens.now.rest in
    let fits =
    within_limit g.B.BallotStore.holds c.args.bounds c.args.store start c.loop-count.ballots _ before.so_far
    c.requires.held c.ballot_count.result c.ballot_count.ensures in
    let more =
    one_more_held g.B.BallotStore.holds c.args.bounds c.args.store start c.loop-count.ballots c.loop-count.tokens.rest
    c.loop-count.count c.loop-count.at before.so_far c.ballot_count.result c.ballot_count.ensures
    (omega (arith, c.loop-count-test.true)) (omega (arith, c.if-count-bounds.false)) fits c.take_line.new.self
    (take c.in_ok-len.len c.read_ranks.new.ranks) c.read_ranks.new.tokens.rest c.in_ok-len.ensures.reads
    c.in_ok-len.ensures.ranking c.in-Ok.ensures.lines in
    record {
      so_far =
          subst
          (λ (s : Scan). HeldSoFar g.B.BallotStore.holds c.args.bounds c.args.store start c.take_line.new.self s)
          c.in_ok-next.ensures.number more;
      among = c.take_line.ensures.candidates ∙ before.among;
      numbers = c.in_ok-len.ensures.numbers ∙ before.numbers;
      room = c.in_ok-len.ensures.room ∙ before.room;
      behind = behind_trans before.behind (behind_trans c.in_ok-len.ensures.behind c.in_ok-next.ensures.behind);
    }

pub returns-in_err-len-clause-behind : goal.returns-in_err-len-clause-behind
returns-in_err-len-clause-behind g c = behind_trans c.loop-count.invariant.behind c.in_err-len.ensures.behind

pub returns-in_default-clause-behind : goal.returns-in_default-clause-behind
returns-in_default-clause-behind g c = behind_trans c.loop-count.invariant.behind c.in_ok-len.ensures.behind

pub returns-in_err-next-clause-behind : goal.returns-in_err-next-clause-behind
returns-in_err-next-clause-behind g c =
    behind_trans c.loop-count.invariant.behind
    (behind_trans c.in_ok-len.ensures.behind c.in_err-next.ensures.behind)

pub returns-in_err-named-clause-behind : goal.returns-in_err-named-clause-behind
returns-in_err-named-clause-behind g c = behind_itself c.args.tokens.now

pub returns-in_err-room-clause-behind : goal.returns-in_err-room-clause-behind
returns-in_err-room-clause-behind g c = behind_itself c.args.tokens.now

pub overflow_sub-bounds : goal.overflow_sub-bounds
overflow_sub-bounds g c =
    within_limit g.B.BallotStore.holds c.args.bounds c.args.store _ c.loop-count.ballots _ c.loop-count.invariant.so_far
    c.requires.held c.ballot_count.result c.ballot_count.ensures

pub take_line-requires-clause-ranking : goal.take_line-requires-clause-ranking
take_line-requires-clause-ranking g c =
    subst (λ (n : ℕ). IsRanking n (take c.in_ok-len.len c.read_ranks.new.ranks)) (sym c.loop-count.invariant.among)
    c.in_ok-len.ensures.ranking

pub take_line-requires-clause-room : goal.take_line-requires-clause-room
take_line-requires-clause-room g c =
    let fits =
    within_limit g.B.BallotStore.holds c.args.bounds c.args.store _ c.loop-count.ballots _ c.loop-count.invariant.so_far
    c.requires.held c.ballot_count.result c.ballot_count.ensures in
    room_in_store g.B.BallotStore.holds c.args.bounds c.args.store _ c.loop-count.ballots c.loop-count.tokens.rest
    c.loop-count.count c.loop-count.at c.loop-count.invariant.so_far c.ballot_count.result c.ballot_count.ensures
    (omega (arith, c.loop-count-test.true)) (omega (arith, c.if-count-bounds.false)) fits _ c.requires.most

pub loop-count-smaller : goal.loop-count-smaller
loop-count-smaller g c =
    omega (
      arith,
      c.in_ok-len.ensures.fewer,
      fewer_left c.read_ranks.new.tokens.rest c.next_number.new.self.rest
          _ c.in_ok-next.ensures.number,
    )
