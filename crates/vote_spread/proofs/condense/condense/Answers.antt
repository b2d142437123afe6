use Rattle.std.proofs.Common.{◌≡◌, ◌+◌, ◌-◌, ◌≤◌, leb, [], length, get_or, arith, ap, sym, subst, ◌∙◌, Some, None}
use Rattle.vote_spread.specs.declared.branch.Branch.{Branch}
use Rattle.vote_spread.specs.Stem.{stems_of}
use Rattle.vote_spread.specs.Rows.{seen}
use Rattle.vote_spread.proofs.Underway.{underway-begin, underway-end}
use Rattle.vote_spread.proofs.CondenseLemmas.{underway-before, underway-next, underway-jump}
use Rattle.vote_spread.proofs.RoomLemmas.{room-begin, room-falls}
use Rattle.vote_spread.proofs.BranchLemmas.{parted_branch, room_branch, counted_inside, length-stems, IsCounted}
use Rattle.vote_spread.proofs.BranchLemmas.{same_candidate, ranks_long, ranks_shorter, ranks_all, entered, leaves_same}
use Rattle.vote_spread.proofs.condense.condense.Goals as goal

-- what stands past the end of a list of branches
abbrev none : Branch
none = record { ballots = 0; skip = 0; tail = 0; depth = 0; candidate = 0; length = 0 }

pub loop-i-init : goal.loop-i-init
loop-i-init c =
    let stems = stems_of c.args.tails.now c.args.branches.now in
    let empty : seen c.clear.new.self.items ≡ [] = ap seen c.clear.ensures.items in
    record {
      capacity = c.clear.ensures.capacity;
      room = omega (arith, c.clear.ensures.len, room-begin stems c.args.from c.args.to, c.requires.room);
      underway = rw empty (underway-begin c.args.classes.now stems c.args.from c.args.to c.requires.walk);
    }

pub loop-i-smaller-then-i-skip : goal.loop-i-smaller-then-i-skip
loop-i-smaller-then-i-skip c =
    let here =
    parted_branch c.args.tails.now c.args.branches.now c.loop-i.i none (omega arith)
    c.loop-i.invariant.underway.at in
    omega (arith, here.some)

pub loop-i-preserved-then-i-skip : goal.loop-i-preserved-then-i-skip
loop-i-preserved-then-i-skip c =
    let tails = c.args.tails.now in
    let branches = c.args.branches.now in
    let i = c.loop-i.i in
    let inv = c.loop-i.invariant in
    let here = parted_branch tails branches i none (omega arith) inv.underway.at in
    record {
      capacity = inv.capacity;
      room =
          omega (
            arith,
            inv.room,
            room-falls (stems_of tails branches) c.args.from c.args.to i
                (i + (get_or branches i none).skip) (omega arith),
          );
      underway = underway-before inv.underway here c.if-i-skip.true;
    }

pub overflow_sub-at : goal.overflow_sub-at
overflow_sub-at c =
    let here =
    parted_branch c.args.tails.now c.args.branches.now c.loop-i.i none (omega arith)
    c.loop-i.invariant.underway.at in
    here.placed.below_root

pub bounds-reached-branch : goal.bounds-reached-branch
bounds-reached-branch c =
    let here =
    parted_branch c.args.tails.now c.args.branches.now c.loop-i.i none (omega arith)
    c.loop-i.invariant.underway.at in
    omega (arith, here.placed.shallow)

pub bounds-reached-branch-in-Some : goal.bounds-reached-branch-in-Some
bounds-reached-branch-in-Some c =
    let here =
    parted_branch c.args.tails.now c.args.branches.now c.loop-i.i none (omega arith)
    c.loop-i.invariant.underway.at in
    omega (arith, here.placed.shallow)

pub tail_of-requires : goal.tail_of-requires
tail_of-requires c =
    let tails = c.args.tails.now in
    let b = get_or c.args.branches.now c.loop-i.i none in
    let counts = leb c.args.from c.loop-i.i in
    subst (λ (x : Branch). x.tail + x.length ≤ length tails) (sym c.counted-counted.ensures)
    (counted_inside counts tails b (c.requires.tails c.loop-i.i none (omega arith)))

pub enter-requires : goal.enter-requires
enter-requires c =
    let tails = c.args.tails.now in
    let branches = c.args.branches.now in
    let i = c.loop-i.i in
    let b = get_or branches i none in
    let inv = c.loop-i.invariant in
    let here = parted_branch tails branches i none (omega arith) inv.underway.at in
    let its : IsCounted (leb c.args.from i) tails b c.counted-counted.result c.tail_of.result.now =
    record { is = c.counted-counted.ensures; tail = c.tail_of.ensures } in
    let low =
    inv.underway.climbs.low (b.depth - 1) (omega (arith, here.placed.below_root, here.placed.not_too_deep)) in
    record {
      candidate = (
        omega (arith, same_candidate its, here.placed.candidate),
        omega (arith, same_candidate its, here.placed.known),
      );
      ranks = ranks_all its (λ r. (1 ≤ r) × (r ≤ length c.args.classes.now)) here.placed.ranks;
      depth = omega (arith, ranks_shorter its, here.placed.shallow, here.placed.below_root, low);
      room =
          omega (
            arith,
            ranks_long its (c.requires.tails i none (omega arith)),
            room_branch tails branches i none c.args.from c.args.to c.requires.tails c.loop-i-test.true c.requires.range,
            inv.room,
            inv.capacity,
          );
    }

pub loop-i-preserved-in-Some : goal.loop-i-preserved-in-Some
loop-i-preserved-in-Some c =
    let tails = c.args.tails.now in
    let branches = c.args.branches.now in
    let i = c.loop-i.i in
    let b = get_or branches i none in
    let inv = c.loop-i.invariant in
    let here = parted_branch tails branches i none (omega arith) inv.underway.at in
    let its : IsCounted (leb c.args.from i) tails b c.counted-counted.result c.tail_of.result.now =
    record { is = c.counted-counted.ensures; tail = c.tail_of.ensures } in
    record {
      capacity = c.enter.ensures.capacity ∙ inv.capacity;
      room =
          omega (
            arith,
            ranks_long its (c.requires.tails i none (omega arith)),
            room_branch tails branches i none c.args.from c.args.to c.requires.tails c.loop-i-test.true c.requires.range,
            inv.room,
            c.enter.ensures.few,
          );
      underway =
          underway-next inv.underway here c.loop-i-test.true
          (omega (arith, c.requires.range, length-stems tails branches)) (entered its c.enter.ensures.continues)
          c.in-Some.below
          (leaves_same its c.args.classes.now (get_or c.loop-i.reached (b.depth - 1) 0)
          (seen c.loop-i.rows.items) (seen c.enter.new.rows.items) (Some c.in-Some.below)
          c.in-Some.ensures.leaves);
    }

pub loop-i-smaller : goal.loop-i-smaller
loop-i-smaller c =
    let here =
    parted_branch c.args.tails.now c.args.branches.now c.loop-i.i none (omega arith)
    c.loop-i.invariant.underway.at in
    omega (arith, here.some)

pub loop-i-preserved : goal.loop-i-preserved
loop-i-preserved c =
    let tails = c.args.tails.now in
    let branches = c.args.branches.now in
    let i = c.loop-i.i in
    let b = get_or branches i none in
    let inv = c.loop-i.invariant in
    let here = parted_branch tails branches i none (omega arith) inv.underway.at in
    let its : IsCounted (leb c.args.from i) tails b c.counted-counted.result c.tail_of.result.now =
    record { is = c.counted-counted.ensures; tail = c.tail_of.ensures } in
    record {
      capacity = c.enter.ensures.capacity ∙ inv.capacity;
      room =
          omega (
            arith,
            ranks_long its (c.requires.tails i none (omega arith)),
            room_branch tails branches i none c.args.from c.args.to c.requires.tails c.loop-i-test.true c.requires.range,
            inv.room,
            c.enter.ensures.few,
            room-falls (stems_of tails branches) c.args.from c.args.to (i + 1) (i + b.skip) (omega (arith, here.some)),
          );
      underway =
          underway-jump inv.underway here c.loop-i-test.true
          (omega (arith, c.requires.range, length-stems tails branches)) (entered its c.enter.ensures.continues)
          (leaves_same its c.args.classes.now (get_or c.loop-i.reached (b.depth - 1) 0)
          (seen c.loop-i.rows.items) (seen c.enter.new.rows.items) None c.in-None.ensures.leaves);
    }

pub returns-clause-stand : goal.returns-clause-stand
returns-clause-stand c = underway-end c.loop-i-test.false c.loop-i.invariant.underway
