use Rattle.std.proofs.Common.{◌≡◌, ℕ, ◌+◌, ◌*◌, ◌≤◌, arith}
use Rattle.fixed_place.specs.Rounding.{scale}
use Rattle.count_promise.proofs.laws.promise_holds_in_figures.Goals as goal

-- a quota and the slack are four votes
enough : (q over h : ℕ) → h ≡ 4 → q ≡ 3333333334 → over ≡ 666666666 → 1 * q + over ≤ h * scale 9
enough q over h h_is q_is over_is = rw (h_is, q_is, over_is) (omega arith)

pub returns : goal.returns
returns c rule units ballots coalition others roll lots text v members is moved solid running four quota slack =
    c.promises_hold.ensures.seats rule units ballots coalition others roll lots text v members 1 is moved solid running
    (enough _ _ _ four quota slack)
