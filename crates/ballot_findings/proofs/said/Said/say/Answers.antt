use Rattle.std.proofs.Common.{◌≡◌, true, cond}
use Rattle.std.specs.Str.{bytes_eq}
use Rattle.ballot_findings.specs.Said.{has}
use Rattle.ballot_findings.proofs.said.Said.say.Goals as goal

pub returns-clause-more : goal.returns-clause-more
returns-clause-more c = λ other.
    let h :
    has (record { rankings = c.insert.new.self }) other
    ≡ cond (bytes_eq c.args.ranking.now other) true (has c.args.self.now other) =
    c.in_ok-is_new.ensures.updates.0 (record { ref_ptr = c.args.ranking.ref_ptr; now = other }) in
    h
