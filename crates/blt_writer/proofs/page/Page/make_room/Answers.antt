use Rattle.std.proofs.Common.{ℕ, List, ◌++◌, ap, ◌∙◌, append-nil}
use Rattle.blt_writer.proofs.page.Page.make_room.Goals as goal

pub returns-clause-handed : goal.returns-clause-handed
returns-clause-handed g c = record {
  front = c.args.self.now;
  parts = ap (λ (l : List ℕ). c.args.self.now ++ l) c.flush.ensures.empty ∙ append-nil c.args.self.now;
  writes = c.flush.ensures.written;
}
