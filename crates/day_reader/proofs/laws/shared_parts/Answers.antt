use Rattle.day_reader.proofs.laws.shared_parts.Goals as goal

pub returns : goal.returns
returns c =
    record {
      rolls = c.expects_rightly.ensures;
      open_rolls = c.follows_open_lists.ensures;
      lines = c.expects_lines_rightly.ensures;
    }
