-- What day files share with ballot files, by the laws of these: rolls and ballot lines.
use Rattle.blt_reader.specs.Said.{FollowsOpenLists, ExpectsRightly, ExpectsLinesRightly}

pub record Shared : Type 0 where
  -- the front parts of a roll
  pub rolls : ExpectsRightly
  -- which of them can go on
  pub open_rolls : FollowsOpenLists
  -- the front parts of ballot lines
  pub lines : ExpectsLinesRightly
