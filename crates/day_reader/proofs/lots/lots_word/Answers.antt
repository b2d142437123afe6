use Rattle.day_reader.proofs.TitleSteps.{another_word}
use Rattle.day_reader.proofs.lots.lots_word.Goals as goal

pub returns-in_default-keyword : goal.returns-in_default-keyword
returns-in_default-keyword c = (
  c.new-in_default-keyword.ensures,
  another_word _ c.in-Some.keyword c.in-Some.ensures.known c.in_default-keyword.not-Lots,
)
