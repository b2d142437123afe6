-- The line of a candidate who was withdrawn, and nothing of another.
use Rattle.std.specs.Prelude.{ℕ, Bool, List, [], if◌then◌else◌}
use Rattle.candidate_roll.specs.Roll.{is_withdrawn}
use Rattle.blt_writer.specs.Text.{withdrawn_text}

abbrev pub mark_text : (withdrawn : List Bool) → (candidate : ℕ) → List ℕ
mark_text withdrawn c = if is_withdrawn withdrawn c then withdrawn_text c else []
