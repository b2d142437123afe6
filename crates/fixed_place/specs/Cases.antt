-- Roundings worked by hand.
use Rattle.std.specs.Prelude.{ℕ, ◌==◌, not, Bool}
use Rattle.fixed_place.specs.Rounding.{scale, up}
use Rattle.fixed_place.specs.declared.round_case.RoundCase.{RoundCase}

-- the amount said to be kept is not the one rounded up
abbrev pub is_wrong : (places : ℕ) → RoundCase places → Bool
is_wrong places case = not (up (scale places) case.a case.k == case.kept)
