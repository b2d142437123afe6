-- The options.
use Rattle.std.specs.Prelude.{Bool, true, false, codes}
use Rattle.meek_words.specs.Numerals.{Word}
use Rattle.check_words.specs.declared.check_option.CheckOption.{CheckOption}
use Rattle.check_words.specs.declared.check_option.CheckOption.TheVariants.{Lots, Rule, Places, Omega}

-- an option's word: two hyphens and its whole name
abbrev pub flag_of : CheckOption → Word
flag_of Lots = codes "--lots"
flag_of Rule = codes "--rule"
flag_of Places = codes "--places"
flag_of Omega = codes "--omega"

abbrev pub same_option : CheckOption → CheckOption → Bool
same_option Lots Lots = true
same_option Rule Rule = true
same_option Places Places = true
same_option Omega Omega = true
same_option _ _ = false
