-- Which options stood so far.
use Rattle.std.specs.Prelude.{Bool, Option, Some, None}
use Rattle.meek_words.specs.declared.option_name.OptionName.{OptionName}
use Rattle.meek_words.specs.declared.option_name.OptionName.TheVariants.{Lots, Shards, Workers}
use Rattle.meek_words.specs.declared.stood.Stood.{Stood}

-- whether an option stood, or at None a plain word
abbrev pub stands : Stood → Option OptionName → Bool
stands stood (Some Lots) = stood.lots
stands stood (Some Shards) = stood.shards
stands stood (Some Workers) = stood.workers
stands stood None = stood.plain
