-- The command line as clap is told of it.
use Rattle.std.specs.Prelude.{Some, None, Option, true, codes}
use Rattle.clap.specs.Walk.{Rule, Text}
use Rattle.clap.specs.Simple.{App, on_top, with_rule, new_rule, new_app}
use Rattle.clap.specs.declared.builder.action.ArgAction.TheVariants.{Set}
use Rattle.meek_words.specs.declared.option_name.OptionName.{OptionName}
use Rattle.meek_words.specs.declared.option_name.OptionName.TheVariants.{Lots, Shards, Workers}

-- clap's name of an option, or of a plain word
abbrev pub id_of : Option OptionName → Text
id_of (Some Lots) = codes "lots"
id_of (Some Shards) = codes "shards"
id_of (Some Workers) = codes "workers"
id_of None = codes "plain"

-- an option is called by its name and has one value
abbrev pub option_rule : Text → Rule
option_rule name = record (new_rule name) { long = Some name; action = Some Set }

-- a plain word has no name
abbrev pub plain_rule : Rule
plain_rule = record (new_rule (codes "plain")) { action = Some Set }

-- a command without help and version, whose words begin after the program's name
abbrev pub bare : App
bare = on_top (λ s. record s {
  no_binary_name = true;
  disable_help_flag = true;
  disable_version_flag = true;
}) (new_app (codes "meek"))

abbrev pub three_options : App
three_options =
    with_rule (with_rule (with_rule bare (option_rule (codes "lots"))) (option_rule (codes "shards")))
    (option_rule (codes "workers"))

-- the three options and the plain word
abbrev pub command_line : App
command_line = with_rule three_options plain_rule
