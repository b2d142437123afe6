use Rattle.std.proofs.Common.{◌∙◌, ap, List, Some, None, map, string_bytes}
use Rattle.std.specs.Option.{option_to_list}
use Rattle.clap.specs.Simple.{App, is_simple, matches_of}
use Rattle.clap.specs.Takes.{takes}
use Rattle.clap.specs.Matches.{found_of}
use Rattle.meek_words.specs.Numerals.{Word}
use Rattle.meek_words.specs.declared.option_name.OptionName.TheVariants.{Lots, Shards, Workers}
use Rattle.meek_words.proofs.ClapSteps.{command_line_simple}
use Rattle.meek_words.proofs.ClapTakes.{parts_taken, values_found}
use Rattle.meek_words.proofs.found.values.Goals as goal

pub unreachable-requires : goal.unreachable-requires
unreachable-requires c =
    let words : List Word = map string_bytes c.args.words.now in
    let (parts, are) = c.requires in
    let taken = ap (λ (app : App). takes app words) c.in_ok-command.ensures ∙ parts_taken words parts are in
    c.in_default.not-OutOfMemory (c.kind.ensures ∙ c.in-Err.ensures.passes taken)

pub returns-in-Ok-clause-found : goal.returns-in-Ok-clause-found
returns-in-Ok-clause-found c parts are =
    let words : List Word = map string_bytes c.args.words.now in
    let app = c.in_ok-command.ensures in
    let rows =
    (c.in-Ok.ensures.matches (ap is_simple app ∙ command_line_simple)).0
    ∙ ap (λ (a : App). matches_of a words) app in
    let lots =
    ap option_to_list c.get_str.ensures
    ∙ values_found (found_of c.in-Ok.matches) words parts (Some Lots) are rows in
    let shards =
    ap option_to_list c.get_str-in-Ok.ensures
    ∙ values_found (found_of c.in-Ok.matches) words parts (Some Shards) are rows in
    let workers =
    ap option_to_list c.get_str-in-Ok-2.ensures
    ∙ values_found (found_of c.in-Ok.matches) words parts (Some Workers) are rows in
    let plain =
    ap option_to_list c.get_str-in-Ok-3.ensures
    ∙ values_found (found_of c.in-Ok.matches) words parts None are rows in
    λ i. record { lots = lots i; shards = shards i; workers = workers i; plain = plain i }
