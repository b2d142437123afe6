-- How clap's walk goes over one part, whatever stood before it.
use Rattle.std.proofs.Common.{◌≡◌, ℕ, List, [], ◌∷◌, ◌++◌, Option, Some, None, refl, true, false, nat_eq, Bool, ◌&&◌}
use Rattle.clap.specs.Walk.{Held, Row, Text, Walk, walked, used, option, idle, has_row, settled_rows}
use Rattle.clap.specs.Simple.{Shape, built, is_simple}
use Rattle.clap.specs.Takes.{turn_passes, settle_passes}
use Rattle.clap.proofs.OnLiterals.{clap_on_literals}
use Rattle.meek_words.specs.Numerals.{Word}
use Rattle.meek_words.specs.Parts.{flag_of}
use Rattle.meek_words.specs.ClapCommand.{command_line, option_rule, id_of}
use Rattle.meek_words.specs.declared.option_name.OptionName.{OptionName}
use Rattle.meek_words.specs.declared.option_name.OptionName.TheVariants.{Lots, Shards, Workers}

abbrev pub shape : Shape
shape = (built command_line).top

abbrev pub held : List Row → Option (Text × List Text) → Held
held rows pending = record { rows = rows; pending = pending; skip = 0 }

-- between two parts
abbrev pub between : List Row → Option (Text × List Text) → ℕ → Walk
between rows pending position =
    record
    { held = held rows pending; waiting = idle; position = position; is_trailing = false; stopped = None }

-- after an option that waits for its value
abbrev pub waiting_for : OptionName → List Row → ℕ → Walk
waiting_for name rows position =
    record (between rows (Some (id_of (Some name), [])) position) { waiting = option (id_of (Some name)) }

pub command_line_simple : is_simple command_line ≡ true
unfolding clap_on_literals
command_line_simple = refl

-- `--name=value` is one use, after that of what was pending
pub one_word_walked :
    (name : OptionName) (rows : List Row) (pending : Option (Text × List Text)) (position : ℕ) (value : Word)
    → walked shape.rules [] (between rows pending position) (flag_of name ++ 61 ∷ value)
    ≡ between (used (option_rule (id_of (Some name))) (value ∷ []) (settled_rows shape.rules pending rows)) None position
unfolding clap_on_literals
one_word_walked Lots rows pending position value = refl
one_word_walked Shards rows pending position value = refl
one_word_walked Workers rows pending position value = refl

and_false : (a : Bool) → (a && false) ≡ false
and_false true = refl
and_false false = refl

pub one_word_passes :
    (name : OptionName) (rows : List Row) (pending : Option (Text × List Text)) (position : ℕ) (value : Word)
    → settle_passes shape.rules false (held rows pending) ≡ true
    → has_row (id_of (Some name)) (settled_rows shape.rules pending rows) ≡ false
    → turn_passes shape [] (between rows pending position) (flag_of name ++ 61 ∷ value) ≡ true
unfolding clap_on_literals
one_word_passes Lots rows pending position value settles first = simp (settles, first) refl
one_word_passes Shards rows pending position value settles first = simp (settles, first) refl
one_word_passes Workers rows pending position value settles first = simp (settles, first) refl

-- `--name` waits for a value
pub flag_walked : (name : OptionName) (rows : List Row) (pending : Option (Text × List Text)) (position : ℕ)
    → walked shape.rules [] (between rows pending position) (flag_of name)
    ≡ waiting_for name (settled_rows shape.rules pending rows) position
unfolding clap_on_literals
flag_walked Lots rows pending position = refl
flag_walked Shards rows pending position = refl
flag_walked Workers rows pending position = refl

pub flag_passes : (name : OptionName) (rows : List Row) (pending : Option (Text × List Text)) (position : ℕ)
    → settle_passes shape.rules false (held rows pending) ≡ true
    → turn_passes shape [] (between rows pending position) (flag_of name) ≡ true
unfolding clap_on_literals
flag_passes Lots rows pending position settles = simp settles refl
flag_passes Shards rows pending position settles = simp settles refl
flag_passes Workers rows pending position settles = simp settles refl

-- and takes a value that does not begin with a hyphen
pub value_walked : (name : OptionName) (rows : List Row) (position b : ℕ) (value : Word) → nat_eq b 45 ≡ false
    → walked shape.rules [] (waiting_for name rows position) (b ∷ value)
    ≡ between rows (Some (id_of (Some name), (b ∷ value) ∷ [])) position
unfolding clap_on_literals
value_walked Lots rows position b value plain = simp plain refl
value_walked Shards rows position b value plain = simp plain refl
value_walked Workers rows position b value plain = simp plain refl

pub value_passes : (name : OptionName) (rows : List Row) (position b : ℕ) (value : Word) → nat_eq b 45 ≡ false
    → turn_passes shape [] (waiting_for name rows position) (b ∷ value) ≡ true
unfolding clap_on_literals
value_passes Lots rows position b value plain = simp plain refl
value_passes Shards rows position b value plain = simp plain refl
value_passes Workers rows position b value plain = simp plain refl

-- a first plain word goes to the place of plain words
pub plain_walked : (rows : List Row) (pending : Option (Text × List Text)) (b : ℕ) (word : Word) → nat_eq b 45 ≡ false
    → walked shape.rules [] (between rows pending 1) (b ∷ word)
    ≡ between (settled_rows shape.rules pending rows) (Some (id_of None, (b ∷ word) ∷ [])) 2
unfolding clap_on_literals
plain_walked rows pending b word plain = simp (plain, and_false) refl

pub plain_passes : (rows : List Row) (pending : Option (Text × List Text)) (b : ℕ) (word : Word) → nat_eq b 45 ≡ false
    → settle_passes shape.rules false (held rows pending) ≡ true
    → turn_passes shape [] (between rows pending 1) (b ∷ word) ≡ true
unfolding clap_on_literals
plain_passes rows pending b word plain settles = simp (plain, and_false, settles) refl
