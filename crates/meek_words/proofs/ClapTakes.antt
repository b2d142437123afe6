-- clap takes words that are parts, and finds the values of the parts.
use Rattle.std.proofs.Common.{◌≡◌, ℕ, ◌≤◌, Bool, true, false, cond, ◌&&◌, List, [], ◌∷◌, length, map, Option}
use Rattle.std.proofs.Common.{None, refl, sym, ap, ap₂, ◌∙◌, arith, fold, is_some}
use Rattle.std.specs.List.{flat_map, list_all}
use Rattle.std.specs.Option.{option_to_list}
use Rattle.std.specs.Prelude.{slice_get}
use Rattle.std.proofs.lemmas.List.{append-nil}
use Rattle.clap.specs.Walk.{Row, Text, Walk, walked, walk, nothing_held, finished, rows_of, with_default}
use Rattle.clap.specs.Walk.{settled_rows, first_of}
use Rattle.clap.specs.Simple.{built, matches_of, entered}
use Rattle.clap.specs.Takes.{takes, walk_passes, settle_passes, entered_passes, default_passes, is_valid}
use Rattle.clap.specs.Matches.{first_value}
use Rattle.clap.specs.declared.parser.matches.Found.{Found}
use Rattle.clap.proofs.WalkLemmas.{first_value-rows}
use Rattle.clap.proofs.OnLiterals.{clap_on_literals}
use Rattle.meek_words.specs.Numerals.{Word}
use Rattle.meek_words.specs.Parts.{Part, AreParts, words_of, values_of}
use Rattle.meek_words.specs.ClapCommand.{command_line, id_of}
use Rattle.meek_words.specs.declared.option_name.OptionName.{OptionName}
use Rattle.meek_words.proofs.ClapRows.{row_for, first_found}
use Rattle.meek_words.proofs.ClapSteps.{shape, held, between}
use Rattle.meek_words.proofs.ClapWalk.{Stand, WalksTo, place_behind, walk_at, walk_parts}

abbrev start : Stand []
start = record { rows = []; pending = None; settles = refl; passes = refl }

whole_walk : (words : List Word) (parts : List Part) → AreParts words parts → WalksTo [] parts start
whole_walk words parts are = walk_parts [] parts start are.values are.once

cond_same : {A : Type 0} (b : Bool) (x : A) → cond b x x ≡ x
cond_same true x = refl
cond_same false x = refl

-- no option has a default
no_defaults : (rows : List Row) → fold with_default rows shape.rules ≡ rows
unfolding clap_on_literals
no_defaults rows = simp cond_same refl

-- the rest of the test, once the walk is known
after_walk : Walk → Bool → Bool
after_walk w passes =
    entered_passes (built command_line) w.stopped
    && (passes && (settle_passes shape.rules false w.held && (list_all default_passes shape.rules
    && is_valid shape (finished shape.rules w.held) (is_some (entered (built command_line) w.stopped)))))

takes_after_walk :
    (words : List Word)
    → takes command_line words
    ≡ after_walk (walk shape.rules [] nothing_held words) (walk_passes shape [] (between [] None 1) words)
unfolding clap_on_literals after_walk
takes_after_walk words = refl

after_walk-at :
    (rows : List Row) (pending : Option (Text × List Text)) (place : ℕ)
    → settle_passes shape.rules false (held rows pending) ≡ true
    → after_walk (between rows pending place) true ≡ true
unfolding clap_on_literals after_walk
after_walk-at rows pending place settles = simp settles refl

walk_is :
    (words : List Word) (parts : List Part) (are : AreParts words parts)
    → walk shape.rules [] nothing_held words
    ≡ walk_at (whole_walk words parts are).all (whole_walk words parts are).last
walk_is words parts are =
    ap (fold (walked shape.rules []) (between [] None 1))
    (are.spelled ∙ sym (append-nil (flat_map words_of parts)))
    ∙ (whole_walk words parts are).goes.walks []

walk_all_passes :
    (words : List Word) (parts : List Part) (are : AreParts words parts)
    → walk_passes shape [] (between [] None 1) words ≡ true
unfolding walk_passes
walk_all_passes words parts are =
    ap (walk_passes shape [] (between [] None 1)) (are.spelled ∙ sym (append-nil (flat_map words_of parts)))
    ∙ (whole_walk words parts are).goes.passes []

pub parts_taken : (words : List Word) (parts : List Part) → AreParts words parts → takes command_line words ≡ true
parts_taken words parts are =
    let whole = whole_walk words parts are in
    takes_after_walk words ∙ ap₂ after_walk (walk_is words parts are) (walk_all_passes words parts are)
    ∙ after_walk-at whole.last.rows whole.last.pending (place_behind whole.all) whole.last.passes

pub rows_found :
    (words : List Word) (parts : List Part) → AreParts words parts
    → matches_of command_line words ≡ map row_for parts
rows_found words parts are =
    let whole = whole_walk words parts are in
    ap (λ (w : Walk). finished shape.rules w.held) (walk_is words parts are)
    ∙ no_defaults (settled_rows shape.rules whole.last.pending whole.last.rows)
    ∙ whole.last.settles ∙ ap (map row_for) whole.are

one_or_none : (words : List Word) → length words ≤ 1 → option_to_list (slice_get words 0) ≡ words
one_or_none [] few = refl
one_or_none (word ∷ []) few = refl
one_or_none (word ∷ again ∷ words) few = absurd (omega arith)

-- the values of an option that clap finds are those of the parts
pub values_found :
    (found : Found) (words : List Word) (parts : List Part) (option : Option OptionName)
    → AreParts words parts
    → rows_of found ≡ matches_of command_line words
    → option_to_list (first_value found (id_of option)) ≡ values_of option parts
values_found found words parts option are rows =
    ap option_to_list (first_value-rows found (id_of option)
    ∙ ap (first_of (id_of option)) (rows ∙ rows_found words parts are) ∙ first_found option parts)
    ∙ one_or_none (values_of option parts) (are.once option)
