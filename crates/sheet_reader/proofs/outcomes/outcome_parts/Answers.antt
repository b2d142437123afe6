use Rattle.std.proofs.Common.{◌+◌, ◌++◌, ◌∷◌, arith}
use Rattle.std.specs.Prelude.{decimal}
use Rattle.sheet_text.specs.Lines.{state_word}
use Rattle.sheet_reader.proofs.Cuts.{none_some, some_is, without_none}
use Rattle.sheet_reader.proofs.WordLines.{number_cut, state_cut}
use Rattle.sheet_reader.proofs.outcomes.outcome_parts.Goals as goal

pub returns-in_default : goal.returns-in_default
returns-in_default c state name is =
    without_none 32 (decimal (c.args.p + 1)) (state_word state ++ 32 ∷ name) c.args.text.now c.in_default.ensures is

pub returns-in_default-cut : goal.returns-in_default-cut
returns-in_default-cut c state name is =
    let first =
    number_cut c.args.text.now _ _ (state_word state ++ 32 ∷ name) (c.args.p + 1) c.in-Some.ensures.0
    c.in-Some.ensures.1 (omega (arith, c.requires)) is in
    without_none 32 (state_word state) name _ c.in_default-cut.ensures first.1

pub returns-in_default-read_count : goal.returns-in_default-read_count
returns-in_default-read_count c state name is =
    let first =
    number_cut c.args.text.now _ _ (state_word state ++ 32 ∷ name) (c.args.p + 1) c.in-Some.ensures.0
    c.in-Some.ensures.1 (omega (arith, c.requires)) is in
    none_some _ (c.args.p + 1) c.in_default-read_count.is
    (c.read_count.ensures.whole (c.args.p + 1) (omega (arith, c.requires)) first.0)

pub returns-then-c-p : goal.returns-then-c-p
returns-then-c-p c state name is =
    let first =
    number_cut c.args.text.now _ _ (state_word state ++ 32 ∷ name) (c.args.p + 1) c.in-Some.ensures.0
    c.in-Some.ensures.1 (omega (arith, c.requires)) is in
    c.if-c-p.true (some_is _ _ _ c.in-Some-read_count.is
    (c.read_count.ensures.whole (c.args.p + 1) (omega (arith, c.requires)) first.0))

pub returns-in-None : goal.returns-in-None
returns-in-None c state name is =
    let first =
    number_cut c.args.text.now _ _ (state_word state ++ 32 ∷ name) (c.args.p + 1) c.in-Some.ensures.0
    c.in-Some.ensures.1 (omega (arith, c.requires)) is in
    none_some _ state c.in-None.is (c.read_state.ensures.whole state
    (state_cut _ _ _ name state c.in-Some-cut.ensures.0 c.in-Some-cut.ensures.1 first.1).0)
