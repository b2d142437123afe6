use Rattle.std.proofs.Common.{◌≡◌, ◌∙◌, sym, ap, subst, ℕ, ◌+◌, ◌-◌, List, [], get_or, arith}
use Rattle.std.specs.Prelude.{Some, slice_get}
use Rattle.std.specs.List.{flat_map}
use Rattle.std.proofs.lemmas.Option.{get_or_from_slice_get}
use Rattle.std.proofs.lemmas.List.{take_all}
use Rattle.piece_text.specs.Writing.{Wrote, Stopped}
use Rattle.piece_text.proofs.Written.{wrote_nothing, wrote_more, stopped_at}
use Rattle.blt_writer.specs.Text.{quoted}
use Rattle.blt_writer.proofs.file.write_names.Goals as goal

-- the name at a place is that of the candidate with the next number
name_is :
    (names : List (List ℕ)) (k : ℕ) (bytes name : List ℕ) → bytes ≡ name
    → slice_get names (k + 1 - 1) ≡ Some name → bytes ≡ get_or names k []
name_is names k bytes name same is =
    let place : k + 1 - 1 ≡ k = omega arith in
    same ∙ (sym (get_or_from_slice_get names (k + 1 - 1) name [] is) ∙ ap (λ (j : ℕ). get_or names j []) place)

pub loop-before-init : goal.loop-before-init
loop-before-init g c = wrote_nothing _ _ _

pub loop-before-preserved : goal.loop-before-preserved
loop-before-preserved g c =
    let is = name_is c.args.roll.now.names c.loop-before.before _ _ c.bytes.ensures.value c.name.ensures in
    wrote_more quoted c.args.roll.now.names c.loop-before.before [] (omega arith) c.loop-before.invariant
    (subst (λ (l : List ℕ). Wrote g.K.Sink.written g.K.Sink.faults c.loop-before.sink c.write_quoted.new.sink
    (quoted l)) is c.in_ok-write_quoted.ensures)

pub returns-in_err-write_quoted : goal.returns-in_err-write_quoted
returns-in_err-write_quoted g c =
    let is = name_is c.args.roll.now.names c.loop-before.before _ _ c.bytes.ensures.value c.name.ensures in
    stopped_at quoted c.args.roll.now.names c.loop-before.before [] _ c.from_residual.ensures.0 (omega arith)
    c.loop-before.invariant
    (subst (λ (l : List ℕ). Stopped g.K.Sink.written g.K.Sink.faults c.loop-before.sink
    c.write_quoted.new.sink (quoted l)) is c.in_err-write_quoted.ensures)

pub returns : goal.returns
returns g c =
    subst (λ (front : List (List ℕ)). Wrote g.K.Sink.written g.K.Sink.faults c.args.sink.now
    c.loop-before.sink (flat_map quoted front))
    (take_all c.loop-before.before c.args.roll.now.names (omega arith)) c.loop-before.invariant
