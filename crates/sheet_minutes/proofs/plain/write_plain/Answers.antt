use Rattle.std.proofs.Common.{◌≡◌, ◌∙◌, ℕ, List, [], ◌++◌, sym, ap, subst, append_assoc, append-nil, map}
use Rattle.std.specs.Prelude.{encode_utf8}
use Rattle.std.specs.Str.{encode_utf8_all}
use Rattle.piece_text.specs.Writing.{Wrote, Writes}
use Rattle.piece_text.proofs.Written.{wrote_nothing, wrote_later, stopped_later, stops}
use Rattle.sheet_minutes.specs.Columns.{plain, tamed}
use Rattle.sheet_minutes.proofs.plain.write_plain.Goals as goal

-- the bytes of these characters
abbrev coming : List ℕ → List ℕ
coming chars = encode_utf8_all (map tamed chars)

pub loop-c-init : goal.loop-c-init
loop-c-init g c = ([], ap coming c.chars-rest.ensures.value, wrote_nothing _ _ _)

pub loop-c-preserved : goal.loop-c-preserved
loop-c-preserved g c =
    let now = c.loop-c.invariant in
    let bytes = encode_utf8 (tamed c.in-Some.c) in (
      now.0 ++ bytes,
      append_assoc now.0 bytes _ ∙ ap (λ (l : List ℕ). now.0 ++ coming l) (sym c.in-Some.ensures.steps) ∙ now.1,
      wrote_later now.2 c.in_ok-write_char.ensures,
    )

pub returns-in_err-write_char : goal.returns-in_err-write_char
returns-in_err-write_char g c =
    let now = c.loop-c.invariant in
    let bytes = encode_utf8 (tamed c.in-Some.c) in
    let others = coming c.next.new.self in
    let whole : (now.0 ++ bytes) ++ others ≡ plain c.args.text.now =
    append_assoc now.0 bytes others
    ∙ ap (λ (l : List ℕ). now.0 ++ coming l) (sym c.in-Some.ensures.steps) ∙ now.1 in
    subst (λ (l : List ℕ). Writes g.K.Sink.written g.K.Sink.faults c.args.sink.now c.write_char.new.sink l
    c.from_residual.result) whole
    (stops others c.from_residual.result c.from_residual.ensures.0 (stopped_later now.2 c.in_err-write_char.ensures))

pub returns : goal.returns
returns g c =
    let now = c.loop-c.invariant in
    let all =
    sym (append-nil now.0) ∙ ap (λ (l : List ℕ). now.0 ++ coming l) (sym c.in_default.ensures.steps.0) ∙ now.1 in
    subst (λ (l : List ℕ). Wrote g.K.Sink.written g.K.Sink.faults c.args.sink.now c.loop-c.sink l) all now.2
