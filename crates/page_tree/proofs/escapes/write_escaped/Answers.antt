use Rattle.std.proofs.Common.{◌≡◌, ◌∙◌, ℕ, List, [], ◌++◌, sym, ap, subst, append_assoc, append-nil}
use Rattle.std.proofs.Common.{encode_utf8, encode_utf8_all}
use Rattle.page_tree.specs.Escaping.{escaped, readable}
use Rattle.piece_text.specs.Writing.{Wrote, Stopped, Writes}
use Rattle.piece_text.proofs.Written.{wrote_nothing, wrote_later, stopped_later, stops}
use Rattle.page_tree.proofs.Escaping.{escaped-nil, escaped-append}
use Rattle.page_tree.proofs.escapes.write_escaped.Goals as goal

pub loop-c-init : goal.loop-c-init
loop-c-init g c = (
  [],
  ap encode_utf8_all c.chars-rest.ensures.value,
  subst (λ (l : List ℕ). Wrote g.K.Sink.written g.K.Sink.faults c.args.sink.now c.args.sink.now l)
      (sym (escaped-nil g.E.Escapes.escape)) (wrote_nothing _ _ _),
)

pub loop-c-preserved : goal.loop-c-preserved
loop-c-preserved g c =
    let now = c.loop-c.invariant in
    let bytes = encode_utf8 c.in-Some.c in
    let esc = g.E.Escapes.escape in
    let w = g.K.Sink.written in
    let f = g.K.Sink.faults in
    let is = c.as_bytes.ensures.value ∙ c.encode_utf8.ensures.value in
    let next =
    subst (λ (l : List ℕ). Wrote w f c.loop-c.sink c.write_each.new.sink (escaped esc l)) is
    c.in_ok-write_each.ensures in (
      now.0 ++ bytes,
      append_assoc now.0 bytes _ ∙ ap (λ (l : List ℕ). now.0 ++ encode_utf8_all l) (sym c.in-Some.ensures.steps) ∙ now.1,
      subst (λ (l : List ℕ). Wrote w f c.args.sink.now c.write_each.new.sink l)
          (sym (escaped-append esc now.0 bytes)) (wrote_later now.2 next),
    )

pub returns-in_err-write_each : goal.returns-in_err-write_each
returns-in_err-write_each g c =
    let now = c.loop-c.invariant in
    let bytes = encode_utf8 c.in-Some.c in
    let esc = g.E.Escapes.escape in
    let w = g.K.Sink.written in
    let f = g.K.Sink.faults in
    let is = c.as_bytes.ensures.value ∙ c.encode_utf8.ensures.value in
    let next =
    subst (λ (l : List ℕ). Stopped w f c.loop-c.sink c.write_each.new.sink (escaped esc l)) is
    c.in_err-write_each.ensures in
    let others = encode_utf8_all c.next.new.self in
    let whole : (escaped esc now.0 ++ escaped esc bytes) ++ escaped esc others ≡ escaped esc (readable c.args.text.now) =
    ap (λ (l : List ℕ). l ++ escaped esc others) (sym (escaped-append esc now.0 bytes))
    ∙ sym (escaped-append esc (now.0 ++ bytes) others)
    ∙ ap (escaped esc) (append_assoc now.0 bytes others
    ∙ ap (λ (l : List ℕ). now.0 ++ encode_utf8_all l) (sym c.in-Some.ensures.steps) ∙ now.1) in
    subst (λ (l : List ℕ). Writes w f c.args.sink.now c.write_each.new.sink l c.from_residual.result) whole
    (stops (escaped esc others) c.from_residual.result c.from_residual.ensures.0 (stopped_later now.2 next))

pub returns : goal.returns
returns g c =
    let now = c.loop-c.invariant in
    let all =
    sym (append-nil now.0)
    ∙ ap (λ (l : List ℕ). now.0 ++ encode_utf8_all l) (sym c.in_default.ensures.steps.0) ∙ now.1 in
    subst (λ (l : List ℕ). Wrote g.K.Sink.written g.K.Sink.faults c.args.sink.now c.loop-c.sink
    (escaped g.E.Escapes.escape l)) all now.2
