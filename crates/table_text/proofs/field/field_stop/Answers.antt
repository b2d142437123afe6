use Rattle.std.proofs.Common.{Ok, Err, drop}
use Rattle.std.specs.Prelude.{Result, IfOk, IfErr}
use Rattle.table_text.proofs.Steps.{NotQuoted}
use Rattle.table_text.proofs.Over.{not_quoted_at, not_quoted_end, over_from_front, flaw_from_front}
use Rattle.table_text.proofs.field.field_stop.Goals as goal
use Rattle.table_text.proofs.field.field_stop.Goals.{else-at-bytes-via-then-at-bytes+else-bytes-at-eq-QUOTE}
use Rattle.table_text.proofs.field.field_stop.Goals.{else-at-bytes-via-else-at-bytes}

if_ok :
    {A E : Type 0} (found : Result A E) (P Q : A → Type 0) → ((x : A) → P x → Q x) → IfOk found P
    → IfOk found Q
if_ok (Ok x) P Q so is = so x is
if_ok (Err e) P Q so is = tt

if_err :
    {A E : Type 0} (found : Result A E) (P Q : E → Type 0) → ((e : E) → P e → Q e) → IfErr found P
    → IfErr found Q
if_err (Ok x) P Q so is = tt
if_err (Err e) P Q so is = so e is

pub returns-else-at-bytes-clause-over : goal.returns-else-at-bytes-clause-over
returns-else-at-bytes-clause-over c =
    let bytes = c.args.bytes.now in
    let plain : NotQuoted (drop c.args.at bytes) =
    elim c.else-at-bytes.branch [
      | else-at-bytes-via-then-at-bytes+else-bytes-at-eq-QUOTE w ↦
          not_quoted_at bytes c.args.at w.if-at-bytes.true
          w.if-bytes-at-eq-QUOTE.false
      | else-at-bytes-via-else-at-bytes w ↦ not_quoted_end bytes c.args.at w.if-at-bytes.false
    ] in
    if_ok c.plain_stop.result _ _ (over_from_front c.args.separator bytes c.args.at plain)
    c.plain_stop.ensures.over

pub returns-else-at-bytes-clause-flaw : goal.returns-else-at-bytes-clause-flaw
returns-else-at-bytes-clause-flaw c =
    let bytes = c.args.bytes.now in
    let plain : NotQuoted (drop c.args.at bytes) =
    elim c.else-at-bytes.branch [
      | else-at-bytes-via-then-at-bytes+else-bytes-at-eq-QUOTE w ↦
          not_quoted_at bytes c.args.at w.if-at-bytes.true
          w.if-bytes-at-eq-QUOTE.false
      | else-at-bytes-via-else-at-bytes w ↦ not_quoted_end bytes c.args.at w.if-at-bytes.false
    ] in
    if_err c.plain_stop.result _ _ (flaw_from_front c.args.separator bytes c.args.at plain)
    c.plain_stop.ensures.flaw
