use Rattle.std.proofs.Common.{◌∙◌, ℕ, ◌+◌, ap, arith, drop, length, sym}
use Rattle.std.specs.Str.{chars}
use Rattle.std.proofs.lemmas.Iterator.{YieldsList-from_chars}
use Rattle.std.proofs.lemmas.Iterator.Consumers.{YieldsList-turn, YieldsList-end}
use Rattle.std.proofs.lemmas.List.{at_drop_all, length_push}
use Rattle.ballot_findings.specs.Signs.{is_stray}
use Rattle.ballot_findings.proofs.Windows.{or_first, or_next, strayed, strayed_one}
use Rattle.ballot_findings.proofs.odd.has_stray_sign.Goals as goal

pub returns-then-is_stray : goal.returns-then-is_stray
returns-then-is_stray c =
    let text = chars c.args.text.now in
    let n = length c.loop-sign.yielded in
    let s = c.in-Some.sign in
    let t =
    YieldsList-turn (YieldsList-from_chars c.args.text.now c.utf8.text cc) c.loop-sign.yielded _
    c.loop-sign.yielded_by _ _ s c.in-Some.is c.next.ensures.steps in
    let found = sym c.is_stray.ensures ∙ c.if-is_stray.true in
    sym (sym c.loop-sign.invariant
    ∙ (strayed_one text n s t c.loop-sign.first c.loop-sign.second c.loop-sign.third
    ∙ or_first (is_stray c.loop-sign.first c.loop-sign.second c.loop-sign.third s)
    (strayed c.loop-sign.second c.loop-sign.third s (drop (n + 1) text)) found))

pub loop-sign-preserved : goal.loop-sign-preserved
loop-sign-preserved c =
    let text = chars c.args.text.now in
    let n = length c.loop-sign.yielded in
    let s = c.in-Some.sign in
    let t =
    YieldsList-turn (YieldsList-from_chars c.args.text.now c.utf8.text cc) c.loop-sign.yielded _
    c.loop-sign.yielded_by _ _ s c.in-Some.is c.next.ensures.steps in
    let past = sym c.is_stray.ensures ∙ c.if-is_stray.false in
    ap (λ (k : ℕ). strayed c.loop-sign.second c.loop-sign.third s (drop k text)) (length_push c.loop-sign.yielded s)
    ∙ (sym (or_next (is_stray c.loop-sign.first c.loop-sign.second c.loop-sign.third s)
    (strayed c.loop-sign.second c.loop-sign.third s (drop (n + 1) text)) past)
    ∙ (sym (strayed_one text n s t c.loop-sign.first c.loop-sign.second c.loop-sign.third) ∙ c.loop-sign.invariant))

pub returns : goal.returns
returns c =
    let text = chars c.args.text.now in
    let t =
    YieldsList-end (YieldsList-from_chars c.args.text.now c.utf8.text cc) c.loop-sign.yielded _
    c.loop-sign.yielded_by _ _ c.in-None.is c.next.ensures.steps in
    sym (at_drop_all (strayed c.loop-sign.first c.loop-sign.second c.loop-sign.third) text (length c.loop-sign.yielded)
    (omega (arith, t.1)))
    ∙ c.loop-sign.invariant
