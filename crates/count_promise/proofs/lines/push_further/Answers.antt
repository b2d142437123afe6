use Rattle.std.proofs.Common.{◌≡◌, ◌∙◌, ◌++◌, [], List, ℕ, ap, append_assoc, subst}
use Rattle.std.specs.Prelude.{OnOk, codes}
use Rattle.fixed_place.specs.Rounding.{scale}
use Rattle.sheet_text.specs.Lines.{ended}
use Rattle.sheet_reader.specs.Values.{SheetList}
use Rattle.count_promise.specs.Left.{first_defeat, greatest_lack, greatest_surplus, slack}
use Rattle.count_promise.specs.Quota.{promised_quota}
use Rattle.count_promise.specs.Lines.{amount_line, greatest_line, promise_lines, whose_quota}
use Rattle.count_promise.proofs.lines.push_further.Goals as goal

-- four texts after one
behind : (old a b c d : List ℕ) → old ++ a ++ b ++ c ++ d ≡ old ++ (a ++ b ++ c ++ d)
behind old a b c d =
    ap (λ (l : List ℕ). l ++ d)
    (ap (λ (l : List ℕ). l ++ c) (append_assoc old a b) ∙ append_assoc old (a ++ b) c)
    ∙ append_assoc old (a ++ b ++ c) d

pub returns : goal.returns
returns c =
    let v : SheetList = c.args.values.now in
    let rows : c.items-rows.result.now ≡ v.rows = c.items-rows.ensures ∙ ap (λ (w : SheetList). w.rows) c.values.view_is in
    let greatest : c.peaks_of-peaks.result.surplus ≡ greatest_surplus v.rows =
    c.peaks_of-peaks.ensures.surplus ∙ ap greatest_surplus rows in
    let lack : c.peaks_of-peaks.result.lack ≡ greatest_lack v.rows = c.peaks_of-peaks.ensures.lack ∙ ap greatest_lack rows in
    let left : c.peaks_of-peaks.result.left ≡ slack v.rows = c.peaks_of-peaks.ensures.left ∙ ap slack rows in
    let quota : c.promised_quota-quota.result ≡ promised_quota v = c.promised_quota-quota.ensures.value in
    let whose : c.whose_quota.result.now ≡ whose_quota v.rows = c.whose_quota.ensures ∙ ap whose_quota rows in
    let one =
    c.in_ok-push_greatest.ensures
    ∙ (λ i. c.args.text.now ++ ended (greatest_line (first_defeat (greatest i) (rows i)))) in
    let two = c.in_ok-push_amount.ensures ∙ (λ i. one i ++ ended (amount_line (codes "seats lack at most ") (lack i) [])) in
    let three =
    c.in_ok-push_amount-2.ensures
    ∙ (λ i. two i ++ ended (amount_line (codes "quota ") (quota i) (whose i))) in
    let all =
    (λ i. three i ++ promise_lines (first_defeat (scale 9) (rows i)) (quota i) (left i))
    ∙ behind c.args.text.now (ended (greatest_line (first_defeat (greatest_surplus v.rows) v.rows)))
    (ended (amount_line (codes "seats lack at most ") (greatest_lack v.rows) []))
    (ended (amount_line (codes "quota ") (promised_quota v) (whose_quota v.rows)))
    (promise_lines (first_defeat (scale 9) v.rows) (promised_quota v) (slack v.rows)) in
    subst (λ (l : List ℕ). OnOk c.push_promise.result (c.push_promise.new.text ≡ l)) all c.push_promise.ensures
