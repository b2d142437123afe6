use Rattle.std.proofs.Common.{ℕ, List, ◌++◌, length, drop, ◌∙◌, ap, arith}
use Rattle.line_text.proofs.Digits.{one_and_digits, length-last_digits}
use Rattle.line_text.proofs.line.Line.push_last_digits.Goals as goal

pub behind_first-digits-requires : goal.behind_first-digits-requires
behind_first-digits-requires g c =
    let text =
    one_and_digits _ c.scale_of.result g.row.P c.args.n
    (c.as_bytes-text.ensures.value ∙ c.format.ensures.text) c.scale_of.ensures.value
    c.scale_of.ensures.bound c.requires.below in
    omega (arith, ap length text)

pub push_bytes-requires : goal.push_bytes-requires
push_bytes-requires g c =
    let text =
    one_and_digits _ c.scale_of.result g.row.P c.args.n
    (c.as_bytes-text.ensures.value ∙ c.format.ensures.text) c.scale_of.ensures.value
    c.scale_of.ensures.bound c.requires.below in
    let digits = c.behind_first-digits.ensures ∙ ap (λ (l : List ℕ). drop 1 l) text in
    omega (arith, ap length digits, length-last_digits g.row.P c.args.n, c.requires.room)

pub returns : goal.returns
returns g c =
    let text =
    one_and_digits _ c.scale_of.result g.row.P c.args.n
    (c.as_bytes-text.ensures.value ∙ c.format.ensures.text) c.scale_of.ensures.value
    c.scale_of.ensures.bound c.requires.below in
    let digits = c.behind_first-digits.ensures ∙ ap (λ (l : List ℕ). drop 1 l) text in
    c.push_bytes.ensures ∙ ap (λ (l : List ℕ). c.args.self.now ++ l) digits
