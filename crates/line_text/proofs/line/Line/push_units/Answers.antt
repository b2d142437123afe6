use Rattle.std.proofs.Common.{◌≡◌, ℕ, ◌+◌, ◌/◌, ◌%◌, List, [], ◌∷◌, ◌++◌, length, ◌∙◌, ap, arith, length-append}
use Rattle.std.specs.Prelude.{decimal}
use Rattle.fixed_place.specs.Rounding.{scale}
use Rattle.fixed_place.specs.Text.{text_of, last_digits}
use Rattle.line_text.proofs.Digits.{length-last_digits}
use Rattle.line_text.proofs.line.Line.push_units.Goals as goal

pub push_last_digits-requires-clause-room : goal.push_last_digits-requires-clause-room
unfolding text_of
push_last_digits-requires-clause-room g c =
    let whole = decimal (c.args.units / scale g.row.P) in
    let digits = last_digits g.row.P (c.args.units % scale g.row.P) in
    let counted =
    c.push_count.ensures
    ∙ ap (λ (one : ℕ). c.args.self.now ++ decimal (c.args.units / one)) c.scale_of-one.ensures.value in
    let so_far : length c.push_bytes.new.self ≡ length c.args.self.now + length whole + 1 =
    ap length (c.push_bytes.ensures ∙ ap (λ (l : List ℕ). l ++ 46 ∷ []) counted)
    ∙ omega (arith, length-append (c.args.self.now ++ whole) (46 ∷ []), length-append c.args.self.now whole) in
    omega (
      arith,
      so_far,
      c.requires.room,
      length-append whole (46 ∷ digits),
      length-last_digits g.row.P (c.args.units % scale g.row.P),
    )
