use Rattle.std.proofs.Common.{◌≡◌, ◌+◌, ◌≤◌, List, ℕ, length, sym, ◌∙◌, ap, subst, arith}
use Rattle.std.proofs.lemmas.List.{take_rest}
use Rattle.std.proofs.Common.{length-drop}
use Rattle.input_text.specs.Token.{Item, with_front}
use Rattle.input_text.specs.Scan.{piece, cut}
use Rattle.input_text.specs.Reader.{said, placed, IsTokenAt}
use Rattle.input_text.proofs.Cutting.{over_gap, over_lexeme, at_wrong, at_unclosed, at_end, same_said, token_moved}
use Rattle.input_text.proofs.tokens.next_from.Goals as goal

-- a gap is passed over
pub loop-at-preserved : goal.loop-at-preserved
loop-at-preserved c =
    let bytes = c.args.bytes.now in
    let at = c.loop-at.at in
    let rest = take_rest bytes at in
    let found = sym (c.in-Gap.ensures.is ∙ ap (piece c.args.letters) rest) in
    let fits : at + c.in-Gap.n ≤ length bytes =
    omega (arith, c.in-Gap.ensures.within, ap length rest, length-drop at bytes) in
    record {
      within = fits;
      same =
          c.loop-at.invariant.same
          ∙ over_gap c.args.letters bytes at c.in-Gap.n c.loop-at-test.true found c.in-Gap.ensures.within.0
          fits;
    }

pub returns-in-Lexeme-clause-gives : goal.returns-in-Lexeme-clause-gives
returns-in-Lexeme-clause-gives c =
    let bytes = c.args.bytes.now in
    let at = c.loop-at.at in
    let n = c.in-Lexeme.n in
    let rest = take_rest bytes at in
    let found = sym (c.in-Lexeme.ensures.is ∙ ap (piece c.args.letters) rest) in
    let fits : at + n ≤ length bytes = omega (arith, c.in-Lexeme.ensures.within, ap length rest, length-drop at bytes) in
    let item = ap (λ (front : List ℕ). said front 0 n c.in-Lexeme.what) rest ∙ same_said bytes at n c.in-Lexeme.what in
    c.loop-at.invariant.same
    ∙ over_lexeme c.args.letters bytes at n c.loop-at-test.true _ found c.in-Lexeme.ensures.within.0 fits
    ∙ ap (λ (i : Item). with_front (record { at = at; item = i }) (cut c.args.letters 0 (at + n) bytes)) item
    ∙ ap (with_front (placed bytes (record { at = at; stop = at + n; what = c.in-Lexeme.what })))
    (c.past_separator-behind.ensures.same c.args.letters)

pub returns-in-Wrong-clause-gives : goal.returns-in-Wrong-clause-gives
returns-in-Wrong-clause-gives c =
    let bytes = c.args.bytes.now in
    let at = c.loop-at.at in
    let found = sym (c.in-Wrong.ensures.is ∙ ap (piece c.args.letters) (take_rest bytes at)) in
    rw c.fault.ensures (
      c.loop-at.invariant.same
          ∙ at_wrong c.args.letters bytes at c.in-Wrong.n c.loop-at-test.true found,
      sym c.loop-at.invariant.same,
    )

pub returns-in-Unclosed-clause-gives : goal.returns-in-Unclosed-clause-gives
returns-in-Unclosed-clause-gives c =
    let bytes = c.args.bytes.now in
    let at = c.loop-at.at in
    let found = sym (c.in-Unclosed.ensures.is ∙ ap (piece c.args.letters) (take_rest bytes at)) in
    rw c.fault-in-Unclosed.ensures (
      c.loop-at.invariant.same ∙ at_unclosed c.args.letters bytes at c.in-Unclosed.n c.loop-at-test.true found,
      sym c.loop-at.invariant.same,
    )

pub returns-clause-gives : goal.returns-clause-gives
returns-clause-gives c =
    let ended : c.loop-at.at ≡ length c.args.bytes.now = omega arith in
    (c.loop-at.invariant.same ∙ at_end c.args.letters c.args.bytes.now c.loop-at.at ended, sym c.loop-at.invariant.same)

pub returns-in-Lexeme-clause-text : goal.returns-in-Lexeme-clause-text
returns-in-Lexeme-clause-text c =
    let bytes = c.args.bytes.now in
    let at = c.loop-at.at in
    let n = c.in-Lexeme.n in
    let rest = take_rest bytes at in
    let fits : at + n ≤ length bytes = omega (arith, c.in-Lexeme.ensures.within, ap length rest, length-drop at bytes) in
    token_moved bytes at n c.in-Lexeme.what fits
    (subst (λ (front : List ℕ). IsTokenAt front 0 n c.in-Lexeme.what) rest c.in-Lexeme.ensures.text)
