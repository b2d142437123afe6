use Rattle.std.proofs.Common.{ℕ, List, sym, ◌∙◌, ap}
use Rattle.input_text.specs.Token.{with_front}
use Rattle.input_text.specs.Reader.{said}
use Rattle.std.proofs.lemmas.Result.{err_from_is_err_and}
use Rattle.input_text.proofs.Reading.{behind_trans}
use Rattle.day_reader.proofs.Steps.{leads}
use Rattle.day_reader.proofs.TitleSteps.{string_passed, title_ends, title_word}
use Rattle.day_reader.proofs.lots.read_to_lots.Goals as goal

pub returns-in_err-token-clause-reads : goal.returns-in_err-token-clause-reads
returns-in_err-token-clause-reads c =
    let p = err_from_is_err_and c.from_residual.result c.from_residual.ensures.1 in
    rw (p.1, p.2) (λ roll. c.loop-token.invariant.same roll ∙ title_ends roll _ _ _ c.in_err-token.ensures.fault)

pub loop-token-preserved : goal.loop-token-preserved
loop-token-preserved c =
    let token = c.in_ok-token.token in
    record {
      same =
          λ roll. c.loop-token.invariant.same roll
          ∙ string_passed roll _ _ c.loop-token.tokens.bytes token.at token.at token.stop
          token.what c.in_ok-token.ensures.token c.in-Text.is;
      behind = behind_trans c.loop-token.invariant.behind c.in_ok-token.ensures.behind;
    }

pub returns-in_default-clause-reads : goal.returns-in_default-clause-reads
returns-in_default-clause-reads c =
    let token = c.in_ok-token.token in
    let bytes = c.next_token.new.self.bytes in
    let given =
    c.in_ok-token.ensures.token
    ∙ ap (λ (b : List ℕ). with_front (record { at = token.at; item = said b token.at token.stop token.what })
    c.next_token.new.self.rest) (sym c.in_ok-token.ensures.behind.bytes) in
    λ roll. leads (c.loop-token.invariant.same roll) _ _ c.lots_word.result
    (title_word roll _ _ bytes token.at token.at token.stop token.what c.lots_word.result given c.in_default.not-Text
    c.lots_word.ensures)
