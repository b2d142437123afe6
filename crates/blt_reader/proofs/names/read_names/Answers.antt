use Rattle.std.proofs.Common.{ℕ, ◌<◌, List, length, sym, ◌∙◌, ap, arith}
use Rattle.std.proofs.lemmas.List.{length_push}
use Rattle.std.proofs.lemmas.Result.{err_from_is_err_and}
use Rattle.input_text.specs.Judged.{reads}
use Rattle.blt_reader.specs.BltTable.{behind_name, at_token}
use Rattle.input_text.proofs.Reading.{behind_trans}
use Rattle.blt_reader.proofs.NameSteps.{names_fail, name_read}
use Rattle.blt_reader.proofs.names.read_names.Goals as goal

pub returns-in_err-name-clause-reads : goal.returns-in_err-name-clause-reads
returns-in_err-name-clause-reads c =
    let p = err_from_is_err_and c.from_residual.result c.from_residual.ensures.1 in
    let fewer : length c.loop.names < c.args.candidates = omega (arith, c.loop.invariant.counted, c.loop-test.true) in
    rw (p.1, p.2) (names_fail c.args.candidates c.loop.names _ _ _ _ fewer c.loop.invariant.same c.in_err-name.ensures.fault)

pub loop-preserved : goal.loop-preserved
loop-preserved c =
    let fewer : length c.loop.names < c.args.candidates = omega (arith, c.loop.invariant.counted, c.loop-test.true) in
    let pushed = c.in-Ok.ensures.ok in
    record {
      same = λ limit heading lines same. c.loop.invariant.same limit heading lines same
          ∙ name_read limit heading lines c.loop.names _ _ c.in_ok-name.name (omega (arith, fewer, same))
          c.in_ok-name.ensures.name
          ∙ ap (λ (n : List (List ℕ)). reads (at_token limit) (behind_name heading lines n)
          c.read_name.new.tokens.rest) (sym pushed);
      counted = ap length pushed ∙ length_push c.loop.names c.in_ok-name.name ∙ omega (arith, c.loop.invariant.counted);
      behind = behind_trans c.loop.invariant.behind c.in_ok-name.ensures.behind;
    }

pub returns-in_err-name-clause-behind : goal.returns-in_err-name-clause-behind
returns-in_err-name-clause-behind c = behind_trans c.loop.invariant.behind c.in_err-name.ensures.behind

pub returns-in_default-clause-behind : goal.returns-in_default-clause-behind
returns-in_default-clause-behind c = behind_trans c.loop.invariant.behind c.in_ok-name.ensures.behind
