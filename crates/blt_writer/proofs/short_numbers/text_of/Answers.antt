use Rattle.std.proofs.Common.{ap, arith, ◌∙◌, length}
use Rattle.std.proofs.lemmas.Fmt.{length-decimal-le}
use Rattle.blt_writer.proofs.short_numbers.text_of.Goals as goal

pub returns : goal.returns
returns c =
    let is = c.as_bytes.ensures.value ∙ c.format.ensures.text in
    record {
      text = is;
      short =
          omega (
            arith,
            ap length is,
            length-decimal-le 3 c.args.n (omega arith) (omega (arith, c.requires))
                (omega (arith, c.requires)),
          );
    }
