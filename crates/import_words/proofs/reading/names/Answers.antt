use Rattle.std.proofs.Common.{◌≡◌, ◌++◌, ◌∷◌, [], ◌∙◌, arith, rules, subst, sym}
use Rattle.candidate_roll.specs.declared.limits.TheConstants.{MOST_NAME_BYTES}
use Rattle.candidate_roll.specs.Name.{IsName}
use Rattle.import_words.proofs.TextLemmas.{all_more, pushed, text_at}
use Rattle.import_words.proofs.reading.names.Goals as goal

pub returns-in_err-name-clause-refused : goal.returns-in_err-name-clause-refused
returns-in_err-name-clause-refused c refused names are =
    c.in_err-name.ensures.refused (grind (arith, c.from_residual.ensures, refused))
    (subst (IsName MOST_NAME_BYTES) (sym c.as_bytes.ensures.value)
    (text_at (IsName MOST_NAME_BYTES) c.args.texts.now c.loop-text.text-index _ c.loop-text-test.true are.1))

pub loop-text-preserved : goal.loop-text-preserved
loop-text-preserved c =
    let is : c.push.new.self ≡ c.loop-text.names ++ c.in_ok-name.name ∷ [] = grind (rules) in
    record {
      same =
          pushed c.args.texts.now c.loop-text.text-index _ c.loop-text-test.true _ _ _ is
          c.loop-text.invariant.same
          (c.in_ok-name.ensures.name.0 ∙ c.as_bytes.ensures.value);
      names =
          all_more c.args.texts.now c.loop-text.text-index _ c.loop-text-test.true (IsName MOST_NAME_BYTES)
          c.loop-text.invariant.names (subst (IsName MOST_NAME_BYTES) c.as_bytes.ensures.value
          c.in_ok-name.ensures.name.1);
    }
