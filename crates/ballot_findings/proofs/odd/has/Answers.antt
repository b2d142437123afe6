use Rattle.std.proofs.Common.{rules, ◌≡◌, true, false}
use Rattle.std.specs.Str.{chars}
use borrow.Author.Tests.{tests}
use Rattle.std.proofs.lemmas.Iterator.{YieldsList-from_chars, cases_from_any}
use Rattle.ballot_findings.specs.Signs.{is_of}
use Rattle.ballot_findings.proofs.Texts.{any_found}
use Rattle.ballot_findings.proofs.odd.has.Goals as goal

pub returns : goal.returns
returns c =
    let bytes = c.args.text.now in
    let test = is_of c.args.kind in
    any_found test (chars bytes) c.any.result
    (cases_from_any _ _ _ (λ x. test x ≡ true) (λ x. test x ≡ false) c.any.ensures.ran
    (YieldsList-from_chars bytes c.utf8.text c.chars.ensures.rest)
    (λ x q k. search (rules, tests)) (λ x q k. search (rules, tests)))
