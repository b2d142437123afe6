use Rattle.import_words.specs.Pairs.{given_of}
use Rattle.import_words.specs.Values.{pairs_in}
use Rattle.import_words.proofs.ExitLemmas.{none_anyway}
use Rattle.import_words.proofs.TwiceLemmas as twice
use Rattle.import_words.proofs.pairs.single_values.Goals as goal

pub returns-clause-single : goal.returns-clause-single
returns-clause-single c = record {
  layout = c.in_ok-layout.ensures.one;
  seats = c.in_ok-seats.ensures.one;
  title = c.in_ok-title.ensures.one;
  withdrawn = c.in_ok-withdrawn.ensures.one;
  output = c.in_ok-output.ensures.one;
  equal = c.in_ok-equal.ensures.one;
  skipped = c.in_ok-skipped.ensures.one;
  empty = c.in_ok-empty.ensures.one;
  separator = c.in_ok-separator.ensures.one;
  weight = c.in_ok-weight.ensures.one;
  names = c.in_ok-names.ensures.one;
  ranks = c.in_ok-ranks.ensures.one;
  repeated = c.in_ok-repeated.ensures.one;
  head = c.in_ok-head.ensures.one;
  chosen = c.in_ok-chosen.ensures.one;
}

pub returns-in_err-layout-clause-none : goal.returns-in_err-layout-clause-none
returns-in_err-layout-clause-none c =
    none_anyway c.from_residual.result
    (λ asked says. twice.layout (given_of (pairs_in c.args.pairs.now)) asked says c.in_err-layout.ensures.more)

pub returns-in_err-seats-clause-none : goal.returns-in_err-seats-clause-none
returns-in_err-seats-clause-none c =
    none_anyway c.from_residual-in_err-seats.result
    (λ asked says. twice.seats (given_of (pairs_in c.args.pairs.now)) asked says c.in_err-seats.ensures.more)

pub returns-in_err-title-clause-none : goal.returns-in_err-title-clause-none
returns-in_err-title-clause-none c =
    none_anyway c.from_residual-in_err-title.result
    (λ asked says. twice.title (given_of (pairs_in c.args.pairs.now)) asked says c.in_err-title.ensures.more)

pub returns-in_err-withdrawn-clause-none : goal.returns-in_err-withdrawn-clause-none
returns-in_err-withdrawn-clause-none c =
    none_anyway c.from_residual-in_err-withdrawn.result
    (λ asked says. twice.withdrawn (given_of (pairs_in c.args.pairs.now)) asked says c.in_err-withdrawn.ensures.more)

pub returns-in_err-output-clause-none : goal.returns-in_err-output-clause-none
returns-in_err-output-clause-none c =
    none_anyway c.from_residual-in_err-output.result
    (λ asked says. twice.output (given_of (pairs_in c.args.pairs.now)) asked says c.in_err-output.ensures.more)

pub returns-in_err-equal-clause-none : goal.returns-in_err-equal-clause-none
returns-in_err-equal-clause-none c =
    none_anyway c.from_residual-in_err-equal.result
    (λ asked says. twice.equal (given_of (pairs_in c.args.pairs.now)) asked says c.in_err-equal.ensures.more)

pub returns-in_err-skipped-clause-none : goal.returns-in_err-skipped-clause-none
returns-in_err-skipped-clause-none c =
    none_anyway c.from_residual-in_err-skipped.result
    (λ asked says. twice.skipped (given_of (pairs_in c.args.pairs.now)) asked says c.in_err-skipped.ensures.more)

pub returns-in_err-empty-clause-none : goal.returns-in_err-empty-clause-none
returns-in_err-empty-clause-none c =
    none_anyway c.from_residual-in_err-empty.result
    (λ asked says. twice.empty (given_of (pairs_in c.args.pairs.now)) asked says c.in_err-empty.ensures.more)

pub returns-in_err-separator-clause-none : goal.returns-in_err-separator-clause-none
returns-in_err-separator-clause-none c =
    none_anyway c.from_residual-in_err-separator.result
    (λ asked says. twice.separator (given_of (pairs_in c.args.pairs.now)) asked says c.in_err-separator.ensures.more)

pub returns-in_err-weight-clause-none : goal.returns-in_err-weight-clause-none
returns-in_err-weight-clause-none c =
    none_anyway c.from_residual-in_err-weight.result
    (λ asked says. twice.weight (given_of (pairs_in c.args.pairs.now)) asked says c.in_err-weight.ensures.more)

pub returns-in_err-names-clause-none : goal.returns-in_err-names-clause-none
returns-in_err-names-clause-none c =
    none_anyway c.from_residual-in_err-names.result
    (λ asked says. twice.names (given_of (pairs_in c.args.pairs.now)) asked says c.in_err-names.ensures.more)

pub returns-in_err-ranks-clause-none : goal.returns-in_err-ranks-clause-none
returns-in_err-ranks-clause-none c =
    none_anyway c.from_residual-in_err-ranks.result
    (λ asked says. twice.ranks (given_of (pairs_in c.args.pairs.now)) asked says c.in_err-ranks.ensures.more)

pub returns-in_err-repeated-clause-none : goal.returns-in_err-repeated-clause-none
returns-in_err-repeated-clause-none c =
    none_anyway c.from_residual-in_err-repeated.result
    (λ asked says. twice.repeated (given_of (pairs_in c.args.pairs.now)) asked says c.in_err-repeated.ensures.more)

pub returns-in_err-head-clause-none : goal.returns-in_err-head-clause-none
returns-in_err-head-clause-none c =
    none_anyway c.from_residual-in_err-head.result
    (λ asked says. twice.head (given_of (pairs_in c.args.pairs.now)) asked says c.in_err-head.ensures.more)

pub returns-in_err-chosen-clause-none : goal.returns-in_err-chosen-clause-none
returns-in_err-chosen-clause-none c =
    none_anyway c.from_residual-in_err-chosen.result
    (λ asked says. twice.chosen (given_of (pairs_in c.args.pairs.now)) asked says c.in_err-chosen.ensures.more)
