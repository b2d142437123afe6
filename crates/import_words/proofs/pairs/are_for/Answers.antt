use Rattle.std.proofs.Common.{◌∙◌, sym, subst, refl, All, IsTrue}
use Rattle.std.proofs.lemmas.Bool.{false≢true}
use Rattle.std.proofs.lemmas.List.{take_all}
use Rattle.std.proofs.lemmas.List.Elements.{All-map, All-more}
use Rattle.import_words.specs.Options.{is_of}
use Rattle.import_words.specs.Values.{said_in}
use Rattle.import_words.specs.declared.pair.Pair.{Pair}
use Rattle.import_words.proofs.ForLemmas.{IsOf, for_at}
use Rattle.import_words.proofs.pairs.are_for.Goals as goal

pub returns-then-not-is_of : goal.returns-then-not-is_of
returns-then-not-is_of c = (
  λ e. absurd (false≢true e),
  λ all. absurd (false≢true (sym c.if-not-is_of.true ∙ c.is_of.ensures
      ∙ for_at c.args.layout c.args.pairs.now c.loop-pair.pair-index _ c.loop-pair-test.true all)),
)

pub loop-pair-preserved : goal.loop-pair-preserved
loop-pair-preserved c =
    All-more (λ (pair : Pair). IsTrue (is_of c.args.layout pair.option)) c.args.pairs.now
    c.loop-pair.pair-index _
    c.loop-pair-test.true c.loop-pair.invariant (sym c.is_of.ensures ∙ c.if-not-is_of.false)

pub returns : goal.returns
returns c =
    let whole = take_all c.loop-pair.pair-index c.args.pairs.now c.loop-pair-test.false in (
      λ _. All-map (IsOf c.args.layout) said_in c.args.pairs.now
          (subst (All (λ (pair : Pair). IsTrue (is_of c.args.layout pair.option)))
          whole c.loop-pair.invariant),
      λ _. refl,
    )
