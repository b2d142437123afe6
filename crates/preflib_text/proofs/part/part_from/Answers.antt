use Rattle.std.proofs.Common.{◌≡◌, ◌+◌, ◌<◌, ◌∷◌, length, refl, ap, sym, ◌∙◌, arith, true, false}
use Rattle.std.specs.List.{slice_range, slice_index}
use Rattle.preflib_text.specs.Parts.{Number, End, sign}
use Rattle.preflib_text.specs.Reading.{behind_part}
use Rattle.preflib_text.specs.Texts.{is_digit, value}
use Rattle.preflib_text.proofs.PartLemmas.{at_end, skipped, still_fresh, not_blank, not_digit, number_at}
use Rattle.preflib_text.proofs.PartLemmas.{sign_at, behind_sign}
use Rattle.preflib_text.proofs.PartLemmas.{fresh_sign}
use Rattle.preflib_text.specs.declared.part.Part.TheVariants as code
use Rattle.preflib_text.proofs.part.part_from.Goals as goal

pub returns-then-at-bytes-clause-first : goal.returns-then-at-bytes-clause-first
returns-then-at-bytes-clause-first c =
    let bytes = c.args.bytes.now in
    let at = c.behind_blanks-at.result in
    record {
      part = End;
      parts_are =
          skipped bytes c.args.from at c.behind_blanks-at.ensures.behind ∙ at_end bytes at c.if-at-bytes.true;
      kept_is = refl;
    }

pub returns-then-is_digit-clause-first : goal.returns-then-is_digit-clause-first
returns-then-is_digit-clause-first c =
    let bytes = c.args.bytes.now in
    let at = c.behind_blanks-at.result in
    let stop = c.behind_digits-stop.result in
    let front = c.behind_blanks-at.ensures.behind in
    let inside : at < length bytes = omega (arith, c.behind_blanks-at.ensures.inside, c.if-at-bytes.false) in
    let digit : is_digit (slice_index bytes at) ≡ true = sym c.is_digit.ensures ∙ c.if-is_digit.true in
    record {
      part = Number (value (slice_range bytes at stop));
      parts_are =
          skipped bytes c.args.from at front
          ∙ number_at bytes at stop inside digit (still_fresh bytes c.args.from at front c.requires.fresh digit)
          c.behind_digits-stop.ensures.behind;
      kept_is = ap code.Number c.value.ensures;
    }

pub returns-then-is_digit-clause-fresh : goal.returns-then-is_digit-clause-fresh
returns-then-is_digit-clause-fresh c = λ digit.
    absurd
    (cc (
      digit,
      not_digit c.args.bytes.now c.behind_blanks-at.result c.behind_digits-stop.result c.behind_digits-stop.ensures.behind,
    ))

pub returns-clause-first : goal.returns-clause-first
returns-clause-first c =
    let bytes = c.args.bytes.now in
    let at = c.behind_blanks-at.result in
    let front = c.behind_blanks-at.ensures.behind in
    let inside : at < length bytes = omega (arith, c.behind_blanks-at.ensures.inside, c.if-at-bytes.false) in
    let digit : is_digit (slice_index bytes at) ≡ false = sym c.is_digit.ensures ∙ c.if-is_digit.false in
    record {
      part = sign at (slice_index bytes at);
      parts_are =
          skipped bytes c.args.from at front
          ∙ sign_at bytes at inside (not_blank bytes c.args.from at front) digit
          ∙ ap (λ rest. record { at = at; part = sign at (slice_index bytes at) } ∷ rest)
          (sym (ap (λ part. behind_part bytes part (at + 1)) c.sign.ensures
          ∙ behind_sign bytes at (slice_index bytes at) (at + 1)));
      kept_is = c.sign.ensures;
    }

pub returns-clause-fresh : goal.returns-clause-fresh
returns-clause-fresh c =
    let bytes = c.args.bytes.now in
    let at = c.behind_blanks-at.result in
    let inside : at < length bytes = omega (arith, c.behind_blanks-at.ensures.inside, c.if-at-bytes.false) in
    fresh_sign bytes at inside (sym c.is_digit.ensures ∙ c.if-is_digit.false)
