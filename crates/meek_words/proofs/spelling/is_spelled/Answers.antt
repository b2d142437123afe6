use Rattle.std.proofs.Common.{◌≤◌, ◌∷◌, [], ◌++◌, length, map, string_bytes, sym, ap, ◌∙◌, subst}
use Rattle.std.proofs.lemmas.Bool.{false≢true}
use Rattle.meek_words.specs.Parts.{option_of, values_of}
use Rattle.meek_words.specs.Stands.{stands}
use Rattle.meek_words.proofs.FrontLemmas.{front_more, once_more, twice, parts_left, none_left, some_words}
use Rattle.meek_words.proofs.FrontLemmas.{not-false, not-true}
use Rattle.meek_words.proofs.spelling.is_spelled.Goals as goal

pub returns-in_default : goal.returns-in_default
returns-in_default c =
    let (done, front, once) = c.loop-rest.invariant in
    let more = some_words string_bytes c.loop-rest.rest.now (sym c.is_empty.ensures ∙ c.loop-rest-test.true) in (
      λ e. absurd (false≢true e),
      λ (parts, whole). absurd (none_left (map string_bytes c.args.words.now) done parts
          (map string_bytes c.loop-rest.rest.now) front more c.in_default.ensures.none whole),
    )

pub returns-then-not-is_first : goal.returns-then-not-is_first
returns-then-not-is_first c =
    let words = map string_bytes c.args.words.now in
    let (done, front, once) = c.loop-rest.invariant in
    let (part, value, option, cut) = c.in-Some.ensures.cut in
    let again =
    ap (stands c.loop-rest.stood) option
    ∙ not-false (stands c.loop-rest.stood c.in-Some.option)
    (sym c.is_first.ensures.answer ∙ c.if-not-is_first.true) in
    let longer =
    front_more words done (map string_bytes c.loop-rest.rest.now) (map string_bytes c.in-Some.behind.now)
    part front value cut in (
      λ e. absurd (false≢true e),
      λ (parts, whole).
          let left = parts_left words (done ++ part ∷ []) parts (map string_bytes c.in-Some.behind.now) longer whole in
          absurd (twice c.loop-rest.stood done left.0 part once again (subst
          (λ list. length (values_of (option_of part) list) ≤ 1) left.1
          (whole.once (option_of part)))),
    )

pub loop-rest-preserved : goal.loop-rest-preserved
loop-rest-preserved c =
    let words = map string_bytes c.args.words.now in
    let (done, front, once) = c.loop-rest.invariant in
    let (part, value, option, cut) = c.in-Some.ensures.cut in
    let first =
    ap (stands c.loop-rest.stood) option
    ∙ not-true (stands c.loop-rest.stood c.in-Some.option)
    (sym c.is_first.ensures.answer ∙ c.if-not-is_first.false) in (
      done ++ part ∷ [],
      front_more words done (map string_bytes c.loop-rest.rest.now) (map string_bytes c.in-Some.behind.now)
          part front value cut,
      once_more c.loop-rest.stood c.is_first.new.self done part once first (rw (sym option) at c.is_first.ensures.noted),
    )
