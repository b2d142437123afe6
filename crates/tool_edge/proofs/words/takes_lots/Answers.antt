use Rattle.std.proofs.Common.{◌≡◌, [], ◌∷◌, map, length, sym, ◌∙◌, ap, arith}
use Rattle.std.specs.Prelude.{codes}
use Rattle.std.specs.String.{string_bytes}
use Rattle.meek_words.specs.Numerals.{Word}
use Rattle.tool_edge.proofs.WordLemmas.{two_items, alike, asked_of_list}
use Rattle.tool_edge.proofs.words.takes_lots.Goals as goal

-- The words are `--lots` and a list.
pub returns : goal.returns
returns c =
    let two : length c.args.words.now ≡ 2 = omega arith in
    let items = two_items c.args.words.now c.option-item.result c.list-item.result two c.option-item.is c.list-item.is in
    let option : string_bytes c.option-item.result ≡ codes "--lots" =
    sym c.as_str.ensures.value ∙ alike c.as_str.result.now (codes "--lots") (sym c.ne.ensures ∙ c.if-ne.false) in
    asked_of_list (map string_bytes c.args.words.now) (string_bytes c.list-item.result) c.lots_of.result
    (ap (map string_bytes) items ∙ ap (λ (w : Word). w ∷ string_bytes c.list-item.result ∷ []) option)
    c.lots_of.ensures.accepted c.lots_of.ensures.refused
