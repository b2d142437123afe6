use Rattle.std.proofs.Common.{ℕ, List, map, ◌==◌, ◌∙◌, ap}
use Rattle.blt_reader.proofs.Stamps.{none_marked_first}
use Rattle.blt_reader.proofs.named.Named.new.Goals as goal

pub returns : goal.returns
returns c =
    ap (λ (stamps : List ℕ). map (λ stamp. stamp == 1) stamps) (c.in_ok-stamps.ensures.items_if_clones_equal (λ y e. e))
    ∙ none_marked_first c.args.numbers 0
