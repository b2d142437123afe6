-- Options that are a layout's.
use Rattle.std.proofs.Common.{◌<◌, ℕ, List, length, get_or, subst, arith, IsTrue}
use Rattle.std.proofs.lemmas.List.{get_or-map, length-map}
use Rattle.import_words.specs.Asks.{AreFor}
use Rattle.import_words.specs.Options.{is_of}
use Rattle.import_words.specs.Pairs.{Said}
use Rattle.import_words.specs.Values.{pairs_in, said_in}
use Rattle.import_words.specs.declared.layout.Layout.{Layout}
use Rattle.import_words.specs.declared.pair.Pair.{Pair}

abbrev pub IsOf : Layout → Said → Type 0
IsOf layout said = IsTrue (is_of layout said.option)

-- where all are, the one at a place is
pub for_at :
    (layout : Layout) (pairs : List Pair) (i : ℕ) (d : Pair) → i < length pairs
    → AreFor layout (pairs_in pairs)
    → IsTrue (is_of layout (get_or pairs i d).option)
for_at layout pairs i d within all =
    subst (IsOf layout) (get_or-map said_in pairs i d (said_in d) within)
    (all i (said_in d) (omega (arith, within, length-map pairs said_in)))
