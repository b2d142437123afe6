-- The labels of a word are its pieces between commas.
use Rattle.std.proofs.Common.{◌≡◌, ◌<◌, ◌≤◌, ℕ, List, length, get_or, subst, sym, ap, arith, nat_eq, All}
use Rattle.std.specs.List.{slice_split}
use Rattle.std.proofs.lemmas.List.Elements.{All-get_or}
use Rattle.meek_words.specs.Numerals.{Word}
use Rattle.import_words.specs.Asks.{IsRankList}
use Rattle.import_words.specs.Labels.{IsLabel}

abbrev pub pieces_of : Word → List Word
pieces_of word = slice_split (λ b. nat_eq b 44) word

pub piece_is_label :
    (word : Word) (labels : List Word) → IsRankList word labels → (k : ℕ) (piece : Word)
    → k < length (pieces_of word)
    → piece ≡ get_or (pieces_of word) k piece
    → IsLabel piece
piece_is_label word labels list k piece within at =
    subst IsLabel (sym at) (All-get_or IsLabel (pieces_of word) k piece within
    (subst (All IsLabel) list.pieces list.all))

pub pieces_at_most :
    (word : Word) (labels : List Word) → IsRankList word labels → length (pieces_of word) ≤ 250
pieces_at_most word labels list = omega (arith, ap length list.pieces, list.few)
