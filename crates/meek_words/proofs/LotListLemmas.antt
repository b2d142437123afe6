-- A list of lots is the word's pieces between commas.
use Rattle.std.proofs.Common.{◌≡◌, ℕ, ◌<◌, ◌≤◌, List, length, get_or, map, false, true, arith, refl, ap, sym}
use Rattle.std.proofs.Common.{◌∙◌, nat_eq, All}
use Rattle.std.specs.List.{join_with_byte, slice_split}
use Rattle.std.specs.Char.{is_ascii_digit}
use Rattle.std.proofs.lemmas.Bool.Decides.{nat_tests}
use Rattle.std.proofs.lemmas.List.Elements.{All-weaker}
use Rattle.std.proofs.lemmas.List.Splits.{length-slice_split, join_with_byte-slice_split}
use Rattle.meek_words.specs.Numerals.{Word, IsNumeral, IsLotList, number_of}
use Rattle.meek_words.proofs.SplitLemmas.{Lacks, slice_split-join}

-- the pieces of a word between its commas
abbrev pub pieces_of : Word → List Word
pieces_of word = slice_split (λ b. nat_eq b 44) word

no_comma : (b : ℕ) → is_ascii_digit b ≡ true → nat_eq b 44 ≡ false
no_comma b h = grind (arith, nat_tests)

numeral_lacks_commas : (part : Word) → IsNumeral part → Lacks 44 part
numeral_lacks_commas part h = All-weaker (λ b. is_ascii_digit b ≡ true) (λ b. nat_eq b 44 ≡ false) no_comma part h.digits

pub parts_are_pieces : (word : Word) (lots : List ℕ) (list : IsLotList word lots) → pieces_of word ≡ list.parts
parts_are_pieces word lots list =
    ap pieces_of list.joined
    ∙ slice_split-join 44 refl list.parts list.some
    (All-weaker IsNumeral (Lacks 44) numeral_lacks_commas list.parts list.numerals)

-- one list of lots at most
pub one_lot_list : (word : Word) (lots others : List ℕ) → IsLotList word lots → IsLotList word others → lots ≡ others
one_lot_list word lots others one other =
    one.numbers
    ∙ ap (map number_of) (sym (parts_are_pieces word lots one) ∙ parts_are_pieces word others other)
    ∙ sym other.numbers

pub lot_list_from_pieces :
    (word : Word) (lots : List ℕ) (pieces : List Word) → pieces ≡ pieces_of word → lots ≡ map number_of pieces
    → All IsNumeral pieces → length pieces ≤ 250
    → IsLotList word lots
lot_list_from_pieces word lots pieces cut numbers numerals few = record {
  parts = pieces;
  joined = sym (ap (join_with_byte 44) cut ∙ join_with_byte-slice_split 44 word);
  numerals = numerals;
  numbers = numbers;
  some = omega (arith, ap length cut, length-slice_split (λ b. nat_eq b 44) word);
  most = few;
}

-- each piece of a list of lots is a numeral, and there are 250 at most
pub piece_is_numeral :
    (word : Word) (lots : List ℕ) → IsLotList word lots → (k : ℕ) (piece : Word) → k < length (pieces_of word)
    → piece ≡ get_or (pieces_of word) k piece
    → IsNumeral piece
piece_is_numeral word lots list k piece within at =
    let same = parts_are_pieces word lots list in
    let within' : k < length list.parts = rw same at within in
    rw (at ∙ ap (λ parts. get_or parts k piece) same) (list.numerals k piece within')

pub pieces_at_most : (word : Word) (lots : List ℕ) → IsLotList word lots → length (pieces_of word) ≤ 250
pieces_at_most word lots list = omega (arith, ap length (parts_are_pieces word lots list), list.most)
