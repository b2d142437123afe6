use Rattle.std.proofs.Common.{refl}
use Rattle.std.specs.Char.{encode_utf8}
use Rattle.std.specs.Fmt.{digits}
use Rattle.bstr.specs.Utf8.{pieces_from}
use Rattle.page_tree.specs.Escaping.{escaped}
use Rattle.fixed_place.specs.Text.{text_of, last_digits}
use Rattle.sheet_page.proofs.worked.worked_part.Goals as goal

pub returns : goal.returns
unfolding text_of last_digits digits encode_utf8 escaped pieces_from
returns c = record { nine = refl; eight = refl; of_two = refl; of_three = refl; seat = refl; none = refl }
