use Rattle.std.proofs.Common.{refl}
use Rattle.std.specs.Char.{encode_utf8}
use Rattle.std.specs.Fmt.{digits}
use Rattle.bstr.specs.Utf8.{pieces_from}
use Rattle.fixed_place.specs.Text.{text_of, last_digits}
use Rattle.sheet_words.specs.Manner.{said}
use Rattle.sheet_minutes.specs.Columns.{name_columns}
use Rattle.sheet_minutes.proofs.worked.worked_minutes.Goals as goal

pub returns-clause-tie : goal.returns-clause-tie
unfolding text_of last_digits digits encode_utf8 name_columns pieces_from said
returns-clause-tie c = refl

pub returns-clause-rounds : goal.returns-clause-rounds
unfolding text_of last_digits digits encode_utf8 name_columns pieces_from
returns-clause-rounds c = refl

pub returns-clause-none : goal.returns-clause-none
returns-clause-none c = refl

pub returns-clause-labels : goal.returns-clause-labels
unfolding digits encode_utf8 name_columns pieces_from
returns-clause-labels c = record { long = refl; ninth = refl; tenth = refl }

pub returns-clause-controls : goal.returns-clause-controls
unfolding encode_utf8 pieces_from
returns-clause-controls c = refl
