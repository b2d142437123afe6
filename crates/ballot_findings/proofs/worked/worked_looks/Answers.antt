use lib.Utf8.{encode}
use Rattle.std.proofs.Common.{refl}
use Rattle.std.specs.Fmt.{digits}
use Rattle.std.specs.Str.{chars, is_utf8}
use Rattle.input_text.specs.Scan.{cut, minus_piece, number_piece, piece, string_piece}
use Rattle.ballot_findings.specs.Breaks.{longer_lines}
use Rattle.ballot_findings.specs.Lines.{told}
use Rattle.ballot_findings.proofs.worked.worked_looks.Goals as goal

pub returns-clause-quiet : goal.returns-clause-quiet
unfolding told digits chars is_utf8 encode
returns-clause-quiet c = refl

pub returns-clause-none : goal.returns-clause-none
unfolding told digits chars is_utf8 encode cut piece number_piece minus_piece string_piece
returns-clause-none c = refl

pub returns-clause-names : goal.returns-clause-names
unfolding told digits chars is_utf8 encode cut piece number_piece minus_piece string_piece
returns-clause-names c = refl

pub returns-clause-counts : goal.returns-clause-counts
unfolding told digits chars is_utf8 encode cut piece number_piece minus_piece string_piece
returns-clause-counts c = refl

pub returns-clause-marks : goal.returns-clause-marks
returns-clause-marks c = refl

pub returns-clause-hidden : goal.returns-clause-hidden
returns-clause-hidden c = record { hidden_in = refl; hidden_out = refl }

pub returns-clause-others : goal.returns-clause-others
returns-clause-others c = record {
  latin_in = refl;
  latin_out = refl;
  greek_in = refl;
  greek_out = refl;
  cyrillic_in = refl;
  cyrillic_out = refl;
  armenian_in = refl;
  armenian_out = refl;
  cherokee_in = refl;
  cherokee_out = refl;
  lisu_in = refl;
  lisu_out = refl;
  coptic_in = refl;
  coptic_out = refl;
  blank_in = refl;
  blank_out = refl;
  combining_in = refl;
  combining_out = refl;
  striking_in = refl;
  striking_out = refl;
}

pub returns-clause-texts : goal.returns-clause-texts
returns-clause-texts c = record { signs = refl; blanks = refl; letters = refl; numbers = refl }

pub returns-clause-title : goal.returns-clause-title
unfolding told digits chars is_utf8 encode cut piece number_piece minus_piece string_piece
returns-clause-title c = refl

pub returns-clause-far : goal.returns-clause-far
unfolding digits cut piece number_piece minus_piece string_piece
returns-clause-far c = record { far = refl; near = refl }

pub returns-clause-many : goal.returns-clause-many
unfolding told digits
returns-clause-many c = record { few = refl; many = refl }

pub returns-clause-places : goal.returns-clause-places
returns-clause-places c = record { lines = refl; columns = refl }

pub returns-clause-parted : goal.returns-clause-parted
unfolding told digits longer_lines cut piece number_piece minus_piece string_piece
returns-clause-parted c = refl

pub returns-clause-old : goal.returns-clause-old
unfolding told digits longer_lines cut piece number_piece minus_piece string_piece
returns-clause-old c = refl

pub returns-clause-longer : goal.returns-clause-longer
unfolding digits longer_lines
returns-clause-longer c = record { longer = refl; as_long = refl }

pub returns-clause-ranks : goal.returns-clause-ranks
unfolding cut piece number_piece minus_piece string_piece
returns-clause-ranks c = record { all = refl; first = refl }
