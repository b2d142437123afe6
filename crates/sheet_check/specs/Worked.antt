-- How long inputs may be and which lines verdicts have, by hand. 2^30 is 1,073,741,824.
use Rattle.std.specs.Prelude.{◌≡◌, Some, codes}
use Rattle.check_words.specs.declared.asked.Asked.{Asked}
use Rattle.sheet_check.specs.declared.verdict.Verdict.TheVariants.{True, False, Malformed}
use Rattle.sheet_check.specs.Audit.{audits, audits_two, verdict_line}

pub record WorkedChecks : Type 0 where
  pub longest_input : (asked : Asked) → audits.limit asked ≡ Some 1073741824
  pub longest_sheet : audits_two.text_limit ≡ 1073741824
  pub longest_file : audits_two.file_limit ≡ 67108864
  pub is_true : verdict_line True ≡ codes "sheet true\n"
  pub is_false : verdict_line (False 27) ≡ codes "sheet false at line 27\n"
  pub is_malformed : verdict_line Malformed ≡ codes "sheet malformed\n"
