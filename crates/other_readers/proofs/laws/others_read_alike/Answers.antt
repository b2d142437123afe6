use Rattle.other_readers.proofs.CsvRecords.{csv_reads_alike}
use Rattle.other_readers.proofs.OwnRecords.{csv_text_reads_alike}
use Rattle.other_readers.proofs.Written.{written_is_spelled}
use Rattle.other_readers.proofs.laws.others_read_alike.Goals as goal

pub returns-clause-csv : goal.returns-clause-csv
returns-clause-csv c = csv_reads_alike

pub returns-clause-csv_text : goal.returns-clause-csv_text
returns-clause-csv_text c = csv_text_reads_alike

pub returns-clause-written : goal.returns-clause-written
returns-clause-written c = written_is_spelled
