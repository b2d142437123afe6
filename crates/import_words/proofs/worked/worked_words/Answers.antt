use Rattle.import_words.proofs.WorkedColumns.{accepted_words}
use Rattle.import_words.proofs.WorkedLemmas.{refused_words}
use Rattle.import_words.proofs.worked.worked_words.Goals as goal

pub returns-clause-refused : goal.returns-clause-refused
returns-clause-refused c = refused_words

pub returns-clause-accepted : goal.returns-clause-accepted
returns-clause-accepted c = accepted_words
