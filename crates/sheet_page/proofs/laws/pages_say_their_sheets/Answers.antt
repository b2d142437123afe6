use Rattle.sheet_page.proofs.LeftSeats.{seated_are}
use Rattle.sheet_page.proofs.PageIterations.{iteration_candidates, iteration_heads, left_out}
use Rattle.sheet_page.proofs.PageLabels.{amount_texts, picture_labels}
use Rattle.sheet_page.proofs.PageRounds.{rounds_whole}
use Rattle.sheet_page.proofs.PageSentences.{page_items}
use Rattle.sheet_page.proofs.PageTable.{table_cells, table_columns, table_heads}
use Rattle.sheet_page.proofs.PageTexts.{elected_items, round_links, round_titles, folded_titles}
use Rattle.sheet_page.proofs.laws.pages_say_their_sheets.Goals as goal

pub returns-clause-elected : goal.returns-clause-elected
returns-clause-elected c places v = record { items = elected_items places v; seated = seated_are v }

pub returns-clause-rounds : goal.returns-clause-rounds
returns-clause-rounds c places v = record {
  links = round_links places v;
  titles = round_titles places v;
  folded = folded_titles places v;
  labels = picture_labels places v;
  amounts = amount_texts places v;
  columns = table_columns places v;
  heads = table_heads places v;
  cells = table_cells places v;
}

pub returns-clause-iterations : goal.returns-clause-iterations
returns-clause-iterations c places v =
    record
    { heads = iteration_heads places v; candidates = iteration_candidates places v; left_out = left_out }

pub returns-clause-decisions : goal.returns-clause-decisions
returns-clause-decisions c places v =
    record { items = page_items places v; whole = rounds_whole v.rows }
