-- Texts worked by hand, from their bytes on.
use Rattle.std.specs.Prelude.{◌≡◌, ℕ, true, false, [], ◌∷◌, Option, Some, None, codes}
use Rattle.table_text.specs.declared.text_kind.TextKind.{TextKind}
use Rattle.table_text.specs.declared.text_kind.TextKind.TheVariants.{Ended, UnclearSeparator}
use Rattle.ballot_marks.specs.Laws.{strict}
use Rattle.ballot_table.specs.declared.empty.Empty.TheVariants.{Refuse}
use Rattle.ballot_table.specs.declared.table_asked.TableAsked.{TableAsked}
use Rattle.ballot_table.specs.declared.layout.Layout.TheVariants.{Ranks, List as Lists}
use Rattle.ballot_table.specs.declared.table_kind.TableKind.{TableKind}
use Rattle.ballot_table.specs.declared.table_kind.TableKind.TheVariants.{BadRank, UnequalRow, EqualRank, Repeated}
use Rattle.ballot_table.specs.declared.table_kind.TableKind.TheVariants.{NameExpected, ColumnExpected, BadWithdrawn, HeadExpected}
use Rattle.ballot_table.specs.declared.table_stop.TableStop.{TableStop}
use Rattle.ballot_table.specs.declared.table_stop.TableStop.TheVariants as stop
use Rattle.ballot_table.specs.Imported.{refusal}

-- nothing is asked but a column for each candidate
abbrev pub plain_ranks : TableAsked
plain_ranks = record {
  layout = Ranks;
  separator = None;
  head_is_said = false;
  heads = 1;
  bracketed = false;
  labels = [];
  chosen = [];
  weight = None;
  blank = [];
  over = [];
  ranks = [];
  candidates = [];
  withdrawn = [];
  empty = Refuse;
  treatment = strict;
}

abbrev pub at_byte : TableKind → (at row column : ℕ) → Option TableStop
at_byte kind at row column = Some (stop.Record kind at row column)

abbrev pub of_text : TextKind → (at row column : ℕ) → Option TableStop
of_text kind at row column = Some (stop.Text (record { kind = kind; at = at; row = row; column = column }))

-- texts that are refused, at byte, row and column, and some that are not
pub record WorkedTexts : Type 0 where
  pub sound : refusal plain_ranks (codes "Ann,Ben,Cid\n1,2,3\n,1,\n2,,1\n") ≡ None
  pub nothing : refusal plain_ranks [] ≡ of_text Ended 0 1 1
  pub open_quote : refusal plain_ranks (codes "Ann,Ben\n1,\"2") ≡ of_text Ended 12 2 2
  pub two_kinds : refusal plain_ranks (codes "Ann;Ben,jr\n") ≡ of_text UnclearSeparator 7 1 2
  pub told_kind : refusal (record plain_ranks { separator = Some 59 }) (codes "Ann;Ben,jr\n1;2\n") ≡ None
  pub no_name : refusal plain_ranks (codes "Ann,,Cid\n") ≡ at_byte NameExpected 4 1 2
  pub only_labels : refusal (record plain_ranks { labels = codes "Id" ∷ [] }) (codes "Id\n") ≡ at_byte ColumnExpected 2 1 2
  pub withdrawn :
      refusal (record plain_ranks { withdrawn = 1 ∷ 3 ∷ [] }) (codes "Ann,Ben\n") ≡ Some (stop.Word BadWithdrawn 2)
  pub shorter : refusal plain_ranks (codes "Ann,Ben\n1\n") ≡ at_byte UnequalRow 9 2 2
  pub longer : refusal plain_ranks (codes "Ann,Ben\n1,2,\n") ≡ at_byte UnequalRow 12 2 3
  pub no_rank : refusal plain_ranks (codes "Ann,Ben\n1,0\n") ≡ at_byte BadRank 10 2 2
  pub before_what_follows : refusal plain_ranks (codes "Ann,Ben\n1,0\n\"") ≡ at_byte BadRank 10 2 2
  pub equal_ranks : refusal plain_ranks (codes "Ann,Ben,Cid,Dee\n1,2,2,3\n") ≡ at_byte EqualRank 20 2 3
  pub no_head :
      refusal (record plain_ranks { head_is_said = true; heads = 0 }) (codes "2,1\n1,2,3\n") ≡ at_byte UnequalRow 8 2 3
  pub first_row :
      refusal (record plain_ranks { head_is_said = true; heads = 0 }) (codes "2,x\n1,2\n") ≡ at_byte BadRank 2 1 2
  pub lower_head :
      refusal (record plain_ranks { head_is_said = true; heads = 2 }) (codes "Vote,\nAnn,\n1,2\n")
      ≡ at_byte NameExpected 10 2 2
  pub one_head_too_few :
      refusal (record plain_ranks { head_is_said = true; heads = 2 }) (codes "Ann,Ben\n") ≡ at_byte HeadExpected 7 1 3
  pub below_two :
      refusal (record plain_ranks { head_is_said = true; heads = 2 }) (codes "Vote,Vote\nAnn,Ben\n1,0\n")
      ≡ at_byte BadRank 20 3 2
  pub in_a_list :
      refusal (record plain_ranks { layout = Lists; candidates = codes "Ann" ∷ codes "Ben" ∷ [] })
      (codes "Order\nBen;Ann;\nBen;Ben\n")
      ≡ at_byte Repeated 15 3 1
