use Rattle.std.proofs.Common.{◌≡◌, ◌∙◌, ap, sym, subst, arith, ℕ, ◌+◌, List, drop, get_or, map}
use Rattle.std.specs.Prelude.{slice_index_or}
use Rattle.std.specs.Char.{encode_utf8}
use Rattle.std.specs.List.{range_with_len}
use Rattle.std.specs.Str.{encode_utf8_all}
use Rattle.std.proofs.Math.ListN.{get_or-map}
use Rattle.std.proofs.lemmas.List.{drop-drop, get_or-drop}
use Rattle.bstr.specs.Utf8.{lossy_chars}
use Rattle.piece_text.specs.Writing.{Wrote, Stopped}
use Rattle.piece_text.proofs.Written.{wrote_nothing}
use Rattle.sheet_minutes.specs.declared.columns.TheConstants.{NAME_COLUMNS}
use Rattle.sheet_minutes.specs.Columns.{columns, name_columns, tamed}
use Rattle.sheet_minutes.proofs.Growing.{grew, stopped}
use Rattle.sheet_minutes.proofs.Ranges.{encode-range_more}
use Rattle.sheet_minutes.proofs.name.write_name.Goals as goal

-- the column at a place
abbrev column : (name : List ℕ) → (k : ℕ) → ℕ
column name k = slice_index_or (columns name) k 32

-- so many columns of a name
abbrev front : (name : List ℕ) → (n : ℕ) → List ℕ
front name n = encode_utf8_all (map (column name) (range_with_len 0 n))

-- the next of the characters that are still to come is that of the column
column_is :
    (name rest : List ℕ) (k c : ℕ) → rest ≡ drop k (lossy_chars name) → c ≡ slice_index_or rest 0 32
    → tamed c ≡ column name k
column_is name rest k c coming is =
    let chars = lossy_chars name in
    let here : k + 0 ≡ k = omega arith in
    ap tamed (is ∙ ap (λ (l : List ℕ). get_or l 0 32) coming ∙ get_or-drop k chars 0 32 ∙ ap (λ (j : ℕ). get_or chars j 32) here)
    ∙ sym (get_or-map tamed chars k 32)

pub loop-init : goal.loop-init
loop-init g c = record { done = wrote_nothing _ _ _; coming = c.chars-rest.ensures.value }

pub loop-preserved : goal.loop-preserved
loop-preserved g c =
    let name = c.args.name.now in
    let k = c.loop.counter in
    let is = column_is name c.loop.rest k c.next_column.result c.loop.invariant.coming c.next_column.ensures.first in
    record {
      done =
          grew (front name) (λ n. encode_utf8 (column name n)) (encode-range_more (column name)) k c.loop.invariant.done
          (subst (λ (x : ℕ). Wrote g.K.Sink.written g.K.Sink.faults c.loop.sink c.write_char.new.sink (encode_utf8 x)) is
          c.in_ok-write_char.ensures);
      coming =
          c.next_column.ensures.others ∙ ap (drop 1) c.loop.invariant.coming ∙ drop-drop 1 k (lossy_chars name);
    }

pub returns-in_err-write_char : goal.returns-in_err-write_char
unfolding name_columns
returns-in_err-write_char g c =
    let name = c.args.name.now in
    let k = c.loop.counter in
    let is = column_is name c.loop.rest k c.next_column.result c.loop.invariant.coming c.next_column.ensures.first in
    stopped (front name) (λ n. encode_utf8 (column name n)) (encode-range_more (column name)) k NAME_COLUMNS
    c.from_residual.result c.loop-test.true c.from_residual.ensures.0 c.loop.invariant.done
    (subst (λ (x : ℕ). Stopped g.K.Sink.written g.K.Sink.faults c.loop.sink c.write_char.new.sink (encode_utf8 x)) is
    c.in_err-write_char.ensures)

pub returns : goal.returns
unfolding name_columns
returns g c =
    let name = c.args.name.now in
    let all : c.loop.counter ≡ NAME_COLUMNS = omega arith in
    subst (λ (n : ℕ). Wrote g.K.Sink.written g.K.Sink.faults c.args.sink.now c.loop.sink (front name n)) all
    c.loop.invariant.done
