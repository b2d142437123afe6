-- What is read after a record.
use Rattle.std.proofs.Common.{◌≡◌, ℕ, zero, suc, ◌+◌, ◌<◌, ◌≤◌, List, [], ◌∷◌, length, drop, get_or, Bool}
use Rattle.std.proofs.Common.{true, false, cond, ◌==◌, refl, sym, ◌∙◌, ap, subst, arith, Ok, Err, add-zero}
use Rattle.std.specs.Prelude.{Result}
use Rattle.std.proofs.lemmas.Bool.{false≢true, eq-eqb, eqb-true, eqb-false}
use Rattle.std.proofs.lemmas.List.{drop_all}
use Rattle.table_text.specs.declared.mark.Mark.{Mark}
use Rattle.table_text.specs.declared.mark.Mark.TheVariants as marks
use Rattle.table_text.specs.declared.cell.Cell.{Cell}
use Rattle.table_text.specs.declared.step.Step.{Step}
use Rattle.table_text.specs.declared.step.Step.TheVariants as step
use Rattle.table_text.specs.declared.text_stop.TextStop.{TextStop}
use Rattle.table_text.specs.declared.text_stop.TextStop.TheVariants as stop
use Rattle.table_text.specs.declared.text_kind.TextKind.TheVariants.{Ended}
use Rattle.table_text.specs.Reading.{AtEnd, AtFault, ends, Part, Plain, Return, begins_with_feed, mark}
use Rattle.table_text.specs.Reading.{by_mark, move, Stand, first_field, next_count, fault, with_record}
use Rattle.table_text.specs.Reading.{at_end, moved, left, read}
use Rattle.table_text.specs.Reader.{ends_line, IsEnded, LineEnds, GivesFrom}
use Rattle.table_text.proofs.Marks.{is_feed, is_return}
use Rattle.table_text.proofs.Over.{read_more, read_all}
use Rattle.table_text.proofs.SpelledRecords.{later, nothing_left}

feed_or_return :
    (s b : ℕ) (rest : List ℕ) (m : Mark) → mark s b rest ≡ m → ends_line m ≡ true → b ≡ 10 → m ≡ marks.Feeds
feed_or_return s b rest marks.Quote is ended feed = absurd (false≢true ended)
feed_or_return s b rest marks.Parts is ended feed = absurd (false≢true ended)
feed_or_return s b rest marks.Feeds is ended feed = refl
feed_or_return s b rest marks.Returns is ended feed = absurd (omega (arith, feed, (is_return s b rest is).0))
feed_or_return s b rest marks.Wrong is ended feed = absurd (false≢true ended)
feed_or_return s b rest marks.Inner is ended feed = absurd (false≢true ended)

return_or_feed :
    (s b : ℕ) (rest : List ℕ) (m : Mark) → mark s b rest ≡ m → ends_line m ≡ true → (b ≡ 10 → ⊥)
    → m ≡ marks.Returns
return_or_feed s b rest marks.Quote is ended other = absurd (false≢true ended)
return_or_feed s b rest marks.Parts is ended other = absurd (false≢true ended)
return_or_feed s b rest marks.Feeds is ended other = absurd (other (is_feed s b rest is))
return_or_feed s b rest marks.Returns is ended other = refl
return_or_feed s b rest marks.Wrong is ended other = absurd (false≢true ended)
return_or_feed s b rest marks.Inner is ended other = absurd (false≢true ended)

feed_inside : (at : ℕ) (bytes : List ℕ) → begins_with_feed (drop at bytes) ≡ true → at < length bytes
feed_inside zero [] is = absurd (false≢true is)
feed_inside zero (b ∷ bytes) is = omega arith
feed_inside (suc at) [] is = absurd (false≢true is)
feed_inside (suc at) (b ∷ bytes) is = let more = feed_inside at bytes is in omega (arith, more)

module _ (s : ℕ) (bytes : List ℕ) (end : ℕ) where
  pub line_ends_text : end ≡ length bytes → LineEnds s bytes end end
  line_ends_text last stand plain first some =
      let past : length bytes ≤ end = omega (arith, last) in
      let behind : left s bytes (next_count stand.row) end ≡ ends AtEnd =
      ap (read s (first_field (next_count stand.row) end) end) (drop_all end bytes past)
      ∙ nothing_left s (next_count stand.row) end (later stand.row first) in
      read_all s stand bytes end past
      ∙ (ap (λ (p : Part). at_end p stand end) plain
      ∙ (ap (λ (q : Bool). cond q (cond (stand.row == 1) (fault stand Ended end) (ends AtEnd))
      (with_record stand (ends AtEnd)))
      (some last)
      ∙ ap (with_record stand) (sym behind)))

  module _ (inside : end < length bytes) (ended : IsEnded s bytes end) where
    abbrev b : ℕ
    b = get_or bytes end 0

    abbrev rest : List ℕ
    rest = drop (end + 1) bytes

    by_line :
        (stand : Stand) (m : Mark) → stand.part ≡ Plain
        → mark s (get_or bytes end 0) (drop (end + 1) bytes) ≡ m
        → read s stand end (drop end bytes)
        ≡ moved stand end (get_or bytes end 0) (by_mark Plain m)
        (λ next. read s next (end + 1) (drop (end + 1) bytes))
    by_line stand m plain is =
        read_more s stand bytes end inside
        ∙ (ap (λ (p : Part). moved stand end b (move s p b rest) (λ next. read s next (end + 1) rest)) plain
        ∙ ap (λ (k : Mark). moved stand end b (by_mark Plain k) (λ next. read s next (end + 1) rest)) is)

    pub line_ends_feed : get_or bytes end 0 ≡ 10 → LineEnds s bytes end (end + 1)
    line_ends_feed feed stand plain first some =
        by_line stand marks.Feeds plain (feed_or_return s b rest (mark s b rest) refl (ended inside) feed)

    abbrev returns :
        (get_or bytes end 0 ≡ 10 → ⊥) → mark s (get_or bytes end 0) (drop (end + 1) bytes) ≡ marks.Returns
    returns other = return_or_feed s b rest (mark s b rest) refl (ended inside) other

    pub two_inside : (get_or bytes end 0 ≡ 10 → ⊥) → end + 2 ≤ length bytes
    two_inside other =
        let more : end + 1 < length bytes =
        feed_inside (end + 1) bytes (is_return s b rest (returns other)).1 in
        omega (arith, more)

    pub line_ends_return : (get_or bytes end 0 ≡ 10 → ⊥) → LineEnds s bytes end (end + 2)
    line_ends_return other stand plain first some =
        let more : end + 1 < length bytes =
        feed_inside (end + 1) bytes (is_return s b rest (returns other)).1 in
        let place : end + 1 + 1 ≡ end + 2 = omega arith in
        by_line stand marks.Returns plain (returns other)
        ∙ (read_more s (record stand { part = Return }) bytes (end + 1) more
        ∙ ap (λ (n : ℕ). with_record stand (left s bytes (next_count stand.row) n)) place)

-- ---- the end of a text

module _ (s : ℕ) (bytes : List ℕ) (row at : ℕ) (last : at ≡ length bytes) where
  first_wanted :
      row ≡ 1 → left s bytes row at ≡ ends (AtFault (record { kind = Ended; at = at; row = row; column = 1 }))
  unfolding read
  first_wanted is =
      let place : (at + 0 == at) ≡ true = eq-eqb (at + 0) at (add-zero at) in
      let first : (row == 1) ≡ true = eq-eqb row 1 is in
      ap (read s (first_field row at) at) (drop_all at bytes (omega (arith, last))) ∙ rw (place, first) refl

  no_more : 1 < row → left s bytes row at ≡ ends AtEnd
  no_more later_row =
      ap (read s (first_field row at) at) (drop_all at bytes (omega (arith, last)))
      ∙ nothing_left s row at later_row

  -- what the code answers there
  pub gives_at_end :
      (cells : List Cell) (found : Result (Step × ℕ × ℕ) TextStop) → 1 ≤ row
      → (row ≡ 1 → found ≡ Err (stop.Fault (record { kind = Ended; at = at; row = row; column = 1 })))
      → ((row ≡ 1 → ⊥) → found ≡ Ok (step.End, at, row)) → GivesFrom s bytes row at found cells
  gives_at_end cells found some wanted done = by_row (row == 1) refl
    where
      by_row : (first : Bool) → (row == 1) ≡ first → GivesFrom s bytes row at found cells
      by_row true is =
          subst (λ (f : Result (Step × ℕ × ℕ) TextStop). GivesFrom s bytes row at f cells)
          (sym (wanted (eqb-true row 1 is)))
          (first_wanted (eqb-true row 1 is), refl)
      by_row false is =
          let unlike : row ≡ 1 → ⊥ = eqb-false row 1 is in
          subst (λ (f : Result (Step × ℕ × ℕ) TextStop). GivesFrom s bytes row at f cells) (sym (done unlike))
          (no_more (omega arith), refl)
