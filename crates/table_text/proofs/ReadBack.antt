-- What is read to its end is spelled so, byte after byte.
use Rattle.std.proofs.Common.{◌≡◌, ℕ, ◌+◌, List, [], ◌∷◌, ◌++◌, Bool, true, false, cond}
use Rattle.std.proofs.Common.{◌==◌, refl, sym, ap, subst, append-nil}
use Rattle.std.proofs.lemmas.Bool.{eqb-true, false≢true}
use Rattle.std.specs.List.{list_all}
use Rattle.table_text.specs.declared.mark.Mark.{Mark}
use Rattle.table_text.specs.declared.mark.Mark.TheVariants as marks
use Rattle.table_text.specs.declared.text_kind.TextKind.TheVariants.{BadByte}
use Rattle.table_text.specs.Spelling.{is_text, is_plain, Spelled}
use Rattle.table_text.specs.Reading.{Field, Reading, AtEnd, texts_of, Part, Front}
use Rattle.table_text.specs.Reading.{Plain, Within, BehindQuote, Return, mark, Takes, Wrong}
use Rattle.table_text.specs.Reading.{by_mark, first_field}
use Rattle.table_text.specs.Reading.{after_field, moved, read}
use Rattle.table_text.specs.Reader.{in_field}
use Rattle.table_text.specs.Laws.{IsSeparator}
use Rattle.table_text.proofs.Marks.{is_separator, is_feed, is_return, is_quote, is_inner}
use Rattle.table_text.proofs.Backward.{whole_front, whole_plain}
use Rattle.table_text.proofs.Backward.{whole_closed, plain_more, open_more, open_first, closed_now}
use Rattle.table_text.proofs.Backward.{open_again, Stands}
use Rattle.table_text.proofs.ReadSteps.{SpelledSo, Behind, first_stands, at_end_back, took, parted, ended}
use Rattle.table_text.proofs.ReadSteps.{returned}

module _ (s : ℕ) (fit : IsSeparator s) where
  module _ (row start : ℕ) (fields : List Field) (from : ℕ) (bytes : List ℕ) (at : ℕ) (front : List ℕ)
      (b : ℕ) (rest : List ℕ) (behind : Behind s fit (at + 1) rest) where
    abbrev after : Part → Mark → Reading
    after part m =
        moved (in_field row start fields from bytes part) at b (by_mark part m)
        (λ next. read s next (at + 1) rest)

    at_front :
        Stands s fit start fields from bytes Front at front → (m : Mark) → mark s b rest ≡ m
        → SpelledSo s fit (after Front m) ((front ++ bytes) ++ (b ∷ rest))
    at_front st marks.Quote is =
        took s fit row start fields from bytes Front at front st b rest behind Within refl refl tt
        (open_first s fit bytes b st.part_is (is_quote s b rest is))
    at_front st marks.Parts is =
        parted s fit row start fields from bytes Front at front st b rest behind (is_separator s b rest is)
        refl
        (whole_front s fit bytes st.part_is)
    at_front st marks.Feeds is =
        ended s fit row start fields from bytes Front at front st b rest behind (is_feed s b rest is)
        (whole_front s fit bytes st.part_is)
    at_front st marks.Returns is =
        returned s fit row start fields from bytes Front at front st b rest behind (is_return s b rest is).0
        (is_return s b rest is).1 refl (whole_front s fit bytes st.part_is)
    at_front st marks.Wrong is = λ ending. cc
    at_front st marks.Inner is =
        took s fit row start fields from bytes Front at front st b rest behind Plain refl refl tt
        (plain_more s fit bytes b (ap (list_all (is_plain s)) st.part_is) (is_inner s b rest is))

    in_plain :
        Stands s fit start fields from bytes Plain at front → (m : Mark) → mark s b rest ≡ m
        → SpelledSo s fit (after Plain m) ((front ++ bytes) ++ (b ∷ rest))
    in_plain st marks.Quote is = λ ending. cc
    in_plain st marks.Parts is =
        parted s fit row start fields from bytes Plain at front st b rest behind (is_separator s b rest is)
        refl
        (whole_plain s fit bytes st.part_is)
    in_plain st marks.Feeds is =
        ended s fit row start fields from bytes Plain at front st b rest behind (is_feed s b rest is)
        (whole_plain s fit bytes st.part_is)
    in_plain st marks.Returns is =
        returned s fit row start fields from bytes Plain at front st b rest behind (is_return s b rest is).0
        (is_return s b rest is).1 refl (whole_plain s fit bytes st.part_is)
    in_plain st marks.Wrong is = λ ending. cc
    in_plain st marks.Inner is =
        took s fit row start fields from bytes Plain at front st b rest behind Plain refl refl tt
        (plain_more s fit bytes b st.part_is (is_inner s b rest is))

    behind_quote :
        Stands s fit start fields from bytes BehindQuote at front → (m : Mark) → mark s b rest ≡ m
        → SpelledSo s fit (after BehindQuote m) ((front ++ bytes) ++ (b ∷ rest))
    behind_quote st marks.Quote is =
        took s fit row start fields from bytes BehindQuote at front st b rest behind Within refl refl tt
        (open_again s fit bytes b st.part_is (is_quote s b rest is))
    behind_quote st marks.Parts is =
        parted s fit row start fields from bytes BehindQuote at front st b rest behind
        (is_separator s b rest is)
        refl
        (whole_closed s fit bytes st.part_is)
    behind_quote st marks.Feeds is =
        ended s fit row start fields from bytes BehindQuote at front st b rest behind (is_feed s b rest is)
        (whole_closed s fit bytes st.part_is)
    behind_quote st marks.Returns is =
        returned s fit row start fields from bytes BehindQuote at front st b rest behind
        (is_return s b rest is).0
        (is_return s b rest is).1 refl (whole_closed s fit bytes st.part_is)
    behind_quote st marks.Wrong is = λ ending. cc
    behind_quote st marks.Inner is = λ ending. cc

    within_quotes_tests :
        Stands s fit start fields from bytes Within at front → (quote text : Bool) → (b == 34) ≡ quote
        → is_text b ≡ text
        → SpelledSo s fit (moved (in_field row start fields from bytes Within) at b
        (cond quote (Takes BehindQuote) (cond text (Takes Within) (Wrong BadByte)))
        (λ next. read s next (at + 1) rest))
        ((front ++ bytes) ++ (b ∷ rest))
    within_quotes_tests st true text is also =
        took s fit row start fields from bytes Within at front st b rest behind BehindQuote refl refl tt
        (closed_now s fit bytes b st.part_is (eqb-true b 34 is))
    within_quotes_tests st false true is also =
        took s fit row start fields from bytes Within at front st b rest behind Within refl refl tt
        (open_more s fit bytes b st.part_is is also)
    within_quotes_tests st false false is also = λ ending. cc

  back : (rest : List ℕ) (at : ℕ) → Behind s fit at rest
  unfolding read
  back [] at row start fields from bytes Front front st feed ending =
      subst (Spelled s (texts_of (after_field (in_field row start fields from bytes Front) at).rows))
      (sym (append-nil (front ++ bytes)))
      (at_end_back s fit row start fields from bytes Front at front st (whole_front s fit bytes st.part_is)
      ending)
  back [] at row start fields from bytes Plain front st feed ending =
      subst (Spelled s (texts_of (after_field (in_field row start fields from bytes Plain) at).rows))
      (sym (append-nil (front ++ bytes)))
      (at_end_back s fit row start fields from bytes Plain at front st (whole_plain s fit bytes st.part_is)
      ending)
  back [] at row start fields from bytes Within front st feed ending = cc
  back [] at row start fields from bytes BehindQuote front st feed ending =
      subst (Spelled s (texts_of (after_field (in_field row start fields from bytes BehindQuote) at).rows))
      (sym (append-nil (front ++ bytes)))
      (at_end_back s fit row start fields from bytes BehindQuote at front st
      (whole_closed s fit bytes st.part_is)
      ending)
  back [] at row start fields from bytes Return front st feed ending = absurd (false≢true feed)
  back (b ∷ rest) at row start fields from bytes Front front st feed ending =
      at_front row start fields from bytes at front b rest (back rest (at + 1)) st (mark s b rest) refl ending
  back (b ∷ rest) at row start fields from bytes Plain front st feed ending =
      in_plain row start fields from bytes at front b rest (back rest (at + 1)) st (mark s b rest) refl ending
  back (b ∷ rest) at row start fields from bytes Within front st feed ending =
      within_quotes_tests row start fields from bytes at front b rest (back rest (at + 1)) st (b == 34)
      (is_text b) refl refl
      ending
  back (b ∷ rest) at row start fields from bytes BehindQuote front st feed ending =
      behind_quote row start fields from bytes at front b rest (back rest (at + 1)) st (mark s b rest) refl
      ending
  back (b ∷ rest) at row start fields from bytes Return front st feed ending =
      ended s fit row start fields from bytes Return at front st b rest (back rest (at + 1))
      (eqb-true b 10 feed)
      st.part_is ending

  pub read_back :
      (text : List ℕ) (row at : ℕ) → (read s (first_field row at) at text).ending ≡ AtEnd
      → Spelled s (texts_of (read s (first_field row at) at text).rows) text
  read_back text row at = back text at row at [] at [] Front [] (first_stands s fit at) tt
