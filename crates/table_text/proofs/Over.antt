-- A field's bytes at a place, one after another.
use Rattle.std.proofs.Common.{◌≡◌, ℕ, ◌+◌, ◌<◌, ◌≤◌, List, [], length, drop, get_or, true, false, ◌==◌, refl}
use Rattle.std.proofs.Common.{sym, ◌∙◌, ap, subst}
use Rattle.std.proofs.lemmas.Bool.{ne_eqb}
use Rattle.std.proofs.lemmas.List.{drop_more, drop_all}
use Rattle.std.proofs.lemmas.List.Edits.{between_none, between_more}
use Rattle.std.specs.Prelude.{slice_range}
use Rattle.table_text.specs.declared.text_kind.TextKind.{TextKind}
use Rattle.table_text.specs.declared.text_kind.TextKind.TheVariants.{BadByte, Ended}
use Rattle.table_text.specs.declared.mark.Mark.{Mark}
use Rattle.table_text.specs.declared.mark.Mark.TheVariants as marks
use Rattle.table_text.specs.declared.field.Flaw.{Flaw}
use Rattle.table_text.specs.Spelling.{is_text}
use Rattle.table_text.specs.Reading.{Part, Front, Plain, Within, BehindQuote, mark, Takes, Wrong, Move}
use Rattle.table_text.specs.Reading.{within, move, Stand, moved, at_end, read}
use Rattle.table_text.specs.Reader.{in_field, closes, GoesOver, HasFlaw}
use Rattle.table_text.proofs.Steps.{Parted, NotQuoted, front_plain, behind_plain}

pub read_more :
    (s : ℕ) (stand : Stand) (bytes : List ℕ) (at : ℕ) → at < length bytes
    → read s stand at (drop at bytes)
    ≡ moved stand at (get_or bytes at 0) (move s stand.part (get_or bytes at 0) (drop (at + 1) bytes))
    (λ next. read s next (at + 1) (drop (at + 1) bytes))
unfolding read
read_more s stand bytes at inside = ap (read s stand at) (drop_more bytes at 0 inside)

pub read_all :
    (s : ℕ) (stand : Stand) (bytes : List ℕ) (at : ℕ) → length bytes ≤ at
    → read s stand at (drop at bytes) ≡ at_end stand.part stand at
unfolding read
read_all s stand bytes at past = ap (read s stand at) (drop_all at bytes past)

module _ (s : ℕ) (bytes : List ℕ) (at : ℕ) where
  pub over_none : (part : Part) → GoesOver s bytes part at at part
  over_none part row start fields =
      ap (λ (l : List ℕ). read s (in_field row start fields at l part) at (drop at bytes))
      (sym (between_none bytes at))

  module _ (first part : Part) (stop : ℕ) (inside : stop < length bytes) where
    -- the byte there is one more of the field
    pub over_more :
        (p : Part) → at ≤ stop → move s part (get_or bytes stop 0) (drop (stop + 1) bytes) ≡ Takes p
        → GoesOver s bytes first at stop part → GoesOver s bytes first at (stop + 1) p
    over_more p after is over row start fields =
        let here : Stand = in_field row start fields at (slice_range bytes at stop) part in
        over row start fields
        ∙ (read_more s here bytes stop inside
        ∙ (ap (λ (m : Move). moved here stop (get_or bytes stop 0) m
        (λ next. read s next (stop + 1) (drop (stop + 1) bytes))) is
        ∙ ap (λ (l : List ℕ). read s (in_field row start fields at l p) (stop + 1) (drop (stop + 1) bytes))
        (sym (between_more bytes at stop 0 after inside))))

    -- the byte there is wrong
    pub over_wrong :
        (kind : TextKind) → move s part (get_or bytes stop 0) (drop (stop + 1) bytes) ≡ Wrong kind
        → GoesOver s bytes first at stop part → HasFlaw s bytes first at (record { kind = kind; at = stop })
    over_wrong kind is over row start fields =
        let here : Stand = in_field row start fields at (slice_range bytes at stop) part in
        over row start fields
        ∙ (read_more s here bytes stop inside
        ∙ ap (λ (m : Move). moved here stop (get_or bytes stop 0) m
        (λ next. read s next (stop + 1) (drop (stop + 1) bytes))) is)

    -- after its closing quote the field ends there
    pub over_closed :
        closes (mark s (get_or bytes stop 0) (drop (stop + 1) bytes)) ≡ true
        → GoesOver s bytes first at stop BehindQuote → GoesOver s bytes first at stop Plain
    over_closed is over row start fields =
        let parted : Parted s (drop stop bytes) = subst (Parted s) (sym (drop_more bytes stop 0 inside)) is in
        over row start fields
        ∙ behind_plain row start fields at (slice_range bytes at stop) s stop (drop stop bytes) parted

  -- the same at the end of the text
  pub over_closed_end :
      (first : Part) (stop : ℕ) → length bytes ≤ stop → GoesOver s bytes first at stop BehindQuote
      → GoesOver s bytes first at stop Plain
  over_closed_end first stop past over row start fields =
      let parted : Parted s (drop stop bytes) = subst (Parted s) (sym (drop_all stop bytes past)) tt in
      over row start fields
      ∙ behind_plain row start fields at (slice_range bytes at stop) s stop (drop stop bytes) parted

  -- the text ends within quotes
  pub over_open_end :
      (first : Part) (stop : ℕ) → length bytes ≤ stop → GoesOver s bytes first at stop Within
      → HasFlaw s bytes first at (record { kind = Ended; at = stop })
  over_open_end first stop past over row start fields =
      over row start fields
      ∙ read_all s (in_field row start fields at (slice_range bytes at stop) Within) bytes stop past

pub closes_other :
    (m : Mark) → (m ≡ marks.Quote → ⊥) → (m ≡ marks.Wrong → ⊥) → (m ≡ marks.Inner → ⊥) → closes m ≡ true
closes_other marks.Quote quote wrong inner = absurd (quote refl)
closes_other marks.Parts quote wrong inner = refl
closes_other marks.Feeds quote wrong inner = refl
closes_other marks.Returns quote wrong inner = refl
closes_other marks.Wrong quote wrong inner = absurd (wrong refl)
closes_other marks.Inner quote wrong inner = absurd (inner refl)

-- within quotes
pub within_quote : (b : ℕ) → b ≡ 34 → within b ≡ Takes BehindQuote
within_quote b is = ap within is

pub within_text : (b : ℕ) → (b ≡ 34 → ⊥) → is_text b ≡ true → within b ≡ Takes Within
within_text b unlike is =
    let other : (b == 34) ≡ false = ne_eqb b 34 unlike in rw (other, is) refl

pub within_wrong : (b : ℕ) → (b ≡ 34 → ⊥) → is_text b ≡ false → within b ≡ Wrong BadByte
within_wrong b unlike is =
    let other : (b == 34) ≡ false = ne_eqb b 34 unlike in rw (other, is) refl

-- ---- a field that begins with no quote

pub not_quoted_at :
    (bytes : List ℕ) (at : ℕ) → at < length bytes → (get_or bytes at 0 ≡ 34 → ⊥) → NotQuoted (drop at bytes)
not_quoted_at bytes at inside unlike =
    subst NotQuoted (sym (drop_more bytes at 0 inside)) (ne_eqb (get_or bytes at 0) 34 unlike)

pub not_quoted_end : (bytes : List ℕ) (at : ℕ) → length bytes ≤ at → NotQuoted (drop at bytes)
not_quoted_end bytes at past = subst NotQuoted (sym (drop_all at bytes past)) tt

module _ (s : ℕ) (bytes : List ℕ) (at : ℕ) (plain : NotQuoted (drop at bytes)) where
  pub over_from_front :
      (stop : ℕ) → GoesOver s bytes Plain at stop Plain → GoesOver s bytes Front at stop Plain
  over_from_front stop over row start fields =
      front_plain row start fields at [] s at (drop at bytes) plain ∙ over row start fields

  pub flaw_from_front : (flaw : Flaw) → HasFlaw s bytes Plain at flaw → HasFlaw s bytes Front at flaw
  flaw_from_front flaw has row start fields =
      front_plain row start fields at [] s at (drop at bytes) plain ∙ has row start fields
