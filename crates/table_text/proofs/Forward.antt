-- What is spelled is read.
use Rattle.std.proofs.Common.{◌≡◌, ℕ, ◌+◌, suc, List, [], ◌∷◌, ◌++◌, length, map, Bool, true, false, cond}
use Rattle.std.proofs.Common.{◌==◌, inl, inr, refl, sym, ◌∙◌, ap, subst, arith, append-nil, append_assoc}
use Rattle.std.proofs.Common.{add-zero, length-append}
use Rattle.std.proofs.lemmas.Bool.{and_parts, eqb-true}
use Rattle.std.proofs.lemmas.List.{map_push}
use Rattle.std.specs.List.{flat_map, list_all}
use Rattle.table_text.specs.declared.mark.Mark.{Mark}
use Rattle.table_text.specs.Spelling.{is_text, is_plain, within_quotes, quoted, IsField, AreFields}
use Rattle.table_text.specs.Reading.{Field, field_text, Front, Plain, Within, BehindQuote, Part, Takes, Wrong}
use Rattle.table_text.specs.Reading.{Stand, by_mark, moved, read}
use Rattle.table_text.specs.declared.text_kind.TextKind.TheVariants.{BadByte}
use Rattle.table_text.specs.Reader.{in_field, closes}
use Rattle.table_text.specs.Laws.{IsSeparator}
use Rattle.table_text.proofs.Marks.{mark_plain, mark_separator}
use Rattle.table_text.proofs.Steps.{Parted, NotQuoted, parted-not_quoted, front_plain, behind_plain}
use Rattle.table_text.proofs.Texts.{text_is}

-- ---- a field

module _ (s row start : ℕ) (fields : List Field) (from : ℕ) where
  abbrev stand : List ℕ → Part → Stand
  stand bytes part = in_field row start fields from bytes part

  plain_byte :
      (done : List ℕ) (at b : ℕ) (rest : List ℕ) → is_plain s b ≡ true
      → read s (stand done Plain) at (b ∷ rest) ≡ read s (stand (done ++ b ∷ []) Plain) (at + 1) rest
  unfolding read
  plain_byte done at b rest is =
      ap (λ (m : Mark). moved (stand done Plain) at b (by_mark Plain m) (λ next. read s next (at + 1) rest))
      (mark_plain s b rest is).0

  plain_over :
      (done field : List ℕ) (at : ℕ) (rest : List ℕ) → list_all (is_plain s) field ≡ true
      → read s (stand done Plain) at (field ++ rest)
      ≡ read s (stand (done ++ field) Plain) (at + length field) rest
  plain_over done [] at rest all =
      ap (λ (d : List ℕ). read s (stand d Plain) at rest) (sym (append-nil done))
      ∙ ap (λ (n : ℕ). read s (stand (done ++ []) Plain) n rest) (sym (add-zero at))
  plain_over done (b ∷ field) at rest all =
      let both = and_parts (is_plain s b) (list_all (is_plain s) field) all in
      let place : at + 1 + length field ≡ at + suc (length field) = omega arith in
      plain_byte done at b (field ++ rest) both.0
      ∙ (plain_over (done ++ b ∷ []) field (at + 1) rest both.1
      ∙ (ap (λ (d : List ℕ). read s (stand d Plain) (at + 1 + length field) rest)
      (append_assoc done (b ∷ []) field)
      ∙ ap (λ (n : ℕ). read s (stand (done ++ b ∷ field) Plain) n rest) place))

  text_byte :
      (done : List ℕ) (at b : ℕ) (rest : List ℕ) → (b == 34) ≡ false → is_text b ≡ true
      → read s (stand done Within) at (b ∷ rest) ≡ read s (stand (done ++ b ∷ []) Within) (at + 1) rest
  unfolding read
  text_byte done at b rest unlike is =
      ap (λ (q : Bool). moved (stand done Within) at b
      (cond q (Takes BehindQuote) (cond (is_text b) (Takes Within) (Wrong BadByte)))
      (λ next. read s next (at + 1) rest)) unlike
      ∙ ap (λ (q : Bool). moved (stand done Within) at b
      (cond q (Takes Within) (Wrong BadByte)) (λ next. read s next (at + 1) rest)) is

  pair_over :
      (done : List ℕ) (at : ℕ) (rest : List ℕ)
      → read s (stand done Within) at (34 ∷ 34 ∷ rest)
      ≡ read s (stand ((done ++ 34 ∷ []) ++ 34 ∷ []) Within) (at + 1 + 1) rest
  unfolding read
  pair_over done at rest = refl

  within_byte :
      (done : List ℕ) (at b : ℕ) (rest : List ℕ) (is_quote : Bool) → (b == 34) ≡ is_quote → is_text b ≡ true
      → read s (stand done Within) at (within_quotes b ++ rest)
      ≡ read s (stand (done ++ within_quotes b) Within) (at + length (within_quotes b)) rest
  within_byte done at b rest true is text =
      let P : ℕ → Type 0 =
      λ n. read s (stand done Within) at (within_quotes n ++ rest)
      ≡ read s (stand (done ++ within_quotes n) Within) (at + length (within_quotes n)) rest in
      let place : at + 1 + 1 ≡ at + 2 = omega arith in
      subst P (sym (eqb-true b 34 is))
      (pair_over done at rest
      ∙ (ap (λ (d : List ℕ). read s (stand d Within) (at + 1 + 1) rest)
      (append_assoc done (34 ∷ []) (34 ∷ []))
      ∙ ap (λ (n : ℕ). read s (stand (done ++ 34 ∷ 34 ∷ []) Within) n rest) place))
  within_byte done at b rest false is text =
      let P : List ℕ → Type 0 =
      λ w. read s (stand done Within) at (w ++ rest)
      ≡ read s (stand (done ++ w) Within) (at + length w) rest in
      let single : within_quotes b ≡ b ∷ [] = ap (λ (q : Bool). cond q (34 ∷ 34 ∷ []) (b ∷ [])) is in
      subst P (sym single) (text_byte done at b rest is text)

  within_over :
      (done field : List ℕ) (at : ℕ) (rest : List ℕ) → list_all is_text field ≡ true
      → read s (stand done Within) at (flat_map within_quotes field ++ rest)
      ≡ read s (stand (done ++ flat_map within_quotes field) Within)
      (at + length (flat_map within_quotes field)) rest
  within_over done [] at rest all =
      ap (λ (d : List ℕ). read s (stand d Within) at rest) (sym (append-nil done))
      ∙ ap (λ (n : ℕ). read s (stand (done ++ []) Within) n rest) (sym (add-zero at))
  within_over done (b ∷ field) at rest all =
      let both = and_parts (is_text b) (list_all is_text field) all in
      let w : List ℕ = within_quotes b in
      let more : List ℕ = flat_map within_quotes field in
      let place : at + length w + length more ≡ at + length (w ++ more) =
      omega (arith, length-append w more) in
      ap (read s (stand done Within) at) (append_assoc w more rest)
      ∙ (within_byte done at b (more ++ rest) (b == 34) refl both.0
      ∙ (within_over (done ++ w) field (at + length w) rest both.1
      ∙ (ap (λ (d : List ℕ). read s (stand d Within) (at + length w + length more) rest)
      (append_assoc done w more)
      ∙ ap (λ (n : ℕ). read s (stand (done ++ (w ++ more)) Within) n rest) place)))

  plain-not_quoted :
      (field rest : List ℕ) → list_all (is_plain s) field ≡ true → Parted s rest → NotQuoted (field ++ rest)
  plain-not_quoted [] rest all parted = parted-not_quoted s rest parted
  plain-not_quoted (b ∷ field) rest all parted =
      (mark_plain s b [] (and_parts (is_plain s b) (list_all (is_plain s) field) all).0).1

  opens :
      (at : ℕ) (rest : List ℕ)
      → read s (stand [] Front) at (34 ∷ rest) ≡ read s (stand (34 ∷ []) Within) (at + 1) rest
  unfolding read
  opens at rest = refl

  closing :
      (done : List ℕ) (at : ℕ) (rest : List ℕ)
      → read s (stand done Within) at (34 ∷ rest) ≡ read s (stand (done ++ 34 ∷ []) BehindQuote) (at + 1) rest
  unfolding read
  closing done at rest = refl

  -- a field is gone over, however it is spelled
  pub field_over :
      (field text : List ℕ) (at : ℕ) (rest : List ℕ) → IsField s field text → Parted s rest
      → read s (in_field row start fields from [] Front) at (text ++ rest)
      ≡ read s (in_field row start fields from text Plain) (at + length text) rest
  field_over field text at rest (inl is) parted =
      let P : List ℕ → Type 0 =
      λ t. read s (stand [] Front) at (t ++ rest) ≡ read s (stand t Plain) (at + length t) rest in
      subst P (sym is.spelled)
      (front_plain row start fields from [] s at (field ++ rest) (plain-not_quoted field rest is.bytes parted)
      ∙ plain_over [] field at rest is.bytes)
  field_over field text at rest (inr is) parted =
      let P : List ℕ → Type 0 =
      λ t. read s (stand [] Front) at (t ++ rest) ≡ read s (stand t Plain) (at + length t) rest in
      let inner : List ℕ = flat_map within_quotes field in
      let place : at + 1 + length inner + 1 ≡ at + length (quoted field) =
      omega (arith, length-append inner (34 ∷ [])) in
      subst P (sym is.spelled)
      (opens at ((inner ++ 34 ∷ []) ++ rest)
      ∙ (ap (read s (stand (34 ∷ []) Within) (at + 1)) (append_assoc inner (34 ∷ []) rest)
      ∙ (within_over (34 ∷ []) field (at + 1) (34 ∷ rest) is.bytes
      ∙ (closing (34 ∷ inner) (at + 1 + length inner) rest
      ∙ (behind_plain row start fields from (quoted field) s (at + 1 + length inner + 1) rest parted
      ∙ ap (λ (n : ℕ). read s (stand (quoted field) Plain) n rest) place)))))

-- ---- the fields of a record

abbrev pub text_of : Field → List ℕ
text_of field = field_text field.bytes

module _ (s : ℕ) (fit : IsSeparator s) (row start : ℕ) where
  -- fields are gone over, after those that were read before
  pub record Gone (done : List Field) (at : ℕ) (texts : List (List ℕ)) (text rest : List ℕ) : Type 0 where
    pub before : List Field
    pub from : ℕ
    pub last : List ℕ
    pub same : read s (in_field row start done at [] Front) at (text ++ rest)
        ≡ read s (in_field row start before from last Plain) (at + length text) rest
    pub texts_are :
        map text_of (before ++ record { at = from; bytes = last } ∷ []) ≡ map text_of done ++ texts
    pub place : from + length last ≡ at + length text

  over_separator :
      (done : List Field) (from : ℕ) (bytes : List ℕ) (at : ℕ) (rest : List ℕ)
      → read s (in_field row start done from bytes Plain) at (s ∷ rest)
      ≡ read s (in_field row start (done ++ record { at = from; bytes = bytes } ∷ []) (at + 1) [] Front)
      (at + 1) rest
  unfolding read
  over_separator done from bytes at rest =
      ap (λ (m : Mark). moved (in_field row start done from bytes Plain) at s (by_mark Plain m)
      (λ next. read s next (at + 1) rest)) (mark_separator s fit rest)

  pub fields_over :
      (texts : List (List ℕ)) (text : List ℕ) (done : List Field) (at : ℕ) (rest : List ℕ)
      → AreFields s texts text
      → Parted s rest → Gone done at texts text rest
  fields_over [] text done at rest is parted = absurd is
  fields_over (field ∷ []) text done at rest is parted = record {
    before = done;
    from = at;
    last = text;
    same = field_over s row start done at field text at rest is parted;
    texts_are =
        map_push text_of done (record { at = at; bytes = text })
        ∙ ap (λ (t : List ℕ). map text_of done ++ t ∷ []) (text_is s field text is);
    place = refl;
  }
  fields_over (field ∷ other ∷ more) text done at rest is parted =
      let front : List ℕ = is.0 in
      let behind : List ℕ = is.1 in
      let first : Field = record { at = at; bytes = front } in
      let p : ℕ = at + length front in
      let gone : Gone (done ++ first ∷ []) (p + 1) (other ∷ more) behind rest =
      fields_over (other ∷ more) behind (done ++ first ∷ []) (p + 1) rest is.4 parted in
      let len : length text ≡ length front + suc (length behind) =
      ap length is.2 ∙ length-append front (s ∷ behind) in
      let place : p + 1 + length behind ≡ at + length text = omega (arith, len) in
      record {
        before = gone.before;
        from = gone.from;
        last = gone.last;
        same =
            ap (λ (t : List ℕ). read s (in_field row start done at [] Front) at (t ++ rest)) is.2
            ∙ (ap (read s (in_field row start done at [] Front) at) (append_assoc front (s ∷ behind) rest)
            ∙ (field_over s row start done at field front at (s ∷ (behind ++ rest)) is.3
            (ap closes (mark_separator s fit (behind ++ rest)))
            ∙ (over_separator done at front p (behind ++ rest)
            ∙ (gone.same
            ∙ ap (λ (n : ℕ). read s (in_field row start gone.before gone.from gone.last Plain) n rest)
            place))));
        texts_are =
            gone.texts_are
            ∙ (ap (λ (ts : List (List ℕ)). ts ++ other ∷ more)
            (map_push text_of done first
            ∙ ap (λ (t : List ℕ). map text_of done ++ t ∷ []) (text_is s field front is.3))
            ∙ append_assoc (map text_of done) (field ∷ []) (other ∷ more));
        place = gone.place ∙ place;
      }
