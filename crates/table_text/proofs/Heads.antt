-- The head of a table, byte after byte.
use Rattle.std.proofs.Common.{◌≡◌, ℕ, ◌+◌, ◌<◌, ◌≤◌, List, [], length, drop, get_or, Bool, true, false, not}
use Rattle.std.proofs.Common.{Some, Ok, Err, refl, sym, ◌∙◌, ap}
use Rattle.std.specs.Prelude.{Option, Result}
use Rattle.table_text.specs.declared.text_kind.TextKind.TheVariants.{UnclearSeparator}
use Rattle.table_text.specs.declared.text_fault.TextFault.{TextFault}
use Rattle.table_text.specs.declared.head_byte.HeadByte.{HeadByte}
use Rattle.table_text.specs.declared.head_byte.HeadByte.TheVariants.{Quote, Ends, MayPart, Other}
use Rattle.table_text.specs.Reading.{next_count}
use Rattle.std.proofs.lemmas.List.{drop_more, drop_all}
use Rattle.table_text.specs.Separator.{head_byte, seen, parting, kind_or_comma, is_unlike, one_kind}

pub parting_more :
    (is_quoted : Bool) (bytes : List ℕ) (at : ℕ) → at < length bytes
    → parting is_quoted at (drop at bytes)
    ≡ seen (head_byte is_quoted (get_or bytes at 0)) is_quoted (record { at = at; byte = get_or bytes at 0 })
    (λ next. parting next (at + 1) (drop (at + 1) bytes))
unfolding parting
parting_more is_quoted bytes at inside = ap (parting is_quoted at) (drop_more bytes at 0 inside)

pub parting_all :
    (is_quoted : Bool) (bytes : List ℕ) (at : ℕ) → length bytes ≤ at
    → parting is_quoted at (drop at bytes) ≡ []
unfolding parting
parting_all is_quoted bytes at past = ap (parting is_quoted at) (drop_all at bytes past)

-- The decision, from a place on.
module _ (bytes : List ℕ) (is_quoted : Bool) (kind : Option ℕ) (before at : ℕ) (inside : at < length bytes)
  where
    abbrev b : ℕ
    b = get_or bytes at 0

    abbrev from_here : Result ℕ TextFault
    from_here = one_kind kind before (parting is_quoted at (drop at bytes))

    on_head_byte :
        (h : HeadByte) → h ≡ head_byte is_quoted (get_or bytes at 0)
        → one_kind kind before (parting is_quoted at (drop at bytes))
        ≡ one_kind kind before
        (seen h is_quoted (record { at = at; byte = get_or bytes at 0 })
        (λ next. parting next (at + 1) (drop (at + 1) bytes)))
    on_head_byte h is =
        ap (one_kind kind before) (parting_more is_quoted bytes at inside
        ∙ ap (λ (k : HeadByte). seen k is_quoted (record { at = at; byte = b })
        (λ next. parting next (at + 1) (drop (at + 1) bytes))) (sym is))

    pub over_quote :
        Quote ≡ head_byte is_quoted (get_or bytes at 0)
        → one_kind kind before (parting is_quoted at (drop at bytes))
        ≡ one_kind kind before (parting (not is_quoted) (at + 1) (drop (at + 1) bytes))
    over_quote is = on_head_byte Quote is

    pub over_other :
        Other ≡ head_byte is_quoted (get_or bytes at 0)
        → one_kind kind before (parting is_quoted at (drop at bytes))
        ≡ one_kind kind before (parting is_quoted (at + 1) (drop (at + 1) bytes))
    over_other is = on_head_byte Other is

    pub at_line_end :
        Ends ≡ head_byte is_quoted (get_or bytes at 0)
        → one_kind kind before (parting is_quoted at (drop at bytes)) ≡ Ok (kind_or_comma kind)
    at_line_end is = on_head_byte Ends is

    pub over_same :
        MayPart ≡ head_byte is_quoted (get_or bytes at 0) → is_unlike kind (get_or bytes at 0) ≡ false
        → one_kind kind before (parting is_quoted at (drop at bytes))
        ≡ one_kind (Some (get_or bytes at 0)) (next_count before)
        (parting is_quoted (at + 1) (drop (at + 1) bytes))
    over_same is like = on_head_byte MayPart is ∙ rw like refl

    pub at_unlike :
        MayPart ≡ head_byte is_quoted (get_or bytes at 0) → is_unlike kind (get_or bytes at 0) ≡ true
        → one_kind kind before (parting is_quoted at (drop at bytes))
        ≡ Err (record { kind = UnclearSeparator; at = at; row = 1; column = next_count before })
    at_unlike is unlike = on_head_byte MayPart is ∙ rw unlike refl
