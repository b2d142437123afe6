-- No control character is written of a text.
use Rattle.std.proofs.Common.{◌≡◌, sym, subst, refl, ℕ, zero, suc, Bool, true, false, All, List, [], ◌∷◌, get_or, map}
use Rattle.std.specs.Prelude.{if◌then◌else◌, slice_index_or}
use Rattle.std.specs.Char.{is_control}
use Rattle.std.specs.List.{range_with_len}
use Rattle.std.proofs.lemmas.List.Elements.{All-map}
use Rattle.bstr.specs.Utf8.{lossy_chars, replacement}
use Rattle.bstr.proofs.lemmas.EncodeLemmas.{lossy_chars-encode}
use Rattle.sheet_minutes.specs.declared.columns.TheConstants.{NAME_COLUMNS}
use Rattle.sheet_minutes.specs.Columns.{columns, name_columns, tamed}
use Rattle.sheet_minutes.specs.Laws.{TextsAreTame}
use Rattle.sheet_minutes.proofs.Texts.{columns_scalars, name_scalars}

tame_by : (b : Bool) (c : ℕ) → is_control c ≡ b → is_control (if b then replacement else c) ≡ false
tame_by true c is = refl
tame_by false c is = is

tame : (c : ℕ) → is_control (tamed c) ≡ false
tame c = tame_by (is_control c) c refl

-- a tame character of a text, or a space after it
tame_at : (cs : List ℕ) (k : ℕ) → is_control (get_or (map tamed cs) k 32) ≡ false
tame_at [] zero = refl
tame_at [] (suc k) = refl
tame_at (c ∷ cs) zero = tame c
tame_at (c ∷ cs) (suc k) = tame_at cs k

pub texts_tame : TextsAreTame
unfolding name_columns
texts_tame = record {
  texts = λ text.
      subst (All (λ c. is_control c ≡ false)) (sym (lossy_chars-encode (columns text) (columns_scalars text)))
      (All-map (λ c. is_control c ≡ false) tamed (lossy_chars text) (λ k d below. tame (slice_index_or (lossy_chars text) k d)));
  names = λ name.
      subst (All (λ c. is_control c ≡ false)) (sym (lossy_chars-encode (name_columns name) (name_scalars name)))
      (All-map (λ c. is_control c ≡ false) (λ k. slice_index_or (columns name) k 32) (range_with_len 0 NAME_COLUMNS)
      (λ k d below. tame_at (lossy_chars name) (slice_index_or (range_with_len 0 NAME_COLUMNS) k d)));
}
