-- Texts within markup.
use Rattle.std.specs.Prelude.{ℕ, List}
use Rattle.std.specs.List.{flat_map}
use Rattle.std.specs.Str.{encode_utf8_all}
use Rattle.bstr.specs.Utf8.{lossy_chars}

-- a text in UTF-8, with the replacement sign for each piece that is none
abbrev pub readable : List ℕ → List ℕ
readable text = encode_utf8_all (lossy_chars text)

-- bytes, where this is written for each
unfoldable pub escaped : (escape : ℕ → List ℕ) → List ℕ → List ℕ
escaped escape bytes = flat_map escape bytes
