-- How comma-separated text is read.
use Rattle.std.specs.Prelude.{ℕ, ◌==◌, if◌then◌else◌, List, [], ◌∷◌, ◌++◌}

-- where a reader is, with the bytes of the field so far: outside quotes, within them, or after a quote, which either ended the field or is the
-- first of two
pub data Place : Type 0 where
  Outside : (field : List ℕ) → Place
  Within : (field : List ℕ) → Place
  BehindQuote : (field : List ℕ) → Place

-- The records of a text, after these fields of the first one.
abbrev pub read : (fields : List (List ℕ)) → Place → List ℕ → List (List (List ℕ))
read fields place [] = []
read fields (Outside field) (b ∷ rest) =
    if b == 34 then read fields (Within field) rest
    else if b == 44 then read (fields ++ field ∷ []) (Outside []) rest
    else if b == 13 then read fields (Outside field) rest
    else if b == 10 then (fields ++ field ∷ []) ∷ read [] (Outside []) rest
    else read fields (Outside (field ++ b ∷ [])) rest
read fields (Within field) (b ∷ rest) =
    if b == 34 then read fields (BehindQuote field) rest
    else read fields (Within (field ++ b ∷ [])) rest
read fields (BehindQuote field) (b ∷ rest) =
    if b == 34 then read fields (Within (field ++ b ∷ [])) rest
    else if b == 44 then read (fields ++ field ∷ []) (Outside []) rest
    else if b == 13 then read fields (Outside field) rest
    else if b == 10 then (fields ++ field ∷ []) ∷ read [] (Outside []) rest
    else read fields (Outside (field ++ b ∷ [])) rest
