-- The rules that a count can go by.

-- By Meek's rule a candidate keeps a part of each ballot that reaches it, by Warren's rule it is paid a price.
pub data Rule : Type 0 where
  Meek : Rule
  Warren : Rule
