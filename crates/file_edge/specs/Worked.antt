-- Words of commands, and the files that they name, by hand.
use Rattle.std.specs.Prelude.{◌≡◌, [], ◌∷◌, codes}
use Rattle.file_edge.specs.Words.{files_of, words_of}

pub record WorkedWords : Type 0 where
  -- meek count --lots 1,2,3 small.blt
  pub last_files : files_of (codes "count" ∷ codes "--lots" ∷ codes "1,2,3" ∷ codes "small.blt" ∷ []) ≡ codes "small.blt" ∷ []
  pub last_words :
      words_of (codes "count" ∷ codes "--lots" ∷ codes "1,2,3" ∷ codes "small.blt" ∷ [])
      ≡ codes "count" ∷ codes "--lots" ∷ codes "1,2,3" ∷ []
  -- meek check a.sheet --lots=1,2 -
  pub two_files : files_of (codes "check" ∷ codes "a.sheet" ∷ codes "--lots=1,2" ∷ codes "-" ∷ []) ≡ codes "a.sheet" ∷ codes "-" ∷ []
  pub two_words : words_of (codes "check" ∷ codes "a.sheet" ∷ codes "--lots=1,2" ∷ codes "-" ∷ []) ≡ codes "check" ∷ codes "--lots=1,2" ∷ []
  -- meek page --as csv --mark a.sheet
  pub after_mark : files_of (codes "page" ∷ codes "--as" ∷ codes "csv" ∷ codes "--mark" ∷ codes "a.sheet" ∷ []) ≡ codes "a.sheet" ∷ []
  -- meek import --title -5 a.csv
  pub after_a_value : files_of (codes "import" ∷ codes "--title" ∷ codes "-5" ∷ codes "a.csv" ∷ []) ≡ codes "a.csv" ∷ []
  -- meek count -lots 1,2, in which an option has one hyphen
  pub one_hyphen : files_of (codes "count" ∷ codes "-lots" ∷ codes "1,2" ∷ []) ≡ []
  -- meek audit -- a, where the last word is a value
  pub value : files_of (codes "audit" ∷ codes "--" ∷ codes "a" ∷ []) ≡ []
  pub name_alone : words_of (codes "look" ∷ []) ≡ codes "look" ∷ []
  pub no_words : words_of [] ≡ []
