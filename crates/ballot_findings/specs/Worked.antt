-- What is said of ballot files, worked by hand.
use Rattle.std.specs.Prelude.{◌≡◌, ℕ, Bool, true, false, List, [], ◌∷◌, ◌++◌, codes, drop, map, replicate}
use Rattle.std.specs.List.{flat_map, range_with_len}
use Rattle.plain_ballots.specs.declared.ballot_line.BallotLine.{BallotLine}
use Rattle.blt_reader.specs.Poll.{Poll}
use Rattle.ballot_findings.specs.Breaks.{longer_lines, place_warnings}
use Rattle.ballot_findings.specs.Lines.{count_line, look_text, told}
use Rattle.ballot_findings.specs.declared.kind.Kind.TheVariants.{Latin, Greek, Cyrillic, Armenian, Cherokee, Lisu, Coptic}
use Rattle.ballot_findings.specs.Signs.{has_several_scripts, has_stray_sign, has_unusual_blanks, is_blank, is_combining, is_directional, is_hidden, is_number, is_of, is_striking}
use Rattle.ballot_findings.specs.Unseen.{far_lines}
use Rattle.ballot_findings.specs.Places.{column_at, line_at}
use Rattle.ballot_findings.specs.Sites.{places, tokens_of, withdrawn_at, withdrawn_ranks}

abbrev pub line_of : (count : ℕ) → (ranking : List ℕ) → BallotLine
line_of count ranking = record { count = count; ranking = ranking }

abbrev pub poll_of : (seats : ℕ) → (names : List (List ℕ)) → (withdrawn : List Bool) → List BallotLine → Poll
poll_of seats names withdrawn lines =
    record { roll = record { seats = seats; names = names; title = codes "Board"; withdrawn = withdrawn }; lines = lines }

-- Nine ballots on four lines, two of them empty: 2*3 + 2*1 + 3*2 = 14 ranks, which are 1.555.. for each ballot. Nothing
-- wants a look.
abbrev pub QuietFile : Type 0
QuietFile =
    look_text (codes "3 2\n2 1 2 3 0\n2 2 0\n3 1 3 0\n2 0\n0\n\"Ann\"\n\"Ben\"\n\"Cid\"\n\"Board\"\n")
    (poll_of 2 (codes "Ann" ∷ codes "Ben" ∷ codes "Cid" ∷ []) (false ∷ false ∷ false ∷ [])
    (line_of 2 (1 ∷ 2 ∷ 3 ∷ []) ∷ line_of 2 (2 ∷ []) ∷ line_of 3 (1 ∷ 3 ∷ []) ∷ line_of 2 [] ∷ []))
    ≡ codes "ballots 9\nlines 4\nempty 2\ncandidates 3\nseats 2\nwithdrawn none\ntitle Board\nfirst 1 5 Ann\nfirst 2 2 Ben\nfirst 3 0 Cid\nmean 1.55\nequal 0\n"

-- No ballots at all. The names stand on the third line, five bytes long with their quotes.
abbrev pub NoBallots : Type 0
NoBallots =
    look_text (codes "2 1\n0\n\"Ann\" \"Ben\"\n\"Board\"\n")
    (poll_of 1 (codes "Ann" ∷ codes "Ben" ∷ []) (false ∷ false ∷ []) [])
    ≡ codes "ballots 0\nlines 0\nempty 0\ncandidates 2\nseats 1\nwithdrawn none\ntitle Board\nfirst 1 0 Ann\nfirst 2 0 Ben\nmean none\nequal 0\nlook on no ballot 1 3 1\nlook on no ballot 2 3 7\n"

-- Names: the first and the fourth are the same, the second is like both but for a space and a capital letter; the third has a byte
-- that is no UTF-8, and the fifth a mark, U+202E. They are on lines 4 to 6, after a space on the last of these.
abbrev pub OddNames : Type 0
OddNames =
    look_text
    (codes "5 1\n1 5 4 3 2 1 0\n0\n\"Ann\" \"a nn\"\n\"J"
    ++ 252 ∷ codes "rg\"\n \"Ann\" \""
    ++ 226 ∷ 128 ∷ 174 ∷ codes "Bob\"\n\"Board\"\n")
    (poll_of 1 (codes "Ann" ∷ codes "a nn" ∷ (codes "J" ++ 252 ∷ codes "rg") ∷ codes "Ann" ∷ (226 ∷ 128 ∷ 174 ∷ codes "Bob") ∷ [])
    (false ∷ false ∷ false ∷ false ∷ false ∷ []) (line_of 1 (5 ∷ 4 ∷ 3 ∷ 2 ∷ 1 ∷ []) ∷ []))
    ≡ codes "ballots 1\nlines 1\nempty 0\ncandidates 5\nseats 1\nwithdrawn none\ntitle Board\nfirst 1 0 Ann\nfirst 2 0 a nn\nfirst 3 0 J"
    ++ 252 ∷ codes "rg\nfirst 4 0 Ann\nfirst 5 1 "
    ++ 226 ∷ 128 ∷ 174 ∷ codes "Bob\nmean 5.00\nequal 0\nlook same name 1 4 6 2\nlook similar name 1 2 4 7\nlook similar name 2 4 6 2\nlook name is not UTF-8 3 5 1\nlook name has a directional mark 5 6 8\n"

-- Four lines, of which the third says what the first says, and the fourth what the second says with another count; the second
-- and the third candidate are withdrawn, so that one runs for four seats; 2 + 1 ballots rank the second, and none the third.
-- 7 ballots have 2*2 + 1*1 + 1*2 + 3*1 = 10 ranks: 1.428.. for each. Line 3 has the number of seats; line 5 two ballots that
-- rank the second candidate; line 6 two ballot lines, of which the second does; and line 7 three ballots.
abbrev pub OddCounts : Type 0
OddCounts =
    look_text
    (codes "# by hand\n3\n 4\n-2 -3\n2 1 2 0\n1 1 0 1 1 2 0\n3 1 0\n0\n\"Ann\"\n\"Ben\" \"Cid\"\n\"Board\"\n")
    (poll_of 4 (codes "Ann" ∷ codes "Ben" ∷ codes "Cid" ∷ []) (false ∷ true ∷ true ∷ [])
    (line_of 2 (1 ∷ 2 ∷ []) ∷ line_of 1 (1 ∷ []) ∷ line_of 1 (1 ∷ 2 ∷ []) ∷ line_of 3 (1 ∷ []) ∷ []))
    ≡ codes "ballots 7\nlines 4\nempty 0\ncandidates 3\nseats 4\nwithdrawn 2 3\ntitle Board\nfirst 1 7 Ann\nfirst 2 0 Ben\nfirst 3 0 Cid\nmean 1.42\nequal 2\nlook more seats than candidates 3 2\nlook a seat for everybody who runs 3 2\nlook on no ballot 3 10 7\nlook ballots with withdrawn candidates 3 5 5\n"

-- At both ends of each range of marks, of which the first is a single one: the character before it, the first and the last in
-- it, and the next after it.
abbrev pub Marks : Type 0
Marks =
    map is_directional
    (0x061B ∷ 0x061C ∷ 0x061D ∷ 0x200D ∷ 0x200E ∷ 0x200F ∷ 0x2010 ∷ 0x2029 ∷ 0x202A ∷ 0x202E ∷ 0x202F ∷ 0x2065 ∷ 0x2066
    ∷ 0x2069 ∷ 0x206A ∷ [])
    ≡ false ∷ true ∷ false ∷ false ∷ true ∷ true ∷ false ∷ false ∷ true ∷ true ∷ false ∷ false ∷ true ∷ true ∷ false ∷ []

-- At both ends of each range of characters that aren't seen: the first and the last in it, and the ones before and after it.
pub record HiddenCharacters : Type 0 where
  pub hidden_in :
      map is_hidden
      (0 ∷ 31 ∷ 127 ∷ 159 ∷ 0x00AD ∷ 0x034F ∷ 0x115F ∷ 0x1160 ∷ 0x17B4 ∷ 0x17B5 ∷ 0x180B ∷ 0x180F ∷ 0x200B ∷ 0x200D
      ∷ 0x2028 ∷ 0x2029 ∷ 0x2060 ∷ 0x2065 ∷ 0x206A ∷ 0x206F ∷ 0x2800 ∷ 0x3164 ∷ 0xFE00 ∷ 0xFE0F ∷ 0xFEFF ∷ 0xFFA0
      ∷ 0xFFF0 ∷ 0xFFFB ∷ 0x1BCA0 ∷ 0x1BCA3 ∷ 0x1D173 ∷ 0x1D17A ∷ 0xE0000 ∷ 0xE0FFF ∷ [])
      ≡ replicate 34 true
  pub hidden_out :
      map is_hidden
      (32 ∷ 126 ∷ 0x00A0 ∷ 0x00AC ∷ 0x00AE ∷ 0x034E ∷ 0x0350 ∷ 0x115E ∷ 0x1161 ∷ 0x17B3 ∷ 0x17B6 ∷ 0x180A ∷ 0x1810
      ∷ 0x200A ∷ 0x200E ∷ 0x2027 ∷ 0x202A ∷ 0x205F ∷ 0x2066 ∷ 0x2069 ∷ 0x2070 ∷ 0x27FF ∷ 0x2801 ∷ 0x3163 ∷ 0x3165
      ∷ 0xFDFF ∷ 0xFE10 ∷ 0xFEFE ∷ 0xFF00 ∷ 0xFF9F ∷ 0xFFA1 ∷ 0xFFEF ∷ 0xFFFC ∷ 0x1BC9F ∷ 0x1BCA4 ∷ 0x1D172
      ∷ 0x1D17B ∷ 0xDFFFF ∷ 0xE1000 ∷ [])
      ≡ replicate 39 false

-- The same of letters, of blanks and of combining signs.
pub record OtherCharacters : Type 0 where
  pub latin_in :
      map (is_of Latin)
      (65 ∷ 90 ∷ 97 ∷ 122 ∷ 0x00C0 ∷ 0x00D6 ∷ 0x00D8 ∷ 0x00F6 ∷ 0x00F8 ∷ 0x02AF ∷ 0x1E00 ∷ 0x1EFF ∷ [])
      ≡ replicate 12 true
  pub latin_out :
      map (is_of Latin)
      (64 ∷ 91 ∷ 96 ∷ 123 ∷ 0x00BF ∷ 0x00D7 ∷ 0x00D7 ∷ 0x00F7 ∷ 0x00F7 ∷ 0x02B0 ∷ 0x1DFF ∷ 0x1F00 ∷ [])
      ≡ replicate 12 false
  pub greek_in :
      map (is_of Greek)
      (0x0370 ∷ 0x03E1 ∷ 0x03F0 ∷ 0x03FF ∷ 0x1F00 ∷ 0x1FFF ∷ [])
      ≡ replicate 6 true
  pub greek_out :
      map (is_of Greek)
      (0x036F ∷ 0x03E2 ∷ 0x03EF ∷ 0x0400 ∷ 0x1EFF ∷ 0x2000 ∷ [])
      ≡ replicate 6 false
  pub cyrillic_in :
      map (is_of Cyrillic)
      (0x0400 ∷ 0x052F ∷ 0x1C80 ∷ 0x1C8F ∷ 0xA640 ∷ 0xA69F ∷ [])
      ≡ replicate 6 true
  pub cyrillic_out :
      map (is_of Cyrillic)
      (0x03FF ∷ 0x0530 ∷ 0x1C7F ∷ 0x1C90 ∷ 0xA63F ∷ 0xA6A0 ∷ [])
      ≡ replicate 6 false
  pub armenian_in :
      map (is_of Armenian)
      (0x0531 ∷ 0x0588 ∷ [])
      ≡ replicate 2 true
  pub armenian_out :
      map (is_of Armenian)
      (0x0530 ∷ 0x0589 ∷ [])
      ≡ replicate 2 false
  pub cherokee_in :
      map (is_of Cherokee)
      (0x13A0 ∷ 0x13FD ∷ 0xAB70 ∷ 0xABBF ∷ [])
      ≡ replicate 4 true
  pub cherokee_out :
      map (is_of Cherokee)
      (0x139F ∷ 0x13FE ∷ 0xAB6F ∷ 0xABC0 ∷ [])
      ≡ replicate 4 false
  pub lisu_in :
      map (is_of Lisu)
      (0xA4D0 ∷ 0xA4FF ∷ [])
      ≡ replicate 2 true
  pub lisu_out :
      map (is_of Lisu)
      (0xA4CF ∷ 0xA500 ∷ [])
      ≡ replicate 2 false
  pub coptic_in :
      map (is_of Coptic)
      (0x03E2 ∷ 0x03EF ∷ 0x2C80 ∷ 0x2CFF ∷ [])
      ≡ replicate 4 true
  pub coptic_out :
      map (is_of Coptic)
      (0x03E1 ∷ 0x03F0 ∷ 0x2C7F ∷ 0x2D00 ∷ [])
      ≡ replicate 4 false
  pub blank_in :
      map is_blank
      (32 ∷ 0x00A0 ∷ 0x1680 ∷ 0x2000 ∷ 0x200A ∷ 0x202F ∷ 0x205F ∷ 0x3000 ∷ [])
      ≡ replicate 8 true
  pub blank_out :
      map is_blank
      (31 ∷ 33 ∷ 159 ∷ 0x00A1 ∷ 0x167F ∷ 0x1681 ∷ 0x1FFF ∷ 0x200B ∷ 0x202E ∷ 0x2030 ∷ 0x205E ∷ 0x2060 ∷ 0x2FFF
      ∷ 0x3001 ∷ [])
      ≡ replicate 14 false
  pub combining_in :
      map is_combining
      (0x0300 ∷ 0x036F ∷ 0x0483 ∷ 0x0489 ∷ 0x1AB0 ∷ 0x1AFF ∷ 0x1DC0 ∷ 0x1DFF ∷ 0x20D0 ∷ 0x20FF ∷ 0xFE20 ∷ 0xFE2F ∷ [])
      ≡ replicate 12 true
  pub combining_out :
      map is_combining
      (0x02FF ∷ 0x0370 ∷ 0x0482 ∷ 0x048A ∷ 0x1AAF ∷ 0x1B00 ∷ 0x1DBF ∷ 0x1E00 ∷ 0x20CF ∷ 0x2100 ∷ 0xFE1F ∷ 0xFE30 ∷ [])
      ≡ replicate 12 false
  pub striking_in :
      map is_striking
      (0x0334 ∷ 0x0338 ∷ 0x0488 ∷ 0x0489 ∷ 0x20D0 ∷ 0x20FF ∷ [])
      ≡ replicate 6 true
  pub striking_out :
      map is_striking
      (0x0333 ∷ 0x0339 ∷ 0x0487 ∷ 0x048A ∷ 0x20CF ∷ 0x2100 ∷ [])
      ≡ replicate 6 false

-- Texts, of which each is odd or isn't.
pub record OddTexts : Type 0 where
  -- a decomposed é, ấ and ᾂ, and a letter of Cyrillic with a sign; then four signs in a row, one at the front, after a space and
  -- after a digit, one that strikes out and one that encloses
  pub signs :
      map has_stray_sign
      ((0x65 ∷ 0x301 ∷ []) ∷ (0x61 ∷ 0x302 ∷ 0x301 ∷ []) ∷ (0x3B1 ∷ 0x313 ∷ 0x300 ∷ 0x345 ∷ []) ∷ (0x438 ∷ 0x306 ∷ [])
      ∷ (0x61 ∷ 0x300 ∷ 0x301 ∷ 0x302 ∷ 0x303 ∷ []) ∷ (0x301 ∷ 0x61 ∷ []) ∷ (0x61 ∷ 0x20 ∷ 0x301 ∷ []) ∷ (0x37 ∷ 0x301 ∷ [])
      ∷ (0x61 ∷ 0x336 ∷ []) ∷ (0x61 ∷ 0x20DD ∷ []) ∷ [])
      ≡ false ∷ false ∷ false ∷ false ∷ true ∷ true ∷ true ∷ true ∷ true ∷ true ∷ []
  -- none, single spaces and a tab; then a space at the front and at the end, two in a row, and a no-break one
  pub blanks :
      map has_unusual_blanks
      ([] ∷ codes "Ann B Lee" ∷ codes "Ann\tLee" ∷ codes " Ann" ∷ codes "Ann " ∷ codes "Ann  Lee" ∷ (0x41 ∷ 0xA0 ∷ 0x42 ∷ []) ∷ [])
      ≡ false ∷ false ∷ false ∷ true ∷ true ∷ true ∷ true ∷ []
  -- none, letters of one script, and of one with some of China; then of Latin and Cyrillic, and of Greek and Armenian
  pub letters :
      map has_several_scripts
      ([] ∷ codes "Ann" ∷ (0x410 ∷ 0x43D ∷ []) ∷ (0x41 ∷ 0x674E ∷ []) ∷ (0x410 ∷ 0x20 ∷ 0x41 ∷ []) ∷ (0x3B1 ∷ 0x561 ∷ []) ∷ [])
      ≡ false ∷ false ∷ false ∷ false ∷ true ∷ true ∷ []
  pub numbers :
      map is_number (codes "7" ∷ codes "-3" ∷ codes "# 2/3?" ∷ [] ∷ codes "--" ∷ codes "7a" ∷ codes "7@" ∷ [])
      ≡ true ∷ true ∷ true ∷ false ∷ false ∷ false ∷ false ∷ []

-- The first name is a number and the second has two spaces in a row; the title begins and ends with one. Of names
-- and of the title the kinds come in their order: blanks, and then numbers.
abbrev pub OddTitle : Type 0
OddTitle =
    look_text (codes "2 1\n1 1 2 0\n0\n\"7\" \"A  B\"\n \"T \"\n")
    (record {
      roll = record {
        seats = 1;
        names = codes "7" ∷ codes "A  B" ∷ [];
        title = codes "T ";
        withdrawn = false ∷ false ∷ [];
      };
      lines = line_of 1 (1 ∷ 2 ∷ []) ∷ [];
    })
    ≡ codes "ballots 1\nlines 1\nempty 0\ncandidates 2\nseats 1\nwithdrawn none\ntitle T \nfirst 1 1 7\nfirst 2 0 A  B\nmean 2.00\nequal 0\nlook name has unusual blanks 2 4 5\nlook name is a number 1 4 1\nlook title has unusual blanks 5 2\n"

-- A ballot after a hundred blanks, of which the last is a tab, and one after 101, which is not told; and one after ninety-nine and a
-- line end.
pub record FarBallots : Type 0 where
  pub far :
      far_lines (codes "1 1\n" ++ replicate 99 32 ++ codes "\t1 1 0\n" ++ replicate 101 32 ++ codes "1 0\n0\n")
      ≡ codes "look hidden by blanks 2 101\n"
  pub near : far_lines (codes "1 1\n" ++ replicate 99 32 ++ codes "1 0\n0\n") ≡ []

-- Of a hundred lines all are told, and of a hundred and two the first hundred, and that there are two more.
pub record ManyLines : Type 0 where
  pub few : told (count_line (codes "n ")) (range_with_len 1 100) ≡ flat_map (count_line (codes "n ")) (range_with_len 1 100)
  pub many :
      told (count_line (codes "n ")) (range_with_len 1 102)
      ≡ flat_map (count_line (codes "n ")) (range_with_len 1 100) ++ codes "look more lines of this kind 2\n"

-- Three lines in eight bytes: a carriage return with a line feed after it ends one line, a line feed with a carriage return
-- after it ends two.
pub record Places : Type 0 where
  pub lines :
      map (line_at (codes "a\r\nb\n\rc")) (range_with_len 0 8) ≡ 1 ∷ 1 ∷ 2 ∷ 2 ∷ 2 ∷ 3 ∷ 4 ∷ 4 ∷ []
  pub columns :
      map (column_at (codes "a\r\nb\n\rc")) (range_with_len 0 8) ≡ 1 ∷ 2 ∷ 1 ∷ 1 ∷ 2 ∷ 1 ∷ 1 ∷ 2 ∷ []

-- Five ballots without their 0, on the second line, and four with a line break before the last candidate, on the fifth;
-- after the title two strings on one line. The numbers of candidates and of seats are on lines of their own, a comment
-- is between a ballot and its line break, and a line is empty.
abbrev pub PartedFile : Type 0
PartedFile =
    place_warnings
    (codes "3\n1 5 1 # five\r\n2 3 0\n\n 4 2\n 3 0\n0\n\"A\" \"B\"\n\"C\"\n\"T\"\n \"x\" \"y z\"\n") 3
    ≡ codes "look seats on another line 2 1\nlook line ends within a ballot 2 5\nlook line ends within a ballot 5 4\nlook string behind the title 11 2\nlook string behind the title 11 6\n"

-- A byte order mark counts in columns, and carriage returns alone end lines, which is told of the first. A candidate is on another line than the 0 after it. The
-- title and the withdrawn stand on lines of their own, as they may.
abbrev pub OldFile : Type 0
OldFile =
    place_warnings (239 ∷ 187 ∷ 191 ∷ codes "2 1\r-1\r-1 7 2\r0\r3 0\r0\r\"A\"\r\"B\"\r\"T\"") 2
    ≡ codes "look line ends within a ballot 3 6\nlook line ends with a carriage return alone 1 7\n"

-- Fifteen bytes on four lines. Where a count reads twelve, the thirteenth is the first too many: the T of the title, in column 2
-- of line 4. Where it reads fifteen, none is.
pub record LongFile : Type 0 where
  pub longer : longer_lines 12 (codes "1 1\n0\n\"A\" \n\"T\"\n") ≡ codes "look longer than a count reads 12 4 2\n"
  pub as_long : longer_lines 15 (codes "1 1\n0\n\"A\" \n\"T\"\n") ≡ []

-- Candidate 1 of two is withdrawn, and 1 is also the number of seats and the count of both ballot lines. These begin at the
-- places 7 and 15, and rank the candidate at 9 and at 19.
pub record Ranks : Type 0 where
  pub all :
      places (withdrawn_ranks (true ∷ false ∷ []) (drop 2 (tokens_of (codes "2 1\n-1\n1 1 2 0\n1 2 1 0\n0\n"))))
      ≡ 9 ∷ 19 ∷ []
  pub first : withdrawn_at (codes "2 1\n-1\n1 1 2 0\n1 2 1 0\n0\n") (true ∷ false ∷ []) ≡ 9
