-- The text of a file is written from its tokens.
use Rattle.std.proofs.Common.{◌≡◌, ℕ, ◌≤◌, true, List, [], ◌∷◌, ◌++◌, map, All, refl, arith}
use Rattle.std.specs.Prelude.{codes}
use Rattle.std.specs.List.{flat_map}
use Rattle.std.proofs.lemmas.Bool.Decides.{nat_tests}
use Rattle.std.proofs.lemmas.List.Elements.{All-head, All-tail}
use Rattle.candidate_roll.specs.Name.{IsName}
use Rattle.plain_ballots.specs.declared.ballot_line.BallotLine.{BallotLine}
use Rattle.input_text.specs.Token.{Number, Minus, Text}
use Rattle.input_text.specs.Scan.{is_in_string}
use Rattle.blt_reader.specs.Blt.{ballot}
use Rattle.input_text.specs.Written.{Spells, Each}
use Rattle.input_text.proofs.Spelling.{numbers, number_spelled, strings, parts, nothing}
use Rattle.blt_writer.specs.Text.{number_then, head_text, withdrawn_text, ballot_text, quoted}
use Rattle.blt_writer.proofs.MinusNumbers.{minus_spelled}

-- a number that a token can say
abbrev pub IsSmall : ℕ → Type 0
IsSmall n = n ≤ 4294967295

pub head : (candidates seats : ℕ) → IsSmall candidates → IsSmall seats
    → Spells (head_text candidates seats) (Number candidates ∷ Number seats ∷ [])
head candidates seats small few =
    parts (number_then 32 candidates) (number_then 10 seats) (Number candidates ∷ []) (Number seats ∷ [])
    (numbers candidates 32 small refl) (numbers seats 10 few refl)

pub withdrawn : (cs : List ℕ) → All IsSmall cs → Spells (flat_map withdrawn_text cs) (map Minus cs)
withdrawn [] small = nothing
withdrawn (c ∷ cs) small =
    parts (withdrawn_text c) (flat_map withdrawn_text cs) (Minus c ∷ []) (map Minus cs)
    (minus_spelled c 10 (All-head IsSmall c cs small) refl) (withdrawn cs (All-tail IsSmall c cs small))

ranks : (cs : List ℕ) → All IsSmall cs → Spells (flat_map (number_then 32) cs) (map Number cs)
ranks [] small = nothing
ranks (c ∷ cs) small =
    parts (number_then 32 c) (flat_map (number_then 32) cs) (Number c ∷ []) (map Number cs)
    (numbers c 32 (All-head IsSmall c cs small) refl) (ranks cs (All-tail IsSmall c cs small))

pub zero_line : Spells (codes "0\n") (Number 0 ∷ [])
zero_line = number_spelled (codes "0") 10 0 (omega arith) (refl, tt) refl refl

-- a line whose numbers tokens can say
pub record IsSmallLine (line : BallotLine) : Type 0 where
  pub count : IsSmall line.count
  pub ranks : All IsSmall line.ranking

one_line : (line : BallotLine) → IsSmallLine line → Spells (ballot_text line) (ballot line)
one_line line small =
    parts (number_then 32 line.count) (flat_map (number_then 32) line.ranking ++ codes "0\n") (Number line.count ∷ [])
    (map Number line.ranking ++ Number 0 ∷ []) (numbers line.count 32 small.count refl)
    (parts (flat_map (number_then 32) line.ranking) (codes "0\n") (map Number line.ranking) (Number 0 ∷ [])
    (ranks line.ranking small.ranks) zero_line)

pub lines : (ls : List BallotLine) → All IsSmallLine ls → Spells (flat_map ballot_text ls) (flat_map ballot ls)
lines [] small = nothing
lines (line ∷ ls) small =
    parts (ballot_text line) (flat_map ballot_text ls) (ballot line) (flat_map ballot ls)
    (one_line line (All-head IsSmallLine line ls small)) (lines ls (All-tail IsSmallLine line ls small))

in_string : (b : ℕ) → 32 ≤ b → (b ≡ 34 → ⊥) → is_in_string b ≡ true
in_string b low no_quote = grind (arith, nat_tests)

printable : (bytes : List ℕ) → All (λ b. (32 ≤ b) × (b ≡ 34 → ⊥)) bytes → Each is_in_string bytes
printable [] all = tt
printable (b ∷ bytes) all =
    let here = All-head (λ (b : ℕ). (32 ≤ b) × (b ≡ 34 → ⊥)) b bytes all in
    (in_string b here.0 here.1, printable bytes (All-tail (λ (b : ℕ). (32 ≤ b) × (b ≡ 34 → ⊥)) b bytes all))

pub one_name : (most : ℕ) (bytes : List ℕ) → IsName most bytes → Spells (quoted bytes) (Text bytes ∷ [])
one_name most bytes name = strings bytes 10 (printable bytes name.printable) refl

pub names : (most : ℕ) (texts : List (List ℕ)) → All (IsName most) texts → Spells (flat_map quoted texts) (map Text texts)
names most [] all = nothing
names most (text ∷ texts) all =
    parts (quoted text) (flat_map quoted texts) (Text text ∷ []) (map Text texts)
    (one_name most text (All-head (IsName most) text texts all)) (names most texts (All-tail (IsName most) text texts all))
