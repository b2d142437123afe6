-- Lines of ballots, of which the last one grows.
use Rattle.std.proofs.Common.{◌≡◌, ℕ, zero, suc, ◌+◌, List, [], ◌∷◌, ◌++◌, replicate, ap, ◌∙◌, sym, arith, append_assoc, zero-add}
use Rattle.std.proofs.lemmas.List.{append-nil}
use Rattle.std.proofs.lemmas.Grind.{flat_map-append}
use Rattle.plain_ballots.specs.declared.ballot_line.BallotLine.{BallotLine}
use Rattle.plain_ballots.specs.Ballots.{plain}

repeat_more : (a b : ℕ) (ranking : List ℕ) → replicate (a + b) ranking ≡ replicate a ranking ++ replicate b ranking
repeat_more zero b ranking = ap (λ (n : ℕ). replicate n ranking) (zero-add b)
repeat_more (suc a) b ranking =
    let more : suc a + b ≡ suc (a + b) = omega arith in
    ap (λ (n : ℕ). replicate n ranking) more ∙ ap (λ (l : List (List ℕ)). ranking ∷ l) (repeat_more a b ranking)

-- one line more
pub plain_push : (lines : List BallotLine) (line : BallotLine)
    → plain (lines ++ line ∷ []) ≡ plain lines ++ replicate line.count line.ranking
plain_push lines line =
    flat_map-append (λ (l : BallotLine). replicate l.count l.ranking) lines (line ∷ [])
    ∙ ap (λ (l : List (List ℕ)). plain lines ++ l) (append-nil (replicate line.count line.ranking))

-- a line that counts another one, too
pub plain_more : (lines : List BallotLine) (last line : BallotLine) → last.ranking ≡ line.ranking
    → plain (lines ++ record { count = last.count + line.count; ranking = last.ranking } ∷ [])
    ≡ plain (lines ++ last ∷ []) ++ replicate line.count line.ranking
plain_more lines last line same =
    let more = replicate line.count line.ranking in
    plain_push lines (record { count = last.count + line.count; ranking = last.ranking })
    ∙ ap (λ (l : List (List ℕ)). plain lines ++ l)
    (repeat_more last.count line.count last.ranking
    ∙ ap (λ (r : List ℕ). replicate last.count last.ranking ++ replicate line.count r) same)
    ∙ sym (append_assoc (plain lines) (replicate last.count last.ranking) more)
    ∙ ap (λ (l : List (List ℕ)). l ++ more) (sym (plain_push lines last))
