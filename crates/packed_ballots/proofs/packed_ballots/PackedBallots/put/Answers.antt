use Rattle.std.proofs.Common.{◌≡◌, ◌++◌, ◌∷◌, [], ℕ, List, length, arith, subst, sym, ap, inr, refl, ◌∙◌}
use Rattle.plain_ballots.specs.declared.ballot_line.BallotLine.{BallotLine}
use Rattle.plain_ballots.specs.Ballots.{BallotList, ballot_count}
use Rattle.plain_ballots.specs.Ranking.{IsRanking}
use Rattle.packed_ballots.specs.declared.packed_line.PackedLine.{PackedLine}
use Rattle.packed_ballots.specs.Packed.{lines_of}
use Rattle.packed_ballots.proofs.Lines.{packed_longer, lines_longer}
use Rattle.packed_ballots.proofs.TakenLemmas.{taken_count, taken_sound}
use Rattle.packed_ballots.proofs.packed_ballots.PackedBallots.put.Goals as goal

pub invariant_of-self-2 : goal.invariant_of-self-2
invariant_of-self-2 c =
    let packed = c.self.inside in
    let n = packed.candidates in
    let bytes = packed.ranks.items in
    let lines = packed.lines.items in
    let ranking = c.args.ranks.now in
    let line : PackedLine = record { front = c.args.front; start = length bytes; count = c.args.count } in
    let candidates = ap (λ (b : BallotList). b.candidates) (sym c.self.view_is) in
    let ranks : IsRanking n ranking = subst (λ (n : ℕ). IsRanking n ranking) candidates c.requires.ranking in
    let same : lines_of bytes lines ≡ c.args.self.now.lines = ap (λ (b : BallotList). b.lines) c.self.view_is in
    let room = ap ballot_count same in
    let old = lines_of bytes lines in
    let new = lines_of (bytes ++ (ranking ++ 0 ∷ [])) (lines ++ line ∷ []) in
    let few = c.self.invariant.3 in
    let longer : new ≡ old ++ record { count = c.args.count; ranking = ranking } ∷ [] =
    lines_longer n bytes lines ranking line few c.self.invariant.0 ranks refl c.requires.counted c.requires.front in
    rw (c.in_ok-put_line.ensures.bytes, c.in_ok-put_line.ensures.lines) (
      packed_longer n bytes lines ranking line few c.self.invariant.0 ranks refl c.requires.counted c.requires.front,
      taken_sound c.args.count ranking old new (inr longer) n c.self.invariant.1 ranks c.requires.counted
          (omega (arith, c.requires.room, room)),
      omega (arith, c.self.invariant.2, taken_count c.args.count ranking old new (inr longer)),
      few,
    )

pub returns-clause-lines : goal.returns-clause-lines
returns-clause-lines c =
    let packed = c.self.inside in
    let n = packed.candidates in
    let bytes = packed.ranks.items in
    let lines = packed.lines.items in
    let ranking = c.args.ranks.now in
    let line : PackedLine = record { front = c.args.front; start = length bytes; count = c.args.count } in
    let candidates = ap (λ (b : BallotList). b.candidates) (sym c.self.view_is) in
    let ranks : IsRanking n ranking = subst (λ (n : ℕ). IsRanking n ranking) candidates c.requires.ranking in
    let same : lines_of bytes lines ≡ c.args.self.now.lines = ap (λ (b : BallotList). b.lines) c.self.view_is in
    rw (c.in_ok-put_line.ensures.bytes, c.in_ok-put_line.ensures.lines)
    (lines_longer n bytes lines ranking line c.self.invariant.3 c.self.invariant.0 ranks refl
    c.requires.counted c.requires.front
    ∙ ap (λ (l : List BallotLine). l ++ record { count = c.args.count; ranking = ranking } ∷ []) same)
