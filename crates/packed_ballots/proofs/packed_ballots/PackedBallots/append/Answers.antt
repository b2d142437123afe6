use Rattle.std.proofs.Common.{◌≡◌, ◌+◌, ◌≤◌, ◌++◌, ℕ, length, arith, ap, sym, subst, ◌∙◌}
use Rattle.plain_ballots.specs.Ballots.{BallotList, IsSound, ballot_count}
use Rattle.packed_ballots.specs.Packed.{IsPacked, lines_of}
use Rattle.packed_ballots.proofs.Appended.{packed_appended, lines_appended, count_appended, sound_appended}
use Rattle.packed_ballots.proofs.packed_ballots.PackedBallots.append.Goals as goal

pub invariant_of-self-2 : goal.invariant_of-self-2
invariant_of-self-2 c =
    let own = c.self.inside in
    let came = c.other.inside in
    let n = own.candidates in
    let bytes = own.ranks.items in
    let more = came.ranks.items in
    let lines = own.lines.items in
    let others = came.lines.items in
    let among : came.candidates ≡ n =
    ap (λ (b : BallotList). b.candidates) c.other.view_is
    ∙ (c.requires.candidates ∙ ap (λ (b : BallotList). b.candidates) (sym c.self.view_is)) in
    let packed : IsPacked n more others =
    subst (λ (n : ℕ). IsPacked n more others) among c.other.invariant.0 in
    let sound : IsSound n (lines_of more others) =
    subst (λ (n : ℕ). IsSound n (lines_of more others)) among c.other.invariant.1 in
    let some : 1 ≤ length others = grind (arith, c.is_empty.ensures, c.if-is_empty.false) in
    let few : ballot_count (lines_of bytes lines) + ballot_count (lines_of more others) ≤ 999999999 =
    omega (
      arith,
      c.requires.few,
      ap (λ (b : BallotList). ballot_count b.lines) c.self.view_is,
      ap (λ (b : BallotList). ballot_count b.lines) c.other.view_is,
    ) in
    let all = lines_appended bytes more lines others c.self.invariant.0.kept in
    rw (c.in_ok-append_lines.ensures.bytes, c.in_ok-append_lines.ensures.lines, c.deref.ensures.value) (
      packed_appended n bytes more lines others c.self.invariant.0 packed some,
      subst (IsSound n) (sym all)
          (sound_appended n (lines_of bytes lines) (lines_of more others) c.self.invariant.1 sound few),
      omega (
        arith,
        c.self.invariant.2,
        c.other.invariant.2,
        ap ballot_count all,
        count_appended (lines_of bytes lines) (lines_of more others),
      ),
      c.self.invariant.3,
    )

pub returns-clause-lines : goal.returns-clause-lines
returns-clause-lines c =
    let own = c.self.inside in
    let came = c.other.inside in
    rw (c.in_ok-append_lines.ensures.bytes, c.in_ok-append_lines.ensures.lines, c.deref.ensures.value)
    (lines_appended own.ranks.items came.ranks.items own.lines.items came.lines.items c.self.invariant.0.kept
    ∙ (ap (λ (b : BallotList). b.lines ++ lines_of came.ranks.items came.lines.items) c.self.view_is
    ∙ ap (λ (b : BallotList). c.args.self.now.lines ++ b.lines) c.other.view_is))
