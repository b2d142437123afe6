use Rattle.std.proofs.Common.{◌≡◌, ◌+◌, ℕ, List, take, inl, arith, ap, sym, subst, set}
use Rattle.plain_ballots.specs.declared.ballot_line.BallotLine.{BallotLine}
use Rattle.plain_ballots.specs.Ballots.{BallotList, ballot_count}
use Rattle.plain_ballots.specs.Ranking.{IsRanking}
use Rattle.packed_ballots.specs.declared.packed_line.PackedLine.{PackedLine}
use Rattle.packed_ballots.specs.Packed.{HasAt, lines_of}
use Rattle.packed_ballots.specs.Taking.{TakesIn}
use Rattle.packed_ballots.proofs.Lines.{packed_more, adds_more, one_few, count-lines_of}
use Rattle.packed_ballots.proofs.TakenLemmas.{taken_ballots, taken_count, taken_sound}
use Rattle.packed_ballots.proofs.packed_ballots.PackedBallots.take.Goals as goal

-- what was found among slices is among what they are of
found : {b bytes : List ℕ} {l lines : List PackedLine} {ranking : List ℕ} {place : ℕ}
    → b ≡ bytes → l ≡ lines → HasAt b l ranking place → HasAt bytes lines ranking place
found {b} {bytes} {l} {lines} {ranking} {place} same_bytes same_lines has =
    subst (λ (k : List ℕ). HasAt k lines ranking place) same_bytes
    (subst (λ (k : List PackedLine). HasAt b k ranking place) same_lines has)

pub front_digits-front-requires : goal.front_digits-front-requires
front_digits-front-requires c = λ k d inside.
    omega (
      arith,
      (c.requires.ranking.numbers k d inside).1,
      c.self.invariant.3,
      ap (λ (b : BallotList). b.candidates) c.self.view_is,
    )

pub overflow_add-index_mut : goal.overflow_add-index_mut
overflow_add-index_mut c =
    let packed = c.self.inside in
    let bytes = packed.ranks.items in
    let lines = packed.lines.items in
    let has : HasAt bytes lines (take c.args.len c.args.ranks.now) c.in-Some.place =
    found c.as_slice-bytes.ensures.value c.as_slice-lines.ensures.value c.in-Some.ensures in
    omega (
      arith,
      one_few packed.candidates bytes lines c.in-Some.place c.args.count (take c.args.len c.args.ranks.now)
          c.index_mut.result.now c.self.invariant.0 has c.index_mut.ensures.value,
      count-lines_of bytes lines,
      c.requires.room,
      ap (λ (b : BallotList). ballot_count b.lines) c.self.view_is,
    )

pub invariant_of-self : goal.invariant_of-self
invariant_of-self c =
    let packed = c.self.inside in
    let n = packed.candidates in
    let bytes = packed.ranks.items in
    let lines = packed.lines.items in
    let place = c.in-Some.place in
    let count = c.args.count in
    let one = c.index_mut.result.now in
    let ranking = take c.args.len c.args.ranks.now in
    let has : HasAt bytes lines ranking place =
    found c.as_slice-bytes.ensures.value c.as_slice-lines.ensures.value c.in-Some.ensures in
    let candidates = ap (λ (b : BallotList). b.candidates) (sym c.self.view_is) in
    let ranks : IsRanking n ranking = subst (λ (n : ℕ). IsRanking n ranking) candidates c.requires.ranking in
    let room = ap (λ (b : BallotList). ballot_count b.lines) c.self.view_is in
    let old = lines_of bytes lines in
    let new =
    lines_of bytes
    (set lines place (record { front = one.front; start = one.start; count = one.count + count })) in
    let takes : TakesIn count ranking old new =
    inl (adds_more n bytes lines place count ranking one c.self.invariant.0 has c.index_mut.ensures.value) in (
      packed_more n bytes lines place count ranking one c.self.invariant.0 has c.index_mut.ensures.value,
      taken_sound count ranking old new takes n c.self.invariant.1 ranks c.requires.counted
          (omega (arith, c.requires.room, room)),
      omega (arith, c.self.invariant.2, taken_count count ranking old new takes),
      c.self.invariant.3,
    )

pub returns-clause-lines : goal.returns-clause-lines
returns-clause-lines c =
    let packed = c.self.inside in
    let bytes = packed.ranks.items in
    let lines = packed.lines.items in
    let place = c.in-Some.place in
    let ranking = take c.args.len c.args.ranks.now in
    let has : HasAt bytes lines ranking place =
    found c.as_slice-bytes.ensures.value c.as_slice-lines.ensures.value c.in-Some.ensures in
    let one = c.index_mut.result.now in
    let now =
    set lines place (record { front = one.front; start = one.start; count = one.count + c.args.count }) in
    subst (λ (l : List BallotLine). TakesIn c.args.count ranking l (lines_of bytes now))
    (ap (λ (b : BallotList). b.lines) c.self.view_is)
    (inl (adds_more packed.candidates bytes lines place c.args.count ranking one c.self.invariant.0 has
    c.index_mut.ensures.value))

pub returns-clause-ballots : goal.returns-clause-ballots
returns-clause-ballots c =
    taken_ballots c.args.count (take c.args.len c.args.ranks.now) c.args.self.now.lines _ (returns-clause-lines c)
