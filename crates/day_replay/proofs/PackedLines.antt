-- Ballots packed one line, or one batch, after another.
use Rattle.std.proofs.Common.{◌≡◌, ℕ, ◌+◌, ◌<◌, ◌≤◌, List, [], ◌∷◌, ◌++◌, length, get_or, take, replicate, append_assoc, arith}
use Rattle.std.proofs.Common.{sym, ap, ◌∙◌, subst, Option, Result, Ok, Err}
use Rattle.std.specs.Prelude.{OnOk}
use Rattle.std.specs.List.Sorted.{IsPermutation}
use Rattle.std.proofs.lemmas.List.{flat_map_more, take_more, length-append}
use Rattle.std.proofs.lemmas.List.Sums.{sum_by_more_le}
use Rattle.std.proofs.lemmas.List.Sorted.{IsPermutation-trans, IsPermutation-append_left, length_permutation}
use Rattle.plain_ballots.specs.declared.ballot_line.BallotLine.{BallotLine}
use Rattle.plain_ballots.specs.Ballots.{IsSound, ballot_count, plain}
use Rattle.plain_ballots.specs.Ranking.{IsRanking}
use Rattle.plain_ballots.proofs.PlainLemmas.{length-plain, plain-append}
use Rattle.batch_core.specs.declared.entry.Entry.{Entry}
use Rattle.day_replay.specs.Places.{first_lines, lines_at}
use Rattle.day_replay.proofs.PlaceLemmas.{first_more}

-- as many ballots as both have
pub count_of_both :
    (new old lines : List BallotLine) → IsPermutation (plain new) (plain old ++ plain lines)
    → ballot_count new ≡ ballot_count old + ballot_count lines
count_of_both new old lines same =
    omega (
      arith,
      length_permutation (plain new) (plain old ++ plain lines) same,
      length-append (plain old) (plain lines),
      length-plain new,
      length-plain old,
      length-plain lines,
    )

pub on_ok : {T E : Type 0} (r : Result T E) (P Q : Type 0) → (P → Q) → OnOk r P → OnOk r Q
on_ok (Ok x) P Q more is = more is
on_ok (Err e) P Q more is = tt

-- ---- lines

abbrev own : BallotLine → List (List ℕ)
own line = replicate line.count line.ranking

module _ (old now lines : List BallotLine) (i : ℕ) (line : BallotLine) (inside : i < length lines)
    (at : line ≡ get_or lines i line) (so_far : IsPermutation (plain now) (plain old ++ plain (take i lines))) where
  more : plain (take (i + 1) lines) ≡ plain (take i lines) ++ own line
  more =
      ap plain (take_more lines i line inside ∙ ap (λ (l : BallotLine). take i lines ++ l ∷ []) (sym at))
      ∙ sym (flat_map_more own [] (take i lines) line)

  pub line_packed :
      (new : List BallotLine) → IsPermutation (plain new) (plain now ++ replicate line.count line.ranking)
      → IsPermutation (plain new) (plain old ++ plain (take (i + 1) lines))
  line_packed new here =
      subst (IsPermutation (plain new))
      (append_assoc (plain old) (plain (take i lines)) (own line)
      ∙ ap (λ (l : List (List ℕ)). plain old ++ l) (sym more))
      (IsPermutation-trans (plain new) (plain now ++ own line) ((plain old ++ plain (take i lines)) ++ own line) here
      (IsPermutation-append_left (own line) (plain now) (plain old ++ plain (take i lines)) so_far))

  pub line_room : (most : ℕ) → ballot_count old + ballot_count lines ≤ most → ballot_count now + line.count ≤ most
  line_room most room =
      let left : ballot_count (take i lines) + line.count ≤ ballot_count lines =
      subst (λ (l : BallotLine). ballot_count (take i lines) + l.count ≤ ballot_count lines) (sym at)
      (sum_by_more_le (λ (l : BallotLine). l.count) lines i line inside) in
      omega (arith, count_of_both now old (take i lines) so_far, left, room)

module _ (n : ℕ) (lines : List BallotLine) (i : ℕ) (line : BallotLine) (sound : IsSound n lines) (inside : i < length lines)
    (at : line ≡ get_or lines i line) where
  pub line_ranking : IsRanking n line.ranking
  line_ranking = subst (λ (l : BallotLine). IsRanking n l.ranking) (sym at) (sound.rankings i line inside)

  pub line_counted : 1 ≤ line.count
  line_counted = subst (λ (l : BallotLine). 1 ≤ l.count) (sym at) (sound.counted i line inside)

-- ---- batches

pub batch_packed :
    (history : List Entry) (places : List (Option ℕ)) (k : ℕ) (o : Option ℕ) (now new : List BallotLine)
    → k < length places → o ≡ get_or places k o → IsPermutation (plain now) (plain (first_lines history places k))
    → IsPermutation (plain new) (plain now ++ plain (lines_at history o))
    → IsPermutation (plain new) (plain (first_lines history places (k + 1)))
batch_packed history places k o now new below at so_far here =
    let done = first_lines history places k in
    let batch = lines_at history o in
    subst (IsPermutation (plain new))
    (sym (plain-append done batch) ∙ ap plain (sym (first_more history places k o below at)))
    (IsPermutation-trans (plain new) (plain now ++ plain batch) (plain done ++ plain batch) here
    (IsPermutation-append_left (plain batch) (plain now) (plain done) so_far))
