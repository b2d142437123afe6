-- Ballots taken in.
use Rattle.std.proofs.Common.{◌≡◌, ℕ, ◌+◌, ◌≤◌, List, [], ◌∷◌, ◌++◌, All, replicate, append_assoc}
use Rattle.std.proofs.Common.{arith, ap, sym, ◌∙◌, subst, inl, inr}
use Rattle.std.specs.List.Sorted.{IsPermutation}
use Rattle.std.proofs.lemmas.List.{append-nil, length-append, length-replicate, replicate-append-replicate}
use Rattle.std.proofs.lemmas.List.Sums.{sum_by_push}
use Rattle.std.proofs.lemmas.List.Sorted.{IsPermutation-refl, IsPermutation-trans, length_permutation}
use Rattle.std.proofs.lemmas.List.Sorted.{IsPermutation-append_left, IsPermutation-append_right, IsPermutation-append_comm}
use Rattle.std.proofs.lemmas.List.Elements.{All-cons, All-push, All-tail}
use Rattle.plain_ballots.specs.declared.ballot_line.BallotLine.{BallotLine}
use Rattle.plain_ballots.specs.Ballots.{IsSound, ballot_count, plain}
use Rattle.plain_ballots.specs.Ranking.{IsRanking}
use Rattle.plain_ballots.proofs.PlainLemmas.{plain-append, length-plain}
use Rattle.packed_ballots.specs.Taking.{TakesIn}

-- a line after the others has its ballots after theirs
pub plain-push :
    (lines : List BallotLine) (line : BallotLine)
    → plain (lines ++ line ∷ []) ≡ plain lines ++ replicate line.count line.ranking
plain-push lines line =
    plain-append lines (line ∷ [])
    ∙ ap (λ (l : List (List ℕ)). plain lines ++ l) (append-nil (replicate line.count line.ranking))

pub same_push :
    (lines : List BallotLine) (line : BallotLine)
    → IsPermutation (plain (lines ++ line ∷ [])) (plain lines ++ replicate line.count line.ranking)
same_push lines line =
    subst (IsPermutation (plain (lines ++ line ∷ []))) (plain-push lines line)
    (IsPermutation-refl (plain (lines ++ line ∷ [])))

-- as many ballots where they are the same in another order
pub same_count :
    (xs ys : List BallotLine) → IsPermutation (plain xs) (plain ys) → ballot_count xs ≡ ballot_count ys
same_count xs ys same = omega (arith, length_permutation (plain xs) (plain ys) same, length-plain xs, length-plain ys)

-- ---- what comes of ballots taken in

-- what all have, all have where one is put for another that has it too
All-other :
    (P : BallotLine → Type 0) (before behind : List BallotLine) (one other : BallotLine) → (P one → P other)
    → All P (before ++ one ∷ behind) → All P (before ++ other ∷ behind)
All-other P [] behind one other more all =
    All-cons P other behind (more (all 0 one (omega arith))) (All-tail P one behind all)
All-other P (line ∷ before) behind one other more all =
    All-cons P line (before ++ other ∷ behind) (all 0 one (omega arith))
    (All-other P before behind one other more (All-tail P line (before ++ one ∷ behind) all))

added_ballots :
    (count had : ℕ) (ranking : List ℕ) (before behind : List BallotLine)
    → IsPermutation (plain (before ++ record { count = had + count; ranking = ranking } ∷ behind))
    (plain (before ++ record { count = had; ranking = ranking } ∷ behind) ++ replicate count ranking)
added_ballots count had ranking before behind =
    let here = plain before in
    let rest = plain behind in
    let own = replicate had ranking in
    let came = replicate count ranking in
    let now :
    here ++ (own ++ (came ++ rest))
    ≡ plain (before ++ record { count = had + count; ranking = ranking } ∷ behind) =
    ap (λ (l : List (List ℕ)). here ++ l)
    (sym (append_assoc own came rest) ∙ ap (λ (l : List (List ℕ)). l ++ rest) (replicate-append-replicate had count ranking))
    ∙ sym (plain-append before (record { count = had + count; ranking = ranking } ∷ behind)) in
    let was :
    here ++ (own ++ (rest ++ came)) ≡ plain (before ++ record { count = had; ranking = ranking } ∷ behind) ++ came =
    ap (λ (l : List (List ℕ)). here ++ l) (sym (append_assoc own rest came))
    ∙ (sym (append_assoc here (own ++ rest) came)
    ∙ ap (λ (l : List (List ℕ)). l ++ came)
    (sym (plain-append before (record { count = had; ranking = ranking } ∷ behind)))) in
    subst (λ (l : List (List ℕ)). IsPermutation l
    (plain (before ++ record { count = had; ranking = ranking } ∷ behind) ++ came)) now
    (subst (IsPermutation (here ++ (own ++ (came ++ rest)))) was
    (IsPermutation-append_right here (own ++ (came ++ rest)) (own ++ (rest ++ came))
    (IsPermutation-append_right own (came ++ rest) (rest ++ came) (IsPermutation-append_comm came rest))))

module _ (count : ℕ) (ranking : List ℕ) (old new : List BallotLine) (takes : TakesIn count ranking old new) where
  pub taken_ballots : IsPermutation (plain new) (plain old ++ replicate count ranking)
  taken_ballots =
      elim takes [
        | inl adds ↦
            subst (λ (l : List BallotLine). IsPermutation (plain l) (plain old ++ replicate count ranking)) (sym adds.now)
            (subst (λ (l : List BallotLine). IsPermutation
            (plain (adds.before ++ record { count = adds.had + count; ranking = ranking } ∷ adds.behind))
            (plain l ++ replicate count ranking)) (sym adds.was)
            (added_ballots count adds.had ranking adds.before adds.behind))
        | inr own ↦
            subst (λ (l : List BallotLine). IsPermutation (plain l) (plain old ++ replicate count ranking)) (sym own)
            (same_push old (record { count = count; ranking = ranking }))
      ]

  pub taken_count : ballot_count new ≡ ballot_count old + count
  taken_count =
      omega (
        arith,
        length_permutation (plain new) (plain old ++ replicate count ranking) taken_ballots,
        length-append (plain old) (replicate count ranking),
        length-replicate count ranking,
        length-plain new,
        length-plain old,
      )

  pub taken_sound :
      (n : ℕ) → IsSound n old → IsRanking n ranking → 1 ≤ count → ballot_count old + count ≤ 999999999
      → IsSound n new
  taken_sound n sound ranks some few =
      let line : BallotLine = record { count = count; ranking = ranking } in
      record {
        rankings =
            elim takes [
              | inl adds ↦
                  subst (All (λ (l : BallotLine). IsRanking n l.ranking)) (sym adds.now)
                  (All-other (λ (l : BallotLine). IsRanking n l.ranking) adds.before adds.behind
                  (record { count = adds.had; ranking = ranking }) (record { count = adds.had + count; ranking = ranking })
                  (λ is. is) (subst (All (λ (l : BallotLine). IsRanking n l.ranking)) adds.was sound.rankings))
              | inr own ↦
                  subst (All (λ (l : BallotLine). IsRanking n l.ranking)) (sym own)
                  (All-push (λ (l : BallotLine). IsRanking n l.ranking) old line sound.rankings ranks)
            ];
        counted =
            elim takes [
              | inl adds ↦
                  subst (All (λ (l : BallotLine). 1 ≤ l.count)) (sym adds.now)
                  (All-other (λ (l : BallotLine). 1 ≤ l.count) adds.before adds.behind
                  (record { count = adds.had; ranking = ranking }) (record { count = adds.had + count; ranking = ranking })
                  (λ is. omega (arith, is)) (subst (All (λ (l : BallotLine). 1 ≤ l.count)) adds.was sound.counted))
              | inr own ↦
                  subst (All (λ (l : BallotLine). 1 ≤ l.count)) (sym own)
                  (All-push (λ (l : BallotLine). 1 ≤ l.count) old line sound.counted some)
            ];
        bounded = omega (arith, taken_count, few);
      }

-- whoever has the same ballots has the same ones more
pub same_more :
    (old new lines : List BallotLine) (line : BallotLine)
    → IsPermutation (plain new) (plain old ++ replicate line.count line.ranking) → IsPermutation (plain old) (plain lines)
    → IsPermutation (plain new) (plain (lines ++ line ∷ []))
same_more old new lines line taken same =
    let came = replicate line.count line.ranking in
    subst (IsPermutation (plain new)) (sym (plain-push lines line))
    (IsPermutation-trans (plain new) (plain old ++ came) (plain lines ++ came) taken
    (IsPermutation-append_left came (plain old) (plain lines) same))

-- ---- lines packed one by one

-- lines that are packed and those that are left have all ballots
module _ (all packed left : List BallotLine) (line : BallotLine)
    (same : IsPermutation (plain packed ++ plain (left ++ line ∷ [])) (plain all)) where
  pub room_for : ballot_count packed + line.count ≤ ballot_count all
  room_for =
      omega (
        arith,
        length_permutation (plain packed ++ plain (left ++ line ∷ [])) (plain all) same,
        length-append (plain packed) (plain (left ++ line ∷ [])),
        length-plain packed,
        length-plain (left ++ line ∷ []),
        length-plain all,
        sum_by_push (λ (l : BallotLine). l.count) left line,
      )

  -- and so they have with one line packed more
  pub one_packed :
      (now : List BallotLine) → IsPermutation (plain now) (plain packed ++ replicate line.count line.ranking)
      → IsPermutation (plain now ++ plain left) (plain all)
  one_packed now taken =
      let own = replicate line.count line.ranking in
      let was : IsPermutation (plain packed ++ (plain left ++ own)) (plain all) =
      subst (λ (l : List (List ℕ)). IsPermutation (plain packed ++ l) (plain all)) (plain-push left line) same in
      IsPermutation-trans (plain now ++ plain left) ((plain packed ++ own) ++ plain left) (plain all)
      (IsPermutation-append_left (plain left) (plain now) (plain packed ++ own) taken)
      (subst (λ (l : List (List ℕ)). IsPermutation l (plain all)) (sym (append_assoc (plain packed) own (plain left)))
      (IsPermutation-trans (plain packed ++ (own ++ plain left)) (plain packed ++ (plain left ++ own)) (plain all)
      (IsPermutation-append_right (plain packed) (own ++ plain left) (plain left ++ own)
      (IsPermutation-append_comm own (plain left))) was))
