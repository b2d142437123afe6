-- What the tables of ballots accept so far is a front part of ballots.
use Rattle.std.proofs.Common.{◌≡◌, ℕ, ◌+◌, ◌≤◌, ◌≢◌, List, [], ◌∷◌, ◌++◌, map, false, refl, sym, ◌∙◌, ap}
use Rattle.std.proofs.Common.{subst, arith, inl, inr, append_assoc, get_or, nat_le, ◌==◌, Ok, Err}
use Rattle.std.specs.List.{flat_map, list_any}
use Rattle.std.proofs.lemmas.Bool.{true≢false, leb-true, eqb-true, eq-eqb}
use Rattle.std.proofs.lemmas.List.{append-nil, map-append}
use Rattle.std.proofs.lemmas.List.Elements.{All-nil, All-push}
use Rattle.std.proofs.lemmas.List.Folds.{list_any_at}
use Rattle.std.proofs.lemmas.List.Quantifiers.{all_pairs_push}
use Rattle.std.proofs.lemmas.List.Sums.{sum_by_push}
use Rattle.std.proofs.lemmas.Grind.{flat_map-append}
use Rattle.plain_ballots.specs.Ballots.{ballot_count}
use Rattle.plain_ballots.specs.Ranking.{IsRanking}
use Rattle.plain_ballots.specs.declared.ballot_line.BallotLine.{BallotLine}
use Rattle.input_text.specs.Token.{Item, Number}
use Rattle.blt_reader.specs.Blt.{AreLines, ballot}
use Rattle.input_text.specs.Judged.{Judged, Progress, GoesOn, Ends, carried}
use Rattle.blt_reader.specs.BallotTable.{at_number, at_rank, Limit, Lines, Between, Within, at_count, with_line, at_line}
use Rattle.blt_reader.specs.Front.{begun, IsOpenLine, AreBegun, IsLineFront}
use Rattle.input_text.proofs.Judgements.{refused, same_value, passed, went, not_zero}

pub no_ranks : (candidates : ℕ) → IsRanking candidates []
no_ranks candidates =
    record {
      numbers = All-nil (λ r. (1 ≤ r) × (r ≤ candidates));
      different = λ i j d before within. absurd (omega arith);
    }

-- a candidate after others from which it differs
pub one_rank_more :
    (candidates : ℕ) (ranks : List ℕ) (n : ℕ) → IsRanking candidates ranks → 1 ≤ n → n ≤ candidates
    → list_any (λ r. r == n) ranks ≡ false → IsRanking candidates (ranks ++ n ∷ [])
one_rank_more candidates ranks n is some within new = record {
  numbers = All-push (λ r. (1 ≤ r) × (r ≤ candidates)) ranks n is.numbers (some, within);
  different = all_pairs_push (λ a b. a ≢ b) ranks n is.different (λ k d inside same.
      true≢false (sym (list_any_at (λ r. r == n) ranks k d inside (eq-eqb (get_or ranks k d) n same)) ∙ new));
}

-- ---- one ballot line

-- the items of a line's ranks so far
abbrev pub ranked : Progress (List ℕ) (List ℕ) → List Item
ranked (GoesOn ranks) = map Number ranks
ranked (Ends ranks) = map Number ranks ++ Number 0 ∷ []

abbrev pub ranks_of : Progress (List ℕ) (List ℕ) → List ℕ
ranks_of (GoesOn ranks) = ranks
ranks_of (Ends ranks) = ranks

module _ (candidates : ℕ) where
  abbrev pub IsRankFront : Progress (List ℕ) (List ℕ) → List Item → Type 0
  IsRankFront read items = IsRanking candidates (ranks_of read) × (ranked read ≡ items)

  number_goes_on :
      (ranks : List ℕ) (next : Progress (List ℕ) (List ℕ)) (n : ℕ) → IsRanking candidates ranks
      → at_number candidates ranks n ≡ Ok next → IsRankFront next (map Number ranks ++ Number n ∷ [])
  number_goes_on ranks next n is e = elim (went (n == 0) (Ok (Ends ranks)) _ (Ok next) e) [
    | inl hit ↦ subst (λ r. IsRankFront r (map Number ranks ++ Number n ∷ [])) (same_value hit.1)
        (is, ap (λ (k : ℕ). map Number ranks ++ Number k ∷ []) (sym (eqb-true n 0 hit.0)))
    | inr miss ↦ elim (went (nat_le n candidates) _ _ (Ok next) miss.1) [
      | inr above ↦ absurd (refused above.1)
      | inl within ↦ elim (went (list_any (λ r. r == n) ranks) _ _ (Ok next) within.1) [
        | inl again ↦ absurd (refused again.1)
        | inr new ↦ subst (λ r. IsRankFront r (map Number ranks ++ Number n ∷ [])) (same_value new.1) (
          one_rank_more candidates ranks n is (not_zero n miss.0) (leb-true n candidates within.0) new.0,
          map-append Number ranks (n ∷ []),
        )
      ]
    ]
  ]

  pub rank_goes_on :
      (ranks : List ℕ) (next : Progress (List ℕ) (List ℕ)) (x : Item) → IsRanking candidates ranks
      → at_rank candidates ranks x ≡ Ok next → IsRankFront next (map Number ranks ++ x ∷ [])
  rank_goes_on ranks next (Number n) is e = number_goes_on ranks next n is e
  rank_goes_on ranks next x is e = absurd (refused e)

-- ---- all ballot lines

pub no_lines : (candidates most : ℕ) → AreLines candidates most []
no_lines candidates most = record {
  rankings = All-nil (λ (line : BallotLine). IsRanking candidates line.ranking);
  counted = All-nil (λ (line : BallotLine). 1 ≤ line.count);
  bounded = omega arith;
}

pub one_line_more :
    (candidates most : ℕ) (lines : List BallotLine) (line : BallotLine) → AreLines candidates most lines
    → IsRanking candidates line.ranking → 1 ≤ line.count → ballot_count lines + line.count ≤ most
    → AreLines candidates most (lines ++ line ∷ [])
one_line_more candidates most lines line are ranking counted room = record {
  rankings = All-push (λ (l : BallotLine). IsRanking candidates l.ranking) lines line are.rankings ranking;
  counted = All-push (λ (l : BallotLine). 1 ≤ l.count) lines line are.counted counted;
  bounded = rw (sum_by_push (λ (l : BallotLine). l.count) lines line) room;
}

module _ (candidates : ℕ) (limit : Limit) where
  abbrev IsFront : Progress Lines (List BallotLine) → List Item → Type 0
  IsFront = IsLineFront candidates limit.most

  count_goes_on :
      (lines : List BallotLine) (next : Progress Lines (List BallotLine)) (n : ℕ) → AreLines candidates limit.most lines
      → at_count limit lines n ≡ Ok next → IsFront next (flat_map ballot lines ++ Number n ∷ [])
  count_goes_on lines next n are e = elim (went (n == 0) (Ok (Ends lines)) _ (Ok next) e) [
    | inl hit ↦ subst (λ l. IsFront l (flat_map ballot lines ++ Number n ∷ [])) (same_value hit.1)
        (are, ap (λ (k : ℕ). flat_map ballot lines ++ Number k ∷ []) (sym (eqb-true n 0 hit.0)))
    | inr miss ↦
        let room =
        passed (nat_le (ballot_count lines + n) limit.most) (GoesOn (Within lines n [])) next
        limit.refusal miss.1 in
        subst (λ l. IsFront l (flat_map ballot lines ++ Number n ∷ [])) room.1 (
          record {
            before = are;
            counted = not_zero n miss.0;
            room = leb-true (ballot_count lines + n) limit.most room.0;
            ranking = no_ranks candidates;
          },
          refl,
        )
  ]

  within_goes_on :
      (lines : List BallotLine) (count : ℕ) (ranks : List ℕ) (x : Item) (next : Progress Lines (List BallotLine))
      (judged : Judged (Progress (List ℕ) (List ℕ))) → IsOpenLine candidates limit.most lines count ranks
      → at_rank candidates ranks x ≡ judged → carried (λ more. Within lines count more)
      (λ all. Between (with_line lines count all)) judged ≡ Ok next
      → IsFront next ((flat_map ballot lines ++ (Number count ∷ map Number ranks)) ++ x ∷ [])
  within_goes_on lines count ranks x next (Ok (GoesOn more)) is judged e =
      let one = rank_goes_on candidates ranks (GoesOn more) x is.ranking judged in
      subst (λ l. IsFront l ((flat_map ballot lines ++ (Number count ∷ map Number ranks)) ++ x ∷ [])) (same_value e) (
        record { before = is.before; counted = is.counted; room = is.room; ranking = one.0 },
        ap (λ (l : List Item). flat_map ballot lines ++ (Number count ∷ l)) one.1
            ∙ sym (append_assoc (flat_map ballot lines) (Number count ∷ map Number ranks) (x ∷ [])),
      )
  within_goes_on lines count ranks x next (Ok (Ends done)) is judged e =
      let one = rank_goes_on candidates ranks (Ends done) x is.ranking judged in
      let line : BallotLine = record { count = count; ranking = done } in
      subst (λ l. IsFront l ((flat_map ballot lines ++ (Number count ∷ map Number ranks)) ++ x ∷ [])) (same_value e) (
        one_line_more candidates limit.most lines line is.before one.0 is.counted is.room,
        flat_map-append ballot lines (line ∷ []) ∙ ap (λ (l : List Item). flat_map ballot lines ++ l)
            (append-nil (ballot line) ∙ ap (λ (l : List Item). Number count ∷ l) one.1)
            ∙ sym (append_assoc (flat_map ballot lines) (Number count ∷ map Number ranks) (x ∷ [])),
      )
  within_goes_on lines count ranks x next (Err kind) is judged e = absurd (refused e)

  pub line_goes_on :
      (lines : Lines) (next : Progress Lines (List BallotLine)) (x : Item) → AreBegun candidates limit.most lines
      → at_line candidates limit lines x ≡ Ok next → IsFront next (begun lines ++ x ∷ [])
  line_goes_on (Between lines) next (Number n) are e = count_goes_on lines next n are e
  line_goes_on (Between lines) next x are e = absurd (refused e)
  line_goes_on (Within lines count ranks) next x is e =
      within_goes_on lines count ranks x next (at_rank candidates ranks x) is refl e
