use Rattle.std.proofs.Common.{◌≡◌, ◌≢◌, ℕ, zero, suc, ◌<◌, ◌≤◌, List, [], ◌∷◌, ◌++◌, map, get_or, Some, All}
use Rattle.std.proofs.Common.{refl, sym, subst, arith, lit≤}
use Rattle.std.specs.Fmt.{digits}
use Rattle.std.specs.List.{AllPairs}
use Rattle.std.specs.Prelude.{codes}
use Rattle.std.proofs.lemmas.List.Elements.{All-cons, All-nil}
use Rattle.std.proofs.lemmas.List.Quantifiers.{all_pairs_push}
use Rattle.plain_ballots.specs.Ballots.{IsSound}
use Rattle.plain_ballots.specs.Ranking.{IsRanking}
use Rattle.plain_ballots.specs.declared.ballot_line.BallotLine.{BallotLine}
use Rattle.preflib_text.specs.Ballots.{metadata}
use Rattle.preflib_text.specs.Laws.{SaysBallots}
use Rattle.preflib_text.specs.Refusals.{metadata_faults}
use Rattle.preflib_text.specs.Worked.{plainly}
use Rattle.preflib_text.specs.WorkedWritten.{two, two_rankings}
use Rattle.preflib_text.specs.Written.{HasVoters, IsHead, RanksSomebody, WrittenOrdersSayBallots, once}
use Rattle.preflib_text.specs.Written.{order_line, order_text}
use Rattle.preflib_text.proofs.Options.{first_none}
use Rattle.preflib_text.proofs.worked.worked_rankings.Goals as goal

head_is : IsHead plainly two 2
head_is = record {
  sound =
      record {
        sound = first_none (metadata_faults plainly (metadata two)) refl;
        whole_sound = refl;
        candidates_are = refl;
      };
  no_orders = refl;
  ended = refl;
}

voters_are : HasVoters two 2
voters_are said is =
    let given : Some 2 ≡ Some said = is in
    sym (cc given)

one_alone : (c : ℕ) → AllPairs (λ (a b : ℕ). a ≢ b) (c ∷ [])
one_alone c = λ i j d low below. absurd (omega arith)

no_other : (k d : ℕ) → k < 1 → get_or (1 ∷ []) k d ≢ 2
no_other zero d below = λ same. absurd (omega (arith, same))
no_other (suc k) d below = absurd (omega arith)

abbrev IsOneOf : ℕ → Type 0
IsOneOf c = (1 ≤ c) × (c ≤ 2)

second_alone : All IsOneOf (2 ∷ [])
second_alone = All-cons IsOneOf 2 [] (omega arith, omega arith) (All-nil IsOneOf)

both_ranked : IsRanking 2 (1 ∷ 2 ∷ [])
both_ranked = record {
  numbers = All-cons IsOneOf 1 (2 ∷ []) (omega arith, omega arith) second_alone;
  different = all_pairs_push (λ (a b : ℕ). a ≢ b) (1 ∷ []) 2 (one_alone 1) no_other;
}

abbrev orders : List BallotLine
orders = map once two_rankings

-- what holds of both orders
of_both : (P : BallotLine → Type 0) → P (once (1 ∷ 2 ∷ [])) → P (once (2 ∷ [])) → All P orders
of_both P first second =
    All-cons P (once (1 ∷ 2 ∷ [])) (once (2 ∷ []) ∷ []) first
    (All-cons P (once (2 ∷ [])) [] second (All-nil P))

sound : IsSound 2 orders
sound = record {
  rankings = of_both (λ (line : BallotLine). IsRanking 2 line.ranking) both_ranked
      (record { numbers = second_alone; different = one_alone 2 });
  counted = of_both (λ (line : BallotLine). 1 ≤ line.count) (omega arith) (omega arith);
  bounded = lit≤ tt;
}

somebody : All RanksSomebody orders
somebody = of_both RanksSomebody (omega arith) (omega arith)

lines_are : order_text orders ≡ codes "1: 1,2\n1: 2\n"
unfolding digits
lines_are = refl

line_is : order_line (record { count = 12; ranking = 10 ∷ 3 ∷ [] }) ≡ codes "12: 10,3"
unfolding digits
line_is = refl

said : WrittenOrdersSayBallots → SaysBallots plainly (two ++ codes "1: 1,2\n1: 2\n") two_rankings
said law =
    subst (λ (lines : List ℕ). SaysBallots plainly (two ++ lines) two_rankings) lines_are
    (law plainly two 2 orders head_is voters_are sound somebody)

pub returns : goal.returns
returns c = record {
  line = line_is;
  lines = lines_are;
  head = head_is;
  voters = voters_are;
  sound = sound;
  somebody = somebody;
  says = said c.orders_say_rankings.ensures.texts;
}
