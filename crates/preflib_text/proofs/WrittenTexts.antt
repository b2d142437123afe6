-- Texts whose orders are written from ballots say just these.
use Rattle.std.proofs.Common.{◌≡◌, ℕ, ◌+◌, ◌≤◌, cond, List, [], ◌∷◌, length, map}
use Rattle.std.proofs.Common.{Option, Some, None, All}
use Rattle.std.proofs.Common.{refl, ap, sym, ◌∙◌, subst, arith}
use Rattle.std.specs.List.{slice_get, sum_by}
use Rattle.std.specs.Option.{option_and_then}
use Rattle.std.proofs.lemmas.Bool.{eq-eqb}
use Rattle.std.proofs.lemmas.List.Elements.{All-map}
use Rattle.std.proofs.lemmas.List.Sums.{sum_by-cons}
use Rattle.plain_ballots.specs.Ballots.{IsSound, ballot_count, plain}
use Rattle.plain_ballots.specs.Ranking.{IsRanking}
use Rattle.plain_ballots.specs.declared.ballot_line.BallotLine.{BallotLine}
use Rattle.plain_ballots.specs.declared.limits.TheConstants.{MOST_BALLOTS, MOST_CANDIDATES}
use Rattle.ballot_marks.specs.Laws.{PlainMarksAreRanked}
use Rattle.preflib_text.specs.declared.pref_kind.PrefKind.TheVariants.{WrongTotal}
use Rattle.preflib_text.specs.Ballots.{end_line, entries, metadata, order_lines, with_room}
use Rattle.preflib_text.specs.Faults.{Line, in_line}
use Rattle.preflib_text.specs.Head.{voters}
use Rattle.preflib_text.specs.Items.{count_of}
use Rattle.preflib_text.specs.Laws.{SaysBallots}
use Rattle.preflib_text.specs.Lines.{form_fault}
use Rattle.preflib_text.specs.Refusals.{parts_fault, voters_fault}
use Rattle.preflib_text.specs.Written.{OrdersSayBallots, OrdersSayRankings, RanksSomebody, once}
use Rattle.preflib_text.proofs.FewLemmas.{few_candidates}
use Rattle.preflib_text.proofs.Options.{IsNothing, none_or}
use Rattle.preflib_text.proofs.WrittenOrders.{IsOrder, ballots_are, first_sound, lines_sound, total_is}

-- a number of voters that is given is that of the ballots
no_other_total : (given : Option ℕ) (total n : ℕ) (line : Line) → total ≡ n → ((said : ℕ) → given ≡ Some said → said ≡ n)
    → voters_fault given total line ≡ None
no_other_total None total n line is same = refl
no_other_total (Some said) total n line is same =
    ap (λ t. cond t None (Some (in_line line WrongTotal 0))) (eq-eqb said total (same said refl ∙ sym is))

pub all_orders : (n : ℕ) (orders : List BallotLine) → IsSound n orders → All RanksSomebody orders → All (IsOrder n) orders
all_orders n orders sound somebody =
    λ k d below. record {
      ranking = sound.rankings k d below;
      counted = sound.counted k d below;
      somebody = somebody k d below;
    }

pub orders_say_ballots : PlainMarksAreRanked → OrdersSayBallots
orders_say_ballots plain_ranked asked bytes n orders has voters_are written sound somebody =
    let lines = order_lines bytes in
    let few : n ≤ MOST_CANDIDATES =
    subst (λ k. k ≤ MOST_CANDIDATES) has.candidates_are (few_candidates asked (metadata bytes) has.sound) in
    let all = all_orders n orders sound somebody in
    let none : sum_by count_of [] + ballot_count orders ≤ MOST_BALLOTS = omega (arith, sound.bounded) in
    record {
      metadata_sound = has.sound;
      whole_sound = none_or (option_and_then form_fault (slice_get lines 0)) _
          (first_sound n few lines orders written all sound.bounded) has.whole_sound;
      orders_sound = subst (λ k. All IsNothing (map (λ line. parts_fault line.0 k line.1) (with_room lines)))
          (sym has.candidates_are) (lines_sound n few lines orders [] lines refl written all none);
      total_sound = no_other_total (voters (entries bytes)) _ (ballot_count orders) (end_line bytes)
          (total_is n few lines orders written all sound.bounded) voters_are;
      ranked = ballots_are n few plain_ranked asked.equal lines orders written all sound.bounded;
    }

-- ---- one ballot each

once_counted : (rankings : List (List ℕ)) → ballot_count (map once rankings) ≡ length rankings
once_counted [] = refl
once_counted (ranks ∷ rankings) =
    let more = once_counted rankings in
    sum_by-cons (λ (line : BallotLine). line.count) (once ranks) (map once rankings) ∙ omega (arith, more)

once_plain : (rankings : List (List ℕ)) → plain (map once rankings) ≡ rankings
once_plain [] = refl
once_plain (ranks ∷ rankings) = ap (λ rest. ranks ∷ rest) (once_plain rankings)

pub orders_say_rankings : PlainMarksAreRanked → OrdersSayRankings
orders_say_rankings plain_ranked asked bytes n rankings has voters_are written all somebody few =
    let orders = map once rankings in
    let counted = once_counted rankings in
    subst (SaysBallots asked bytes) (once_plain rankings)
    (orders_say_ballots plain_ranked asked bytes n orders has (λ said is. voters_are said is ∙ sym counted) written
    (record {
      rankings = All-map (λ (line : BallotLine). IsRanking n line.ranking) once rankings all;
      counted = All-map (λ (line : BallotLine). 1 ≤ line.count) once rankings (λ k d below. omega arith);
      bounded = omega (arith, counted, few);
    })
    (All-map RanksSomebody once rankings somebody))
