-- Laws at their limits, in figures.
use Rattle.std.proofs.Common.{◌≡◌, ◌↔◌, ℕ, ◌+◌, ◌*◌, ◌<◌, ◌≤◌, List, length, min, ◌∙◌, subst, arith}
use Rattle.fixed_place.specs.Rounding.{scale}
use Rattle.meek_rule.specs.Rule.{Rule, Meek, Warren}
use Rattle.meek_rule.specs.Row.{Row}
use Rattle.meek_count.specs.Rows.{IsCountUnder}
use Rattle.rule_laws.specs.Coalition.{CoalitionsAreSeated, ShareGetsASeat, SharesAreSeated, SolidMajorityWins, whole_quota}
use Rattle.rule_laws.specs.InFigures.{FiveOfTwelve, FourBeforeThree, FourOfTen, FourOfTenHeard, FourteenOf27, NineOf26, OneIsLeft}
use Rattle.rule_laws.specs.InFigures.{OrderlyFiveOfTwelve, QuietThreeOf49, RisesToSix, SolidFourteenOf27, ThreeOf14, TwoOfThree, TwoSeatsAlike}
use Rattle.rule_laws.specs.KeepRises.{KeepValuesRiseByAUnit}
use Rattle.rule_laws.specs.Majority.{FirstShareWins, MajorityWins, first_count}
use Rattle.rule_laws.specs.OneSeat.{FewSeatsRulesAgree}
use Rattle.rule_laws.specs.Orderly.{OrderlyCountsAreProportional, QuietCountsAreProportional}
use Rattle.rule_laws.specs.Plurality.{PluralityHolds, mention_count}
use Rattle.rule_laws.specs.Seats.{SeatsAreFilled, running_count}
use Rattle.rule_laws.specs.Silent.{HeardCoalitionsAreSeated, heard_count}

-- ---- seats

pub two_of_three : SeatsAreFilled → TwoOfThree
two_of_three law voters c out =
    law c.rule 9 c.omega c.ballots c.roll c.lots c.rows c.last c.election c.count
    ∙ (λ i. min (c.to_seats i) (running_count (out i)))

pub one_is_left : SeatsAreFilled → OneIsLeft
one_is_left law voters c out =
    law c.rule 9 c.omega c.ballots c.roll c.lots c.rows c.last c.election c.count
    ∙ (λ i. min (c.to_seats i) (running_count (out i)))

pub two_seats_alike : FewSeatsRulesAgree → TwoSeatsAlike
two_seats_alike law voters c rule = by c.rule rule c.count
  where
    same : IsCountUnder Meek 9 c.omega c.ballots c.roll c.lots c.rows c.last
        ↔ IsCountUnder Warren 9 c.omega c.ballots c.roll c.lots c.rows c.last
    same = law 9 c.omega c.ballots c.roll c.lots c.rows c.last c.election (omega (arith, c.to_seats))

    by :
        (one other : Rule) → IsCountUnder one 9 c.omega c.ballots c.roll c.lots c.rows c.last
        → IsCountUnder other 9 c.omega c.ballots c.roll c.lots c.rows c.last
    by Meek Meek count = count
    by Meek Warren count = same.0 count
    by Warren Meek count = same.1 count
    by Warren Warren count = count

-- ---- first preferences

pub nine_of_26 : FirstShareWins → NineOf26
nine_of_26 law c who nine =
    law c.rule 9 c.omega c.ballots c.roll c.lots c.rows c.last who c.election
    (more (length c.ballots) (first_count c.roll.withdrawn c.ballots who) c.roll.seats c.of_voters nine c.to_seats) c.count
  where
    more : (b f s : ℕ) → b ≡ 26 → f ≡ 9 → s ≡ 2 → b < f * (s + 1)
    more b f s b_is f_is s_is = rw (b_is, f_is, s_is) (omega arith)

pub fourteen_of_27 : MajorityWins → FourteenOf27
fourteen_of_27 law c who half =
    law c.rule 9 c.omega c.ballots c.roll c.lots c.rows c.last who c.election c.to_seats
    (omega (arith, c.of_voters, half)) c.count

pub four_before_three : PluralityHolds → FourBeforeThree
four_before_three law seats voters c who other little some three four =
    law c.rule 9 c.omega c.ballots c.roll c.lots c.rows c.last who other 999999999 c.election c.count little some
    (more (mention_count c.ballots other) (first_count c.roll.withdrawn c.ballots who) three four)
  where
    more : (m f : ℕ) → m ≡ 3 → f ≡ 4 → m * scale 9 + 999999999 < f * scale 9
    more m f m_is f_is = rw (m_is, f_is) (omega arith)

-- ---- solid ballots

pub solid_fourteen_of_27 : SolidMajorityWins → SolidFourteenOf27
solid_fourteen_of_27 law w =
    let c = w.counted in
    law c.rule 9 c.omega c.ballots w.coalition w.others c.roll c.lots c.rows c.last w.members c.election w.parts c.count
    c.to_seats w.are_solid w.running (omega (arith, c.of_voters, w.so_many))

-- a quota of ten ballots, and what may be left over besides
four_votes : (b h s : ℕ) → b ≡ 10 → h ≡ 4 → s ≡ 2 → 1 * whole_quota (scale 9) s b + 666666666 ≤ h * scale 9
four_votes b h s b_is h_is s_is = rw (b_is, h_is, s_is) (omega arith)

pub four_of_ten : CoalitionsAreSeated → FourOfTen
four_of_ten law w left =
    let c = w.counted in
    law c.rule 9 c.omega c.ballots w.coalition w.others c.roll c.lots c.rows c.last w.members 1 666666666 c.election w.parts
    c.count w.are_solid w.running left
    (four_votes (length c.ballots) (length w.coalition) c.roll.seats c.of_voters w.so_many c.to_seats)

pub four_of_ten_heard : HeardCoalitionsAreSeated → FourOfTenHeard
four_of_ten_heard law w ten left =
    let c = w.counted in
    law c.rule 9 c.omega c.ballots w.coalition w.others c.roll c.lots c.rows c.last w.members 1 666666666 c.election w.parts
    c.count w.are_solid w.running left
    (four_votes (heard_count c.roll.withdrawn c.ballots) (length w.coalition) c.roll.seats ten w.so_many c.to_seats)

-- two shares of twelve ballots are fewer than five
two_fifths : (b h s : ℕ) → b ≡ 12 → h ≡ 5 → s ≡ 4 → 2 * b < h * (s + 1)
two_fifths b h s b_is h_is s_is = rw (b_is, h_is, s_is) (omega arith)

-- what is left over is a share of a vote, less two units
within_a_fifth : (s : ℕ) → s ≡ 4 → (2 + 199999998) * (s + 1) ≤ scale 9
within_a_fifth s is = rw is (omega arith)

pub five_of_twelve : SharesAreSeated → FiveOfTwelve
five_of_twelve law w left =
    let c = w.counted in
    law c.rule 9 c.omega c.ballots w.coalition w.others c.roll c.lots c.rows c.last w.members 2 199999998 c.election w.parts
    c.count w.are_solid w.running left (within_a_fifth c.roll.seats c.to_seats)
    (two_fifths (length c.ballots) (length w.coalition) c.roll.seats c.of_voters w.so_many c.to_seats)

pub orderly_five_of_twelve : OrderlyCountsAreProportional → OrderlyFiveOfTwelve
orderly_five_of_twelve law w orderly =
    let c = w.counted in
    law c.rule 9 c.omega c.ballots w.coalition w.others c.roll c.lots c.rows c.last w.members 2 150000000 49999998 c.election
    w.parts c.count w.are_solid w.running orderly (within_a_fifth c.roll.seats c.to_seats)
    (two_fifths (length c.ballots) (length w.coalition) c.roll.seats c.of_voters w.so_many c.to_seats)

pub quiet_three_of_49 : QuietCountsAreProportional → QuietThreeOf49
quiet_three_of_49 law w orderly =
    let c = w.counted in
    law c.rule 9 c.omega c.ballots w.coalition w.others c.roll c.lots c.rows c.last w.members 3 c.election w.parts c.count
    (omega (arith, c.to_seats)) w.are_solid w.running orderly
    (more (length c.ballots) (length w.coalition) c.roll.seats c.of_voters w.so_many c.to_seats)
  where
    more : (b h s : ℕ) → b ≡ 1633 → h ≡ 98 → s ≡ 49 → 3 * b < h * (s + 1)
    more b h s b_is h_is s_is = rw (b_is, h_is, s_is) (omega arith)

pub three_of_14 : ShareGetsASeat → ThreeOf14
three_of_14 law w lack =
    let c = w.counted in
    law c.rule 9 c.omega c.ballots w.coalition w.others c.roll c.lots c.rows c.last w.members 199999999 c.election w.parts
    c.count w.are_solid w.running lack (within c.roll.seats c.to_seats)
    (more (length c.ballots) (length w.coalition) c.roll.seats c.of_voters w.so_many c.to_seats)
  where
    within : (s : ℕ) → s ≡ 4 → (1 + 199999999) * (s + 1) ≤ scale 9
    within s is = rw is (omega arith)

    more : (b h s : ℕ) → b ≡ 14 → h ≡ 3 → s ≡ 4 → b < h * (s + 1)
    more b h s b_is h_is s_is = rw (b_is, h_is, s_is) (omega arith)

-- ---- rows

pub rises_to_six : KeepValuesRiseByAUnit → RisesToSix
rises_to_six law seats voters c earlier row next later p rows quota vote keep =
    omega (
      arith,
      keep,
      law c.rule 9 c.omega c.ballots c.roll c.lots earlier row next later c.last p c.election
          (subst (λ (rows : List Row). IsCountUnder c.rule 9 c.omega c.ballots c.roll c.lots rows c.last) rows c.count)
          (omega (arith, quota, vote)) (omega (arith, vote)),
    )
