-- The pairs of worked counts, by computing.
use Rattle.std.proofs.Common.{refl}
use Rattle.rule_laws.proofs.WorkedRows.{always_counted}
use Rattle.rule_laws.specs.Paradoxes.{by_two_rounds, from_second, CidIsElectedFromSecond, from_first, CidIsDefeatedFromFirst}
use Rattle.rule_laws.specs.Paradoxes.{by_nine, AnnIsElectedByNine, by_eleven, CidIsElectedByEleven}
use Rattle.rule_laws.specs.Paradoxes.{to_one_seat, CidHasTheOneSeat, to_two_seats, CidHasNoneOfTwoSeats}
use Rattle.rule_laws.specs.Paradoxes.{without_dee, AnnIsElectedWithoutDee, with_dee, BenIsElectedWithDee}

pub CidIsElectedFromSecond-holds : CidIsElectedFromSecond
CidIsElectedFromSecond-holds = always_counted (by_two_rounds from_second) (λ lots. refl) refl refl refl

pub CidIsDefeatedFromFirst-holds : CidIsDefeatedFromFirst
CidIsDefeatedFromFirst-holds = always_counted (by_two_rounds from_first) (λ lots. refl) refl refl refl

pub AnnIsElectedByNine-holds : AnnIsElectedByNine
AnnIsElectedByNine-holds = always_counted (by_two_rounds by_nine) (λ lots. refl) refl refl refl

pub CidIsElectedByEleven-holds : CidIsElectedByEleven
CidIsElectedByEleven-holds = always_counted (by_two_rounds by_eleven) (λ lots. refl) refl refl refl

pub CidHasTheOneSeat-holds : CidHasTheOneSeat
CidHasTheOneSeat-holds = always_counted (by_two_rounds to_one_seat) (λ lots. refl) refl refl refl

pub CidHasNoneOfTwoSeats-holds : CidHasNoneOfTwoSeats
CidHasNoneOfTwoSeats-holds = always_counted to_two_seats (λ lots. refl) refl refl refl

pub AnnIsElectedWithoutDee-holds : AnnIsElectedWithoutDee
AnnIsElectedWithoutDee-holds = always_counted without_dee (λ lots. refl) refl refl refl

pub BenIsElectedWithDee-holds : BenIsElectedWithDee
BenIsElectedWithDee-holds = always_counted with_dee (λ lots. refl) refl refl refl
