use Rattle.ballot_findings.proofs.CountLaws as counts
use Rattle.ballot_findings.proofs.Firsts as firsts
use Rattle.ballot_findings.proofs.NameLaws as names
use Rattle.ballot_findings.proofs.PlaceLaws as places
use Rattle.ballot_findings.proofs.laws.looks_are_owed.Goals as goal

pub returns-clause-one_name : goal.returns-clause-one_name
returns-clause-one_name c = names.one_name

pub returns-clause-like_names : goal.returns-clause-like_names
returns-clause-like_names c = names.like_names

pub returns-clause-odd_names : goal.returns-clause-odd_names
returns-clause-odd_names c = names.odd_names

pub returns-clause-odd_titles : goal.returns-clause-odd_titles
returns-clause-odd_titles c = names.odd_titles

pub returns-clause-seats : goal.returns-clause-seats
returns-clause-seats c = counts.seats

pub returns-clause-unranked : goal.returns-clause-unranked
returns-clause-unranked c = counts.unranked

pub returns-clause-withdrawn : goal.returns-clause-withdrawn
returns-clause-withdrawn c = counts.withdrawn

pub returns-clause-breaks : goal.returns-clause-breaks
returns-clause-breaks c = places.breaks

pub returns-clause-further : goal.returns-clause-further
returns-clause-further c = places.further

pub returns-clause-apart : goal.returns-clause-apart
returns-clause-apart c = places.apart

pub returns-clause-far : goal.returns-clause-far
returns-clause-far c = places.far

pub returns-clause-returns : goal.returns-clause-returns
returns-clause-returns c = places.returns

pub returns-clause-firsts : goal.returns-clause-firsts
returns-clause-firsts c = firsts.firsts
