use Rattle.ballot_findings.proofs.TokenLaws as tokens
use Rattle.ballot_findings.proofs.laws.tokens_are_theirs.Goals as goal

pub returns-clause-seats : goal.returns-clause-seats
returns-clause-seats c = tokens.seats

pub returns-clause-names : goal.returns-clause-names
returns-clause-names c = tokens.names

pub returns-clause-ranks : goal.returns-clause-ranks
returns-clause-ranks c = tokens.ranks
