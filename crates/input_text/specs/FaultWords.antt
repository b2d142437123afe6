-- The words of the kinds of refusals.
use Rattle.std.specs.Prelude.{ℕ, List, codes}
use Rattle.input_text.specs.declared.fault_kind.FaultKind.{FaultKind}
use Rattle.input_text.specs.declared.fault_kind.FaultKind.TheVariants.{BadByte, BadNumber, BadHeader, BadWithdrawn, NoSuchCandidate, Repeated, TooManyBallots, NameExpected, TooLongName, Ended, Trailing, BallotsInRoll, BadLots, WordExpected, BadTeam, BadBatch, BadRevision, BatchTooLarge, TooManyFreezes, TooLong, BadPlaces, BadOmega}

-- a kind as the line of a refusal names it
abbrev pub kind_word : FaultKind → List ℕ
kind_word BadByte = codes "BadByte"
kind_word BadNumber = codes "BadNumber"
kind_word BadHeader = codes "BadHeader"
kind_word BadWithdrawn = codes "BadWithdrawn"
kind_word NoSuchCandidate = codes "NoSuchCandidate"
kind_word Repeated = codes "Repeated"
kind_word TooManyBallots = codes "TooManyBallots"
kind_word NameExpected = codes "NameExpected"
kind_word TooLongName = codes "TooLongName"
kind_word Ended = codes "Ended"
kind_word Trailing = codes "Trailing"
kind_word BallotsInRoll = codes "BallotsInRoll"
kind_word BadLots = codes "BadLots"
kind_word WordExpected = codes "WordExpected"
kind_word BadTeam = codes "BadTeam"
kind_word BadBatch = codes "BadBatch"
kind_word BadRevision = codes "BadRevision"
kind_word BatchTooLarge = codes "BatchTooLarge"
kind_word TooManyFreezes = codes "TooManyFreezes"
kind_word TooLong = codes "TooLong"
kind_word BadPlaces = codes "BadPlaces"
kind_word BadOmega = codes "BadOmega"
