use Rattle.input_text.proofs.Spelling.{numbers, number_spelled, words, strings, parts, nothing, whole}
use Rattle.input_text.proofs.laws.written_items_are_read.Goals as goal

pub returns-clause-numbers : goal.returns-clause-numbers
returns-clause-numbers c = numbers

pub returns-clause-digits : goal.returns-clause-digits
returns-clause-digits c = number_spelled

pub returns-clause-words : goal.returns-clause-words
returns-clause-words c = words

pub returns-clause-strings : goal.returns-clause-strings
returns-clause-strings c = strings

pub returns-clause-parts : goal.returns-clause-parts
returns-clause-parts c = parts

pub returns-clause-nothing : goal.returns-clause-nothing
returns-clause-nothing c = nothing

pub returns-clause-whole : goal.returns-clause-whole
returns-clause-whole c = whole
