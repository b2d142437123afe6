pub mod Pens
pub mod Printing
mod Telling
pub mod Rooms
mod Marks
mod Peaks
mod Sums
mod Parts
mod RoundPlaces
mod RisingRounds
pub mod Tested
pub mod Nesting
pub mod Owing
mod CsvLemmas
mod JsonReads
mod JsonTwins
pub mod JsonParts
pub mod CandidateJson
pub mod SheetJson
mod JsonFronts
mod JsonOneThing
mod AmountTexts
mod FieldWords
mod RecordRuns
mod RowFields
mod RowsAt
mod TableValues
mod JsonRows
mod JsonSheets
mod WholeRounds
pub mod PageWalks
pub mod Unnamed
mod PageTexts
mod PageTable
mod PageIterations
mod PageLabels
mod BarCounts
mod PageBars
mod PageRounds
mod PageSentences
mod LeftSeats
