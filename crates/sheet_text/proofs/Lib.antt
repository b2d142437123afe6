mod EachPlace
mod OneSheet
mod Rooms
mod SampleRows
mod SheetLemmas
mod WritingLemmas
