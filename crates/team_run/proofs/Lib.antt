pub mod Lists
mod Sights
mod Work
mod Making
mod OpeningLemmas
mod TakingLemmas
mod Ran
mod Places
mod Days
mod Crosses
mod Ends
mod Rising
mod Freezes
mod DayEnd
