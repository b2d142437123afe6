mod Sound
mod CountEnding
mod DayOffice
mod DayEnding
mod TrialEnding
