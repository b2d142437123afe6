mod Keywords
mod DifferentNumbers
mod SharedParts
mod CallSoundness
mod TeamLists
mod TeamSoundness
mod RollSoundness
mod DaySoundness
mod CallCompleteness
mod TeamCompleteness
mod HeadCompleteness
mod DayCompleteness
mod DayLaws
mod Steps
mod CallSteps
mod TeamSteps
mod ByNumber
mod States
mod TitleSteps
mod LotSteps
mod HeadSteps
mod DaySteps
mod DayScripts
mod WorkedFiles
pub mod RollNames
pub mod CallRankings
