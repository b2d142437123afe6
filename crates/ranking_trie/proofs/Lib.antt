mod ArenaLemmas
pub mod BagLemmas
mod BelowLemmas
mod ChangeLemmas
pub mod CountLemmas
mod DepthLemmas
mod DropLemmas
mod FormLemmas
mod FrontLemmas
mod HangLemmas
mod JoinLemmas
mod SiblingLemmas
mod LineLemmas
mod ListLemmas
mod ListingLemmas
mod OrderLemmas
mod PathLemmas
mod SpareLemmas
mod StepLemmas
mod PlaceLemmas
