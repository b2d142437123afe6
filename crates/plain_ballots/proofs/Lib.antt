pub mod RankingLemmas
mod BallotsLemmas
pub mod PermutationLemmas
pub mod PlainLemmas
mod RefusalLemmas
