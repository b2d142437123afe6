pub mod Rows
pub mod Turnover
pub mod Shard
