mod Owing
mod OneText
mod AnyOrder
mod Withdrawn
mod WordLemmas
mod FormLemmas
mod Readable
