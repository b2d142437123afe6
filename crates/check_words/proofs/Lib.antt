mod OneLemmas
mod PairLemmas
mod WorkedLemmas
mod LotsAlone
