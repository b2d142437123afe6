mod ListsOfOne
mod OptionLemmas
