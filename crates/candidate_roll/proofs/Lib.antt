mod NameLemmas
mod MarksLemmas
mod RefusalLemmas
