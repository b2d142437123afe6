mod PaidLemmas
mod PayLemmas
mod SiblingLemmas
mod TallyLemmas
