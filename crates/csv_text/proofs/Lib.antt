mod ReadLemmas
mod RecordLemmas
