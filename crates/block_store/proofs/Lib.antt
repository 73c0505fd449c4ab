pub mod EntryLemmas
pub mod PutLemmas
pub mod StoreLaws
pub mod ErrorLemmas
