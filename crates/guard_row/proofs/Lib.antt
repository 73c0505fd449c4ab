pub mod RowLaws
pub mod HomeLemmas
pub mod StepLemmas
