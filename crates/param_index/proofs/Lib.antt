pub mod PlaceLemmas
pub mod MagicLemmas
pub mod SetLemmas
