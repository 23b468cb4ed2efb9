pub mod HeaderLemmas
pub mod Messages
pub mod NextLemmas
pub mod NumberLemmas
pub mod PairLemmas
pub mod StreamLemmas
