pub mod LineLemmas
pub mod SplitLemmas
pub mod AnswerLemmas
pub mod RunLemmas
pub mod TreeLemmas
pub mod DepthLemmas
