pub mod HeaderLemmas
pub mod MessageKinds
pub mod NextFrameLemmas
pub mod RefusalLemmas
pub mod TagLemmas
