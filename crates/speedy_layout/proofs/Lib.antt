pub mod VarintCode
pub mod WalkLemmas
pub mod ViewLemmas
pub mod VarintForms
pub mod FixedNumberLemmas
pub mod ThreeBytes
pub mod CTextLemmas
