pub mod Mapping
pub mod Stretches
pub mod Conversions
pub mod Reversals
