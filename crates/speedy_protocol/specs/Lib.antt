pub mod NextFrame
pub mod Refusals
