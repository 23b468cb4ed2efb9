pub mod Names
pub mod Split
pub mod Line
pub mod Answer
pub mod Run
pub mod Trees
