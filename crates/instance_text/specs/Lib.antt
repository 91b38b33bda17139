pub mod Lines
pub mod Spelling
pub mod Text
pub mod LineEnds
pub mod Shape
pub mod Reading
pub mod Refusal
pub mod Rules
