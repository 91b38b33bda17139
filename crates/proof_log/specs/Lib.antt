pub mod Labels
pub mod Rules
pub mod AnswerText
pub mod AnswerRefusal
pub mod AnswerReading
