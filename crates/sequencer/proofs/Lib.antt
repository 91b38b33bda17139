mod Answered
mod Budgets
mod LoggedLabels
mod OpenStates
mod LogsInText
mod Searched
mod FewMarks
mod AnswerLengths
mod SameLogs
mod Accepting
mod Solved
mod TriedOut
mod Idle
mod Faulty
mod Ready
mod Opened
pub mod KeptLabels
pub mod TracedLabels
pub mod SharedSearched
