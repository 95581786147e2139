pub mod AnswerLines
pub mod Answers
pub mod Calls
pub mod Steps
