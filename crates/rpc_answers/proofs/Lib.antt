mod FoundLemmas
mod AnswerLemmas
pub mod Readings
mod StatusLemmas
mod SourceLemmas
mod PrintLemmas
