pub mod AppendLaws
pub mod TextLaws
pub mod AnswerLaws
pub mod LengthLaws
pub mod PrintedLaws
pub mod Cases
