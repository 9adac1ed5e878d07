pub mod Lengths
pub mod AnswerSteps
pub mod PlanSteps
pub mod DigitTexts
pub mod PairLengths
pub mod DrawSteps
pub mod ClearAnswers
pub mod Officers
