-- What a reader has to believe of the text of a question.
pub mod Question
