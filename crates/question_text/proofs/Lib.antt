-- Laws of the text of a question, and examples.
pub mod QuestionLaws
pub mod Examples
