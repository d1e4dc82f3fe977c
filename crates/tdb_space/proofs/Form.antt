-- Laws of the form that a header states.
pub mod Headers
