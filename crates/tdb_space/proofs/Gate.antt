-- Laws of the gate of an undo area.
pub mod Contents
pub mod OpenGate
