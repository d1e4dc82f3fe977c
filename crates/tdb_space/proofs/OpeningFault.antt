-- Laws of the first fault of an opening.
pub mod OneFault
pub mod HeaderFaults
