-- Laws of the room that writes leave.
pub mod Rooms
