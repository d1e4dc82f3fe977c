-- Laws of the bytes of a new record.
pub mod RecordBytes
