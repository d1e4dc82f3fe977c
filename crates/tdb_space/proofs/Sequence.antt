-- Laws of the sequence number: two images that differ at most there are alike in all else.
pub mod SameImages
pub mod SameRecords
pub mod SameFront
pub mod SameLists
pub mod SameVerdict
pub mod SameOpening
