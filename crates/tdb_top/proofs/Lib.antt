pub mod Writing
pub mod Answering
pub mod Whole
pub mod StopsServing
pub mod SessionsStopped
pub mod SessionRuns
