mod Passing
mod Places
mod Progress
mod Stood
mod Bytes
