mod Bytes
mod Endings
mod Written
