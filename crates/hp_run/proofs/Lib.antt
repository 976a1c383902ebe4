mod Parts
mod Spoken
mod Lines
