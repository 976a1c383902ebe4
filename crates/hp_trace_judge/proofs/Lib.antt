mod Lines
mod Exactly
