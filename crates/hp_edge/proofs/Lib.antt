pub mod Holding
mod Stopping
