mod LineLemmas
mod Nexts
mod Exchanging
pub mod Served
