mod Passes
mod Stays
