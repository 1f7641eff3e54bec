mod Asking
mod Counted
mod Gathered
mod Halls
mod Shelving
