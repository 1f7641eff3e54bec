mod Footings
mod Taken
mod Amid
mod Answered
mod OneFile
mod TwoFiles
mod Regained
mod Causes
pub mod Fronts
pub mod Images
mod Completing
pub mod Serving
