mod Taken
mod Opened
mod Held
mod Checkpoints
mod Followed
mod Fronts
