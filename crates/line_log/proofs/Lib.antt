pub mod Folds
mod Sets
mod Standing
mod Rows
pub mod Keeping
mod Cuts
mod Shown
mod Merging
mod Fronts
mod Taking
