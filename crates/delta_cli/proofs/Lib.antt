mod Appending
mod Checked
mod Generated
mod Made
mod Printed
mod ShortStreams
mod Shown
mod Checkpointing
mod Synced
mod Upgrading
pub mod Words
