mod Running
mod Staying
mod Caused
mod Others
mod Brought
