mod Answered
mod Ended
mod Running
mod Bringing
mod Beginning
mod Calling
