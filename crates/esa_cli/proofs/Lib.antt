mod Commands
mod Steps
mod Sound
mod Acting
mod Explaining
mod Telling
mod Answering
