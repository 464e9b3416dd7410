mod Inside
mod Replaying
