mod Attempting
mod Between
mod Fronting
mod Opening
mod Posting
