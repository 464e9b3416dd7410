mod Lines
mod Texts
mod Reading
mod Inputs
mod Left
mod Gathered
