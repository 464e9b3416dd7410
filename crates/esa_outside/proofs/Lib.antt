mod FilesOf
mod Fronts
pub mod Fieldless
