pub mod Generate
pub mod Encode
pub mod EncodeTaken
