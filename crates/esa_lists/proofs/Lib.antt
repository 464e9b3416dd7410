pub mod FilesLaws
pub mod MapLaws
pub mod MappedLaws
pub mod OrderedLaws
pub mod RunsLaws
pub mod TallyLaws
