pub mod FaithfulLaws
pub mod HeldLaws
pub mod ScanLaws
