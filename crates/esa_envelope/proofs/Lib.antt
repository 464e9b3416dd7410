pub mod EnvelopeLemmas
pub mod KeystreamLemmas
