pub mod TabLemmas
