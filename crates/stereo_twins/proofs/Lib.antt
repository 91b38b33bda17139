pub mod Partners
mod TwinLemmas
