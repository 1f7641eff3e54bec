pub mod Besides
pub mod Findings
