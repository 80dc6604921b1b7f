pub use Rattle.cet_rules.specs.First
pub use Rattle.cet_rules.specs.Report
pub mod Breach
pub mod Survey
