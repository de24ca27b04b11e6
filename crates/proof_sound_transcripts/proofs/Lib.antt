pub mod RuleNumbers
pub mod Texts
pub mod Apart
