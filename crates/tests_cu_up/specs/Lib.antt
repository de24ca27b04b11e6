pub mod FewMessages
pub mod ue
