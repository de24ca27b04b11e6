pub mod FewMessages
