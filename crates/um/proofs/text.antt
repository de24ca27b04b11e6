pub mod EventLaws
mod LineTexts
