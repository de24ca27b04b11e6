pub mod EventLaws
pub mod HexText
