pub mod KnownFields
pub mod SaidF1
pub mod SaidE1
pub mod SaidXn
pub mod SaidCore
pub mod SaidTokens
