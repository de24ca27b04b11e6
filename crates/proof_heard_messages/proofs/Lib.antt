pub mod Fields
pub mod Elements
pub mod HeardF1
pub mod HeardE1
pub mod HeardXn
pub mod HeardCore
pub mod HeardTokens
