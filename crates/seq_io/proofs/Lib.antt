pub mod Decimal
pub mod Pieces
pub mod FrontTokens
pub mod Fronts
pub mod Lines
pub mod StrictText
pub mod Spelled
