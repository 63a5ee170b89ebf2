pub mod Lines
pub mod Escapes
pub mod Again
pub mod Pieces
pub mod Placed
pub mod Printed
