pub mod Laws
pub mod TieRows
pub mod TieArrivals
pub mod TieMade
pub mod TieMoves
pub mod TieCode
pub mod TieHeads
pub mod TieFound
