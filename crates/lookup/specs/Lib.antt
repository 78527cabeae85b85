pub mod StuckPairs
pub mod TableRows
pub mod FreeRows
pub mod Steps
