pub mod StuckPairs
pub mod PairRows
pub mod RowsOfTables
pub mod RowMasks
pub mod FreeRows
