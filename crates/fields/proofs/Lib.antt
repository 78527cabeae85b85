pub mod Chains
pub mod LineTests
pub mod PlainLines
pub mod JoinedLines
pub mod TestsMean
