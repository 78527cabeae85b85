pub mod AppliedInputs
pub mod Making
pub mod FreePairs
