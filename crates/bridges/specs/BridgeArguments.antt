-- The arguments of the call with a bridge, in the paper's words (document 02, note 8):
--   "12 is given unless I is below J and both are inputs of the list"
-- `bridge_right` holds of these and of no others (proofs/BridgeArgumentsMean).
use Rattle.std.specs.Prelude.{ℕ, ◌<◌, ◌≤◌}

pub record BridgeArguments (n i j : ℕ) : Type 0 where
  pub low : 1 ≤ i
  pub rise : i < j
  pub high : j ≤ n
