-- The test on the arguments of the call holds exactly of the paper's arguments:
--   bridge-arguments    the first input is at least 1 and below the second, which is at most n
use mathlib.Core.Path.{◌≡◌}
use mathlib.Core.Bool.{true, ◌&&◌}
use mathlib.Core.Logic.{◌↔◌}
use Prim.Native.Nat.{ℕ}
use lib.Dec.{leb, ltb}
use borrow.Author.Tests.{ltb-true, leb-true, lt-ltb, le-leb}
use Rattle.integer.proofs.Bools.{both}
use Rattle.bridges.specs.BridgeArguments.{BridgeArguments}
use Rattle.bridges.specs.Bridges.{bridge_right}

pub bridge-arguments : (n i j : ℕ) → (bridge_right n i j ≡ true) ↔ BridgeArguments n i j
unfolding bridge_right
bridge-arguments n i j = (there, back)
  where
    there : (ltb 0 i && (ltb i j && leb j n)) ≡ true → BridgeArguments n i j
    there e =
        let p = both (ltb 0 i) (ltb i j && leb j n) e in
        let q = both (ltb i j) (leb j n) p.1 in
        record { low = ltb-true 0 i p.0; rise = ltb-true i j q.0; high = leb-true j n q.1 }

    back : BridgeArguments n i j → (ltb 0 i && (ltb i j && leb j n)) ≡ true
    back a = rw (lt-ltb 0 i a.low, lt-ltb i j a.rise, le-leb j n a.high)
