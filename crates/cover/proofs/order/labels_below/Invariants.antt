-- The invariant: the first `count` labels are those below n among the labels of the order that were seen.
use Rattle.std.proofs.Common.{◌≡◌, ◌≤◌, length, take}
use Rattle.cover.proofs.LabelOrder.{labels-to}
use Rattle.cover.proofs.order.labels_below.Given as goal

abbrev pub invariant-loop-label : goal.invariant-loop-label
invariant-loop-label l = (l.count ≤ l.label-index) × (length l.labels ≡ 256) × (take l.count l.labels ≡ labels-to l.n l.label-index)
