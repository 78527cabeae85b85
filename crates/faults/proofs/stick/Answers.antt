use Rattle.std.proofs.Common.{◌≡◌, ◌+◌, ◌*◌, ◌-◌, ◌%◌, ◌^◌, ◌<◌, ◌∙◌, ℤ, ◌+ℤ◌, sym, ap, ap₂, length, of_z, w64, arith}
use Rattle.std.proofs.lemmas.Int.{ints, to_z-of_z}
use Rattle.integer.specs.Tab.{nth}
use Rattle.integer.specs.Sum.{signed}
use Rattle.integer.proofs.Machine.{reads-back}
use Rattle.screen.proofs.Screens.{inputs-most}
use Rattle.faults.proofs.OneStuck.{stuck-to, stuck-start, stuck-end, partner-below, partner-in, partner-ahead, read-ahead, stick-turn, once-joined, once-named}
use Rattle.faults.proofs.stick.Goals.{Then-i-shift-eq0, then-i-shift-eq0, else-i-shift-eq0}
use Rattle.faults.proofs.stick.Goals as goal

-- the row that i is joined with is in the list
partner : (c : Then-i-shift-eq0) → c.loop-i.i + (1 * 2 ^ (c.args.input - 1)) % 2 ^ 64 < length c.args.a.now
partner c = partner-in c.args.input (length c.args.a.now) c.loop-i.i c.requires.le_input c.loop-i-test.true c.if-i-shift-eq0.true

pub overflow_shl-bit : goal.overflow_shl-bit
overflow_shl-bit c = omega (arith, inputs-most (length c.args.a.now))

pub loop-i-init : goal.loop-i-init
loop-i-init c = stuck-start c.args.input c.args.value c.args.a.now

pub overflow_shr-i : goal.overflow_shr-i
overflow_shr-i c = omega (arith, inputs-most (length c.args.a.now))

pub overflow_add-i : goal.overflow_add-i
overflow_add-i c = omega (arith, partner (goal.at.overflow_add-i c).Then-i-shift-eq0)

pub offset_bounds-a-i-then-i-shift-eq0 : goal.offset_bounds-a-i-then-i-shift-eq0
offset_bounds-a-i-then-i-shift-eq0 c = omega (arith, partner (goal.at.offset_bounds-a-i-then-i-shift-eq0 c).Then-i-shift-eq0)

pub slice_copy_out-joined-then-i-shift-eq0 : goal.slice_copy_out-joined-then-i-shift-eq0
slice_copy_out-joined-then-i-shift-eq0 c = omega (arith, partner (goal.at.slice_copy_out-joined-then-i-shift-eq0 c).Then-i-shift-eq0)

pub joined-requires : goal.joined-requires
joined-requires c =
    let a = c.args in
    let i = c.loop-i.i in
    let x = read-ahead a.input a.value a.a.now i c.loop-i.a c.loop-i.invariant i (omega arith) in
    let y = partner-ahead a.input a.value a.a.now i c.loop-i.a c.loop-i.invariant c.requires.le_input in
    let below = partner-below a.input (length a.a.now) i c.requires.le_input.0 c.requires.le_input.1 c.loop-i-test.true c.if-i-shift-eq0.true in
    let u = c.requires.within i c.loop-i-test.true in
    let v = c.requires.within (i + 2 ^ (a.input - 1)) below in
    omega (arith, ints)

pub loop-i-preserved : goal.loop-i-preserved
loop-i-preserved c =
    let a = c.args in
    let i = c.loop-i.i in
    let step = stick-turn a.input a.value a.a.now i c.loop-i.a in
    elim c.if-i-shift-eq0.branch [
      | then-i-shift-eq0 w ↦
          let below = partner-below a.input (length a.a.now) i c.requires.le_input.0 c.requires.le_input.1 c.loop-i-test.true w.if-i-shift-eq0.true in
          let u = c.requires.within i c.loop-i-test.true in
          let v = c.requires.within (i + 2 ^ (a.input - 1)) below in
          let x = reads-back w64 (nth a.a.now i) (ap (of_z w64) (read-ahead a.input a.value a.a.now i c.loop-i.a c.loop-i.invariant i (omega arith))) (omega arith) in
          let y = reads-back w64 (nth a.a.now (i + 2 ^ (a.input - 1))) (ap (of_z w64) (partner-ahead a.input a.value a.a.now i c.loop-i.a c.loop-i.invariant c.requires.le_input)) (omega arith) in
          w.a-is
          ∙ step _ c.loop-i.invariant
          (to_z-of_z w64 w.joined.result (record { sfits = w.joined.type_inv }) ∙ w.joined.ensures ∙ ap₂ (λ (s t : ℤ). s +ℤ signed a.value t) x y
          ∙ sym (once-joined a.input a.value a.a.now i w.if-i-shift-eq0.true)) c.loop-i-test.true
      | else-i-shift-eq0 w ↦ w.a-is ∙ step _ c.loop-i.invariant (sym (once-named a.input a.value a.a.now i w.if-i-shift-eq0.false)) c.loop-i-test.true
    ]

pub returns : goal.returns
returns c =
    let n : c.loop-i.i ≡ length c.args.a.now = omega arith in
    c.loop-i.invariant ∙ ap (stuck-to c.args.input c.args.value c.args.a.now) n ∙ stuck-end c.args.input c.args.value c.args.a.now
