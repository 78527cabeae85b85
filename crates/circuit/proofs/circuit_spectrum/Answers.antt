use Rattle.std.proofs.Common.{arith, ◌∙◌, length}
use Rattle.sections.proofs.HandedOn.{handed-on}
use Rattle.devices.specs.Forms.{problem_of}
use Rattle.circuit.proofs.CircuitLaws.{text-stop, fault-stop, served, served-spectrum}
use Rattle.circuit.proofs.circuit_spectrum.Goals as goal

pub returns-in_err-d-clause-value : goal.returns-in_err-d-clause-value
returns-in_err-d-clause-value c =
    rw (handed-on c.from_residual.ensures.1) (text-stop c.args.text.now c.args.fault (length c.args.out.now) c.in_err-d.ensures)

pub returns-then-faults-which-clause-value : goal.returns-then-faults-which-clause-value
returns-then-faults-which-clause-value c =
    fault-stop c.args.text.now c.args.fault (length c.args.out.now) (problem_of c.in_ok-d.d) c.in_ok-d.ensures (omega (arith, c.faults.ensures))

pub returns-clause-value : goal.returns-clause-value
returns-clause-value c =
    c.fault_spectrum.ensures.value ∙ served c.args.text.now c.args.fault (length c.args.out.now) (problem_of c.in_ok-d.d) c.in_ok-d.ensures (omega (arith, c.faults.ensures))

pub returns-clause-out_after : goal.returns-clause-out_after
returns-clause-out_after c =
    rw (← (served-spectrum c.args.text.now c.args.fault (length c.args.out.now) (problem_of c.in_ok-d.d) c.in_ok-d.ensures)) c.fault_spectrum.ensures.out_after
