use Rattle.std.proofs.Common.{◌∙◌, length, ap, sym, subst}
use Rattle.integer.specs.Tab.{Within}
use Rattle.devices.specs.Forms.{problem_of}
use Rattle.circuit.proofs.CircuitLaws.{rows_fit, spectrum-room}
use Rattle.circuit.proofs.fault_spectrum.Goals as goal

pub returns-clause-value : goal.returns-clause-value
returns-clause-value c =
    let w = c.inputs-due.ensures.proper in
    c.spectrum.ensures.value
    ∙ spectrum-room _ (problem_of c.args.d.now).inputs (length c.args.out.now) w.inputs-low w.inputs-high (ap length c.rows.ensures ∙ w.rows_all c.args.fault c.requires)
    (subst (Within 1000) (sym c.rows.ensures) (rows_fit (problem_of c.args.d.now) w c.args.fault c.requires))
