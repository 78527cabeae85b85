-- The problem of a device of the code, which is a circuit or a table.
use Rattle.devices.specs.Devices.{circuit_problem, table_problem}
use Rattle.devices.specs.Problems.{Problem}
use Rattle.devices.specs.declared.device.Device.{Device}
use Rattle.devices.specs.declared.device.Device.TheVariants.{Gates, Marks}

abbrev pub problem_of : Device → Problem
problem_of (Gates n) = circuit_problem n
problem_of (Marks t) = table_problem t
