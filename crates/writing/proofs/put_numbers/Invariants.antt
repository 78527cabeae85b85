-- The fields of so many numbers stand from `at` on.
use Rattle.std.proofs.Common.{length}
use Rattle.writing.specs.Writing.{number_field}
use Rattle.writing.proofs.Writings.{WrittenSoFar}
use Rattle.writing.proofs.put_numbers.Given as goal

abbrev pub invariant-loop-z : goal.invariant-loop-z
invariant-loop-z l = WrittenSoFar l.at (number_field l.numbers) (length l.numbers) l.initial.out l.z-index l.out l.end
