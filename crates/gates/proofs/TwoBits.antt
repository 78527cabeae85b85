-- The rule as document 01 had it: `two-as-before`, kind by kind on two bits, and on the one bit of `not`.
use mathlib.Core.Path.{◌≡◌, refl, ap}
use mathlib.Core.Bool.{Bool, true, false, not, xor, ◌&&◌, ◌||◌}
use Rattle.gates.specs.Gates.{all_of, some_of, odd_of, gate_value, TwoAsBefore}

both : (a b : Bool) → (a && (b && true)) ≡ (a && b)
both true true = refl
both true false = refl
both false b = refl

either : (a b : Bool) → (a || (b || false)) ≡ (a || b)
either true b = refl
either false true = refl
either false false = refl

one : (a b : Bool) → xor a (xor b false) ≡ xor a b
unfolding xor
one true true = refl
one true false = refl
one false true = refl
one false false = refl

pub two-as-before : TwoAsBefore
unfolding gate_value all_of some_of odd_of
two-as-before =
    record {
      and_is = both;
      or_is = either;
      nand-is = λ a b. ap not (both a b);
      nor-is = λ a b. ap not (either a b);
      xor_is = one;
      xnor-is = λ a b. ap not (one a b);
      not_is = λ a. refl;
    }
