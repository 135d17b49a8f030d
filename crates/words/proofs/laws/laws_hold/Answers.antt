-- The laws, as `Bits` and `Variables` prove them. Assumes nothing.
use Rattle.words.proofs.Bits.{bit-and, bit-or, bit-xor, bit_not, bit_power, bit_mask, zero_bits, same_bits, equal_bits}
use Rattle.words.proofs.Variables.{ones_variables}
use Rattle.words.proofs.laws.laws_hold.Goals as goal

pub returns : goal.returns
returns c = record {
  and = bit-and;
  or = bit-or;
  xor = bit-xor;
  not = bit_not;
  power = bit_power;
  mask = bit_mask;
  ones = ones_variables;
  zero = zero_bits;
  same = same_bits;
  equal = equal_bits;
}
