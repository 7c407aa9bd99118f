-- The mnemonics of the instructions that carry out an operator.
use Rattle.std.specs.Prelude.{ℕ, List, codes}
use Rattle.operators.specs.declared.Unary.{Unary}
use Rattle.operators.specs.declared.Unary.TheVariants.{Neg, Not}
use Rattle.operators.specs.declared.Binary.{Binary}
use Rattle.operators.specs.declared.Binary.TheVariants.{Add, Sub, Mul, And, Or, Xor, Shl, Shr, Sar, Lt}

abbrev pub pair_letters : Binary → List ℕ
pair_letters Add = codes "add"
pair_letters Sub = codes "sub"
pair_letters Mul = codes "mul"
pair_letters And = codes "and"
pair_letters Or = codes "or"
pair_letters Xor = codes "xor"
pair_letters Shl = codes "shl"
pair_letters Shr = codes "shr"
pair_letters Sar = codes "sar"
pair_letters Lt = codes "lt"

abbrev pub single_letters : Unary → List ℕ
single_letters Neg = codes "neg"
single_letters Not = codes "not"
