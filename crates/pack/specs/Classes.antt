-- The classes of bytes by which the code calls the tests of the records. Assumes nothing.
use Rattle.std.specs.Prelude.{Bool, ℕ}
use Rattle.pack.specs.Records.{any_byte, letter, prefix_byte, variable}
use Rattle.pack.specs.declared.bytes.Class.{Class}
use Rattle.pack.specs.declared.bytes.Class.TheVariants.{Any, Letter, Prefix, Variable}

abbrev pub in_class : Class → ℕ → Bool
in_class Any = any_byte
in_class Letter = letter
in_class Prefix = prefix_byte
in_class Variable = variable
