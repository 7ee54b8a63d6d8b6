-- What an opened code holds.
use Rattle.std.specs.Prelude.{◌≡◌, ◌+◌, ◌<◌, ◌≤◌, take}
use Rattle.algebra.specs.Arith.{Arith}
use Rattle.algebra.specs.BlockCode.{root_power, exponents, redundancy, generator}
use Rattle.algebra.specs.declared.Design.{Design}
use Rattle.code.specs.declared.block.tables.Tables.{Tables}

-- the tables are those of the field and the design
pub record TablesOf (A : Arith) (D : Design) (t : Tables) : Type 0 where
  pub redundancy_is : t.redundancy ≡ redundancy A D
  pub start_is : t.start ≡ root_power A D.first
  pub exponents_are : take t.redundancy t.exponents ≡ exponents A D
  pub generator_is : take (t.redundancy + 1) t.generator ≡ generator A D

-- what keeps each index and each sum in its bounds, whatever the field
pub record Bounded (D : Design) (t : Tables) : Type 0 where
  pub length_high : D.length ≤ 255
  pub some_message : t.redundancy < D.length
  pub distance_low : 3 ≤ D.distance
  pub distance_high : D.distance ≤ 33
