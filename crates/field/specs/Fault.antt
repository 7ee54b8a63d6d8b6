-- What each refusal tells: its layer, its number and its place, and its words for a person.
use Rattle.std.specs.Prelude.{ℕ, List, codes}
use Rattle.field.specs.declared.fault.Layer.{Layer}
use Rattle.field.specs.declared.fault.Layer.TheVariants.{Field, Code, Station}
use Rattle.field.specs.declared.fault.FieldFault.{FieldFault}
use Rattle.field.specs.declared.fault.FieldFault.TheVariants.{Degree, Polynomial, RootOrder}

pub record Told : Type 0 where
  pub layer : Layer
  pub number : ℕ
  pub place : ℕ

abbrev pub field_fault : FieldFault → Told
field_fault Degree = record { layer = Field; number = 1; place = 0 }
field_fault Polynomial = record { layer = Field; number = 2; place = 0 }
field_fault (RootOrder e) = record { layer = Field; number = 3; place = e }

abbrev pub layer_name : Layer → List ℕ
layer_name Field = codes "field"
layer_name Code = codes "code"
layer_name Station = codes "station"

abbrev pub field_words : FieldFault → List ℕ
field_words Degree = codes "the degree must be 2 to 10"
field_words Polynomial = codes "the polynomial must be odd and of this degree"
field_words (RootOrder e) = codes "the root returns to 1 too early"
