-- What a link editor goes through: the symbols and the sections of all inputs, by input and then by index. Inputs are numbered from 0.
use Rattle.std.specs.Prelude.{ℕ, List, map}
use Rattle.std.specs.List.{flat_map, enumerate_from}
use Rattle.cet_elf.specs.declared.object.Object.{Object}
use Rattle.cet_elf.specs.declared.object.Section.{Section}
use Rattle.cet_elf.specs.declared.object.Symbol.{Symbol}

-- a symbol, and the number of its input
pub record Met : Type 0 where
  pub input : ℕ
  pub symbol : Symbol

-- a section, its number in its input, and the number of that
pub record Part : Type 0 where
  pub input : ℕ
  pub number : ℕ
  pub section : Section

-- the symbols and the sections of an input with this number
abbrev pub met_in : ℕ → List Symbol → List Met
met_in input ss = map (λ s. record { input = input; symbol = s }) ss

abbrev pub symbols_of : ℕ → Object → List Met
symbols_of input o = met_in input o.symbols

abbrev pub parts_in : ℕ → List Section → List Part
parts_in input ss = map (λ i. record { input = input; number = i.0; section = i.1 }) (enumerate_from 0 ss)

abbrev pub parts_of : ℕ → Object → List Part
parts_of input o = parts_in input o.sections

-- those of all inputs
unfoldable pub symbols : List Object → List Met
symbols inputs = flat_map (λ i. symbols_of i.0 i.1) (enumerate_from 0 inputs)

unfoldable pub parts : List Object → List Part
parts inputs = flat_map (λ i. parts_of i.0 i.1) (enumerate_from 0 inputs)
