-- The values of symbols in a link (gABI, "Symbol Values"). `note` is the merged note, which stands before the sections that are read.
use Rattle.std.specs.Prelude.{ℕ, ◌+◌, ◌%◌, ◌^◌, if◌then◌else◌, List, [], slice_get}
use Rattle.std.specs.Option.{option_map_or}
use Rattle.cet_elf.specs.declared.object.Object.{Object}
use Rattle.cet_elf.specs.declared.object.Symbol.{Symbol}
use Rattle.cet_elf.specs.declared.object.SymbolPlace.{SymbolPlace}
use Rattle.cet_elf.specs.declared.object.SymbolPlace.TheVariants as places
use Rattle.cet_link.specs.Inputs.{Met, symbols}
use Rattle.cet_link.specs.Names.{is_local, definition_of}
use Rattle.cet_link.specs.Places.{place}

-- the value of a symbol that counts from this place: from the place of its section, modulo 2^64, or from 0
abbrev pub value_from : List Object → List ℕ → ℕ → SymbolPlace → ℕ → ℕ
value_from inputs note input (places.In number) value = (place inputs note input number + value) % 2 ^ 64
value_from inputs note input _ value = value

-- of a symbol that is defined
abbrev pub own_value : List Object → List ℕ → Met → ℕ
own_value inputs note m = value_from inputs note m.input m.symbol.place m.symbol.value

-- of the definition that counts for a name, or 0 where there is none
unfoldable pub value_of_name : List Object → List ℕ → List ℕ → ℕ
value_of_name inputs note name = option_map_or (own_value inputs note) (definition_of (symbols inputs) name) 0

-- The value of a symbol: a local one has its own, and every other one that of its name
unfoldable pub value_of : List Object → List ℕ → Met → ℕ
value_of inputs note m = if is_local m.symbol.bind then own_value inputs note m else value_of_name inputs note m.symbol.name

-- the value of the symbol of this number in an input
abbrev pub symbols_at : List Object → ℕ → List Symbol
symbols_at inputs input = option_map_or (λ o. o.symbols) (slice_get inputs input) []

unfoldable pub value_at : List Object → List ℕ → ℕ → ℕ → ℕ
value_at inputs note input number = option_map_or (λ s. value_of inputs note (record { input = input; symbol = s })) (slice_get (symbols_at inputs input) number) 0
