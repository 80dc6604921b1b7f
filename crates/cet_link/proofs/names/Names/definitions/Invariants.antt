use Rattle.std.proofs.Common.{◌≡◌, ◌++◌, map}
use Rattle.std.specs.List.{filter_map}
use Rattle.cet_link.specs.Known.{met_of, definition_in, names_in}
use Rattle.cet_link.proofs.names.Names.definitions.Given as goal

abbrev pub invariant-loop-name : goal.invariant-loop-name
invariant-loop-name l = map met_of l.found.items ++ filter_map (definition_in l.self) (map (λ key. key.now) l.name-iterator) ≡ filter_map (definition_in l.self) (names_in l.self)
