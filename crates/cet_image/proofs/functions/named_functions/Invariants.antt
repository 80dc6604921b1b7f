use Rattle.std.proofs.Common.{◌≡◌, map, filter, take}
use Rattle.cet_image.specs.Executable.{names_function, function_of}
use Rattle.cet_image.proofs.functions.named_functions.Given as goal

abbrev pub invariant-loop-symbol : goal.invariant-loop-symbol
invariant-loop-symbol l = l.functions.items ≡ map function_of (filter names_function (take l.symbol-index l.symbols))
