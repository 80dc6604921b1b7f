-- What takes memory: this project's own.
use Rattle.std.specs.Prelude.{◌≡◌, ◌+◌, length}
use Rattle.cet_process.specs.State.{State}

-- T has one region more than S
abbrev pub AddsRegion : State → State → Type 0
AddsRegion S T = length T.memory ≡ length S.memory + 1
