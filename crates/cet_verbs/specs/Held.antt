-- What the files that a command reads hold.
use Rattle.std.specs.Prelude.{◌≡◌, ℕ, ◌≤◌, List, length, Option}
use Rattle.cet_base.specs.declared.reading.TheConstants.{FILE_LIMIT}
use Rattle.cet_base.specs.Files.{Contents, FileMeets}

-- the file of this name holds the bytes, as far as it is told what the files hold, and is within the limit
abbrev pub HoldsBytes : Option Contents → List ℕ → List ℕ → Type 0
HoldsBytes files name bytes = FileMeets files name (λ held. held ≡ bytes) × (length bytes ≤ FILE_LIMIT)
