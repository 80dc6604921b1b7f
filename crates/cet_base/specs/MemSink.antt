-- What a `MemSink` is seen as.
use Rattle.std.specs.Prelude.{ℕ, List}

-- the bytes that it has taken, how many more it has room for, the most that one write takes, and how many writes failed
pub record SinkState : Type 0 where
  pub bytes : List ℕ
  pub room : ℕ
  pub most : ℕ
  pub faults : ℕ
