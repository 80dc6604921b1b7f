-- Laws of runs, as `chosen` has them.
use Rattle.std.specs.Prelude.{◌≡◌, ℕ, ◌+◌, ◌<◌, ◌≤◌, List, length}
use Rattle.cet_process.specs.declared.event.Event.{Event}
use Rattle.cet_process.specs.State.{State}
use Rattle.cet_process.specs.Chosen.{Plan, chosen}

-- no run has more events than its limit
abbrev pub IsLimited : Type 0
IsLimited = (S : State) (given : List Event) (plans : List Plan) (limit : ℕ) → length (chosen S given plans limit) ≤ limit

-- where a run has fewer, none was left to choose: with a higher limit it is the same
abbrev pub NoneIsLeft : Type 0
NoneIsLeft = (S : State) (given : List Event) (plans : List Plan) (limit more : ℕ) → length (chosen S given plans limit) < limit
    → chosen S given plans (limit + more) ≡ chosen S given plans limit
