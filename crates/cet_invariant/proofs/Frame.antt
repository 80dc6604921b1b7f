-- What an event leaves of a process that is sorted, whatever it does to the contexts.
use Rattle.std.proofs.Common.{◌≡◌, ℕ, List, [], Option, unwrap_or, refl, ap, ◌∙◌, subst, lit<}
use Rattle.cet_machine.specs.declared.memory.Region.{Region}
use Rattle.cet_machine.specs.Memory.{is_code, code_at}
use Rattle.cet_machine.specs.MachineLaws.{is_fixed}
use Rattle.cet_rules.specs.declared.image.Image.{Image}
use Rattle.cet_process.specs.declared.event.Event.{Event}
use Rattle.cet_process.specs.declared.outcome.Outcome.{Outcome}
use Rattle.cet_process.specs.State.{State}
use Rattle.cet_process.specs.After.{after}
use Rattle.cet_process.specs.Laws.{KeepsFixed, Keeps}
use Rattle.cet_process.proofs.Events.{event_keeps}
use Rattle.cet_invariant.specs.Contexts.{HasImage, HasAllowedActions, HasOwners, Sorts}

-- what no instruction writes is fetched as before
code_stays : (M N : List Region) (a : ℕ) → KeepsFixed M N → code_at N a ≡ code_at M a
unfolding code_at
code_stays M N a fixed = ap (λ (o : Option (List ℕ)). unwrap_or o []) (fixed is_code refl refl a 1 (lit< tt))

image_stays : (image : Image) (M N : List Region) → KeepsFixed M N → HasImage image M → HasImage image N
image_stays image M N fixed has = record {
  loaded = has.loaded;
  bytes = λ k s stands read_only a n some inside. fixed is_fixed refl refl a n some ∙ has.bytes k s stands read_only a n some inside;
  code = λ k s stands a inside. code_stays M N a fixed ∙ has.code k s stands a inside;
}

-- After an event, mode, memory and what holds of every process are as they have to be. What is left to show is that the actions are allowed, and
-- which thread runs which context.
pub sorts_after : (image : Image) (S : State) (e : Event) (T : State) (outcome : Outcome) → Sorts image S → after S e ≡ (T, outcome) → HasAllowedActions image T → HasOwners image T → Sorts image T
sorts_after image S e T outcome sorted comes actions owners =
    let keeps : Keeps S T = subst (Keeps S) (ap (λ (x : State × Outcome). x.0) comes) (event_keeps S e sorted.process) in
    record {
      mode = keeps.mode ∙ sorted.mode;
      process = keeps.well_formed;
      memory = image_stays image S.memory T.memory keeps.fixed sorted.memory;
      actions = actions;
      owners = owners;
    }
