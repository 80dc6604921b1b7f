use Rattle.std.proofs.Common.{◌≡◌, ◌≢◌, ℕ, ◌<◌, [], All, take}
use Rattle.cet_elf.specs.declared.object.Class.TheVariants as classes
use Rattle.cet_elf.proofs.writing_tests.all_may_stand.Given as goal

abbrev pub invariant-loop-s : goal.invariant-loop-s
invariant-loop-s l = record {
  group : All (λ s. s.class ≢ classes.Group) (take l.s-index l.sections);
  zeros : All (λ s. s.class ≡ classes.Zero → s.relocations ≡ []) (take l.s-index l.sections);
}
