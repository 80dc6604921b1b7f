-- What is looked at of each section of an object before it is handed out: this project's own.
use Rattle.std.specs.Prelude.{◌≡◌, ◌≢◌, ℕ, []}
use Rattle.cet_elf.specs.declared.object.Section.{Section}
use Rattle.cet_elf.specs.declared.object.Class.TheVariants as classes
use Rattle.cet_elf.specs.Consistent.{HasNoZero, IsConsistentSection}

-- a section that an object may have, in an object of so many symbols
pub record IsSoundSection (symbols : ℕ) (s : Section) : Type 0 where
  pub consistent : IsConsistentSection symbols s
  pub name : HasNoZero s.name
  pub no_group : s.class ≢ classes.Group
  pub zeros : s.class ≡ classes.Zero → s.relocations ≡ []
