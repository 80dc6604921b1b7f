use Rattle.std.proofs.Common.{◌≡◌, ◌≤◌, take}
use Rattle.cet_verbs.specs.Named.{names_of}
use Rattle.cet_verbs.specs.Held.{HoldsBytes}
use Rattle.cet_verbs.specs.Notes.{AllBoth, items_of}
use Rattle.cet_verbs.proofs.reading.read_files.Given as goal

-- the files so far hold the bytes so far
abbrev pub invariant-loop-name : goal.invariant-loop-name
invariant-loop-name g l = record {
  same : g.F.Files.contents l.files ≡ g.F.Files.contents l.initial.files;
  count : g.F.Files.faults l.initial.files ≤ g.F.Files.faults l.files;
  holds : AllBoth (HoldsBytes (g.F.Files.contents l.initial.files)) (take l.name-index (names_of l.names)) (items_of l.held.items);
}
