use Rattle.std.proofs.Common.{◌≡◌, ◌-◌, ◌≤◌, vec_len}
use Rattle.cet_base.proofs.ReadLemmas.{Begins}
use Rattle.cet_base.proofs.reading.read_parts.Given as goal

-- the bytes so far are the first of the file, and one more than the limit at most
abbrev pub invariant-parts : goal.invariant-parts
invariant-parts g l = record {
  same : g.F.Files.contents l.files ≡ g.F.Files.contents l.initial.files;
  count : g.F.Files.faults l.initial.files ≤ g.F.Files.faults l.files;
  bound : vec_len l.bytes ≤ 16777217;
  begins : Begins (g.F.Files.contents l.initial.files) l.name l.bytes.items;
}

-- how many bytes may be read yet
abbrev pub decreases-parts : goal.decreases-parts
decreases-parts g l = 16777217 - vec_len l.bytes
