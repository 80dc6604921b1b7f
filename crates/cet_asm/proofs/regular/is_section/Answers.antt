use Rattle.std.proofs.Common.{◌≡◌, ◌≢◌, All, length, rules, lit≤}
use Rattle.std.proofs.lemmas.List.{nil_from_length}
use Rattle.cet_elf.specs.declared.object.Class.TheVariants as classes
use Rattle.cet_elf.specs.Consistent.{HasNoZero, IsConsistentRela, HasItsBytes}
use Rattle.cet_asm.proofs.regular.is_section.Goals as goal

pub returns : goal.returns
returns c = λ t.
    let s = c.args.section.now in
    let name : HasNoZero s.name = search rules in
    let align : s.align ≡ 16 = search rules in
    let bytes : HasItsBytes s.class s.size s.bytes = search rules in
    let no_group : s.class ≢ classes.Group = search rules in
    let count : s.class ≡ classes.Zero → length s.relocations ≡ 0 = search rules in
    let relocations : All (IsConsistentRela c.args.symbols (length s.bytes)) s.relocations = search rules in
    record {
      consistent = record { align = (4, lit≤ tt, align); bytes = bytes; relocations = relocations };
      name = name;
      no_group = no_group;
      zeros = λ zero. nil_from_length s.relocations (count zero);
    }
