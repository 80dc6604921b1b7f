use Rattle.std.proofs.Common.{◌+◌, ◌*◌, ◌/◌, ◌≤◌, ◌<◌, length, subst, sym, arith}
use Rattle.cet_elf.specs.declared.entries.SectionHeader.{SectionHeader}
use Rattle.cet_elf.proofs.RelocationLemmas.{rela-inside}
use Rattle.cet_elf.proofs.relocations.read_entries.Goals as goal

pub overflow_add-s : goal.overflow_add-s
overflow_add-s c =
    let k = c.loop-k.k in
    let test = subst (λ (s : SectionHeader). k < s.size / 24) c.section-s.ensures c.loop-k-test.true in
    let inside = rela-inside c.args.bytes.now c.args.index k c.requires.sections c.requires.there c.requires.read test in
    let here : c.section-s.result.offset + 24 * k + 24 ≤ length c.args.bytes.now = subst (λ (s : SectionHeader). s.offset + 24 * k + 24 ≤ length c.args.bytes.now) (sym c.section-s.ensures) inside in
    omega arith

pub read_rela-requires-clause-there : goal.read_rela-requires-clause-there
read_rela-requires-clause-there c =
    let k = c.loop-k.k in
    let test = subst (λ (s : SectionHeader). k < s.size / 24) c.section-s.ensures c.loop-k-test.true in
    let inside = rela-inside c.args.bytes.now c.args.index k c.requires.sections c.requires.there c.requires.read test in
    subst (λ (s : SectionHeader). s.offset + 24 * k + 24 ≤ length c.args.bytes.now) (sym c.section-s.ensures) inside
