use Rattle.std.proofs.Common.{◌∙◌, ◌*◌, ◌-◌, ap, arith, cond, get_or, length}
use Rattle.std.proofs.lemmas.Int.{to_z-of_z}
use Rattle.std.specs.Int.{w128}
use Rattle.byteorder.specs.Endian.{little_bytes}
use Rattle.byteorder.specs.Numbers.{length-bytes_low_first}
use Rattle.cet_elf.specs.ObjectRelocations.{field_size}
use Rattle.cet_link.specs.Patched.{covers, residue}
use Rattle.cet_link.proofs.PatchLemmas.{over-mid, field-room}
use Rattle.cet_link.proofs.patch.patch_field.Goals as goal

pub returns : goal.returns
returns c = λ at.
    let r = c.args.rela.now in
    let n = field_size r.kind in
    let written = c.put_field.ensures ∙ ap (λ z. little_bytes n (residue (8 * n) z)) (to_z-of_z w128 c.args.sum c.ranges.sum) in
    over-mid r.offset n _ at c.args.bytes.now c.put_field.new.field (omega (arith, c.field_size.ensures))
    (ap length written ∙ length-bytes_low_first 0 n (residue (8 * n) c.args.sum)) (field-room r.kind r.offset (length c.args.bytes.now) c.if-rela-eq0.false c.requires)
    ∙ ap (λ zs. cond (covers at r) (get_or zs (at - r.offset) 0) (get_or c.args.bytes.now at 0)) written
