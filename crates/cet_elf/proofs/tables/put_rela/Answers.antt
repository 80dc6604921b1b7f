use Rattle.std.proofs.Common.{◌≡◌, ◌++◌, ◌∙◌, ap, FitsSigned, rules}
use Rattle.std.specs.Int.{w64, cast_unsigned}
use Rattle.std.proofs.lemmas.List.{append_assoc}
use Rattle.byteorder.specs.Endian.{little_bytes}
use mir.Facts.{to_z-of_z}
use Rattle.cet_elf.proofs.tables.put_rela.Goals as goal

pub returns-clause-table : goal.returns-clause-table
returns-clause-table c =
    let fits : FitsSigned w64 c.args.rela.now.addend = search rules in
    let bits : c.cast_unsigned.result ≡ cast_unsigned w64 c.args.rela.now.addend = c.cast_unsigned.ensures ∙ ap (cast_unsigned w64) (to_z-of_z fits) in
    let addend = c.in_ok-put_u64-2.ensures.bytes ∙ ap (λ n. c.put_u32-2.new.out.items ++ little_bytes 8 n) bits in
    rw (addend, c.in_ok-put_u32-2.ensures.bytes, c.in_ok-put_u32.ensures.bytes, c.in_ok-put_u64.ensures.bytes) (simp append_assoc)
