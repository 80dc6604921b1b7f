use Rattle.std.proofs.lemmas.List.{append_assoc}
use Rattle.cet_elf.proofs.tables.put_entry.Goals as goal

pub returns-clause-table : goal.returns-clause-table
returns-clause-table c =
    rw (
      c.in_ok-put_u64-2.ensures.bytes,
      c.in_ok-put_u64.ensures.bytes,
      c.in_ok-put_u16.ensures.bytes,
      c.in_ok-put_u8-2.ensures.bytes,
      c.in_ok-put_u8.ensures.bytes,
      c.in_ok-put_u32.ensures.bytes,
    )
    (simp append_assoc)
