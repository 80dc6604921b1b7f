use Rattle.std.proofs.lemmas.List.{append_assoc}
use Rattle.cet_exec.proofs.writing.put_tables.Goals as goal

pub returns : goal.returns
returns c =
    rw (
      c.in_ok-put_u16-6.ensures.bytes,
      c.in_ok-put_u16-5.ensures.bytes,
      c.in_ok-put_u16-4.ensures.bytes,
      c.in_ok-put_u16-3.ensures.bytes,
      c.in_ok-put_u16-2.ensures.bytes,
      c.in_ok-put_u16.ensures.bytes,
      c.in_ok-put_u32.ensures.bytes,
      c.in_ok-put_u64.ensures.bytes,
    )
    (simp append_assoc)
