use Rattle.std.proofs.lemmas.List.{append_assoc}
use Rattle.cet_exec.proofs.writing.put_program.Goals as goal

pub returns : goal.returns
returns c =
    rw (
      c.in_ok-put_u64-6.ensures.bytes,
      c.in_ok-put_u64-5.ensures.bytes,
      c.in_ok-put_u64-4.ensures.bytes,
      c.in_ok-put_u64-3.ensures.bytes,
      c.in_ok-put_u64-2.ensures.bytes,
      c.in_ok-put_u64.ensures.bytes,
      c.in_ok-put_u32-2.ensures.bytes,
      c.in_ok-put_u32.ensures.bytes,
      c.alignment.ensures,
    )
    (simp append_assoc)
