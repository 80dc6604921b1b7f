use Rattle.std.proofs.Common.{◌≡◌, ℕ, List, [], length, refl, Option, Some, None, unwrap_or}
use Rattle.cet_isa.specs.Canonical.{canonical}
use Rattle.cet_asm.proofs.parts.code_size.Goals as goal

pub returns-in-Err-clause-size : goal.returns-in-Err-clause-size
returns-in-Err-clause-size c = by_code (canonical c.args.insn) refl where
  by_code : (o : Option (List ℕ)) → canonical c.args.insn ≡ o → 0 ≡ length (unwrap_or o [])
  by_code None e = refl
  by_code (Some b) e = absurd (c.in-Err.ensures.none.0 refl b (c.canonical_is_form.ensures c.args.insn b e))
