use Rattle.std.proofs.Common.{refl}
use Rattle.cet_syntax.proofs.Canonical.{no_canonical}
use Rattle.cet_syntax.proofs.fields.template.Goals as goal

pub returns-in-Err : goal.returns-in-Err
returns-in-Err c = rw (no_canonical c.canonical_is_form.ensures c.args.insn (c.in-Err.ensures.none.0 refl)) refl
