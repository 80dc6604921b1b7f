use Rattle.std.proofs.Common.{arith}
use Rattle.std.proofs.lemmas.Map.Text.{text_keys}
use Rattle.std.proofs.Math.Path.{fun_ext}
use Rattle.cet_base.proofs.mem_files.MemFiles.room.Goals as goal

pub returns-in-Some-clause-others : goal.returns-in-Some-clause-others
returns-in-Some-clause-others c = λ other apart. grind (arith, text_keys)

pub returns-in-Some-clause-contents : goal.returns-in-Some-clause-contents
returns-in-Some-clause-contents c = fun_ext (λ other. grind (arith, text_keys))

pub returns-in_ok-insert-in-None-clause-others : goal.returns-in_ok-insert-in-None-clause-others
returns-in_ok-insert-in-None-clause-others c = λ other apart. grind (arith, text_keys)

pub returns-in_ok-insert-in-None-clause-contents : goal.returns-in_ok-insert-in-None-clause-contents
returns-in_ok-insert-in-None-clause-contents c = fun_ext (λ other. grind (arith, text_keys))
