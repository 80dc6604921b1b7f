use Rattle.std.proofs.Common.{◌≡◌, Some, arith}
use Rattle.std.proofs.lemmas.Map.Text.{text_keys}
use Rattle.std.proofs.Math.Path.{fun_ext}
use Rattle.std.proofs.lemmas.Result.{on_ok_weaker, on_err_weaker}
use Rattle.cet_base.proofs.mem_files.MemFiles.use_room.Goals as goal

pub returns-in-Some-clause-replaced : goal.returns-in-Some-clause-replaced
returns-in-Some-clause-replaced c =
    on_ok_weaker c.replace.result (λ (held : c.replace.new.self.held ≡ Some c.args.bytes.now). ((λ other apart. grind (arith, text_keys)), grind (arith, text_keys))) c.replace.ensures.replaced

pub returns-in-Some-clause-err : goal.returns-in-Some-clause-err
returns-in-Some-clause-err c =
    on_err_weaker c.replace.result (λ (held : c.replace.new.self.held ≡ c.in-Some.place.now.held). fun_ext (λ other. grind (arith, text_keys))) c.replace.ensures.err

pub returns-in-Some-clause-other_rooms : goal.returns-in-Some-clause-other_rooms
returns-in-Some-clause-other_rooms c = λ other apart. grind (arith, text_keys)
