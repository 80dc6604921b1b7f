use Rattle.std.proofs.Common.{◌≡◌, ap}
use Rattle.std.proofs.lemmas.Result.{on_err_weaker}
use Rattle.cet_base.specs.Files.{Contents}
use Rattle.cet_base.specs.MemFiles.{contents_of}
use Rattle.cet_base.proofs.mem_files.MemFilesFiles.replace.Goals as goal

pub returns-then-is_err-clause-others : goal.returns-then-is_err-clause-others
returns-then-is_err-clause-others c =
    on_err_weaker c.use_room-replaced.result (λ (same : contents_of c.use_room-replaced.new.self ≡ contents_of c.args.self.now). λ other apart. ap (λ (files : Contents). files other) same)
    c.use_room-replaced.ensures.err
