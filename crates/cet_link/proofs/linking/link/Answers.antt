use Rattle.std.proofs.lemmas.Result.{IfOk-weaker}
use Rattle.std.proofs.Common.{sym, subst}
use Rattle.cet_exec.specs.Regular.{IsRegularExec}
use Rattle.cet_link.specs.Links.{IsLinked}
use Rattle.cet_link.proofs.LinkLemmas.{Refuses-linked, Links-linked}
use Rattle.cet_link.proofs.RegularLemmas.{linked-regular}
use Rattle.cet_link.proofs.linking.link.Goals as goal

pub returns-clause-regular : goal.returns-clause-regular
returns-clause-regular c =
    IfOk-weaker c.build.result (IsLinked c.args.inputs.now c.args.entry.now) IsRegularExec
    (λ exec h. subst IsRegularExec (sym h.3) (linked-regular c.args.inputs.now c.args.entry.now h.0 c.requires.consistent h.2))
    c.build.ensures.linked

pub returns-clause-refused : goal.returns-clause-refused
returns-clause-refused c = Refuses-linked c.args.inputs.now c.args.entry.now c.build.result c.build.ensures.linked c.build.ensures.fault

pub returns-clause-links : goal.returns-clause-links
returns-clause-links c = Links-linked c.args.inputs.now c.args.entry.now c.build.result c.build.ensures.fault
