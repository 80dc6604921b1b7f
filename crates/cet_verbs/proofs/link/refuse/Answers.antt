use Rattle.std.proofs.lemmas.Result.{err_from_is_err_and}
use Rattle.cet_verbs.specs.Named.{names_of}
use Rattle.cet_verbs.proofs.LinkSteps.{no_line_untold}
use Rattle.cet_verbs.proofs.link.refuse.Goals as goal

pub returns-in_err-text-clause-untold : goal.returns-in_err-text-clause-untold
returns-in_err-text-clause-untold g c =
    let p = err_from_is_err_and c.from_residual.result c.from_residual.ensures.1 in
    let faults = g.O.Sink.faults c.args.out.now in
    rw (p.1, p.2)
    (no_line_untold (g.O.Sink.bytes c.args.out.now) faults faults c.args.start.now (names_of c.args.names.now) c.args.objects.now c.args.fault c.in_err-text.field-0.0 c.in_err-text.ensures.refused)
