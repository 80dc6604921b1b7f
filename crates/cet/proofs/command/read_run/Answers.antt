use Rattle.std.proofs.Common.{◌∙◌, codes, sym, refl}
use Rattle.cet.specs.Command.{texts}
use Rattle.cet.specs.Words.{run_app}
use Rattle.cet.proofs.Asked.{none_but_run}
use Rattle.cet.proofs.FoundLemmas.{taken_by, value_found, number_found, number_given, plain_found, plain_given}
use Rattle.cet.proofs.command.read_run.Goals as goal

pub returns-in_default-plain_number-clause-refused : goal.returns-in_default-plain_number-clause-refused
returns-in_default-plain_number-clause-refused c e =
    let words = texts c.args.words.now in
    none_but_run words c.requires.verb (λ raw schedule input limit file asks.
    c.in_default-plain_number.ensures.none limit (number_given run_app _ words _ (codes "limit") limit c.in_ok-run_command.ensures c.in_ok-found.ensures.rows asks.4)
    (plain_given run_app _ words _ (codes "limit") c.in_ok-run_command.ensures c.in_ok-found.ensures.rows asks.6))

pub returns-clause-found : goal.returns-clause-found
returns-clause-found c =
    let words = texts c.args.words.now in
    let is = c.in_ok-run_command.ensures in
    let rows = c.in_ok-found.ensures.rows in
    let raw = value_found run_app _ words _ (codes "raw") _ is rows refl in (
      taken_by run_app _ c.args.words.now is c.requires.few c.requires.verb c.in_ok-found.ensures.taken,
      (λ given. raw ∙ c.is_given.ensures.0 given, λ found. c.is_given.ensures.1 (sym raw ∙ found)),
      value_found run_app _ words _ (codes "schedule") _ is rows c.value-2.ensures,
      value_found run_app _ words _ (codes "input") _ is rows c.value-3.ensures,
      number_found run_app _ words _ (codes "limit") _ is rows c.in-Some-plain_number.ensures.some,
      value_found run_app _ words _ (codes "file") _ is rows c.in-Some.ensures,
      plain_found run_app _ words _ (codes "limit") is rows c.in-Some-plain_number.ensures.plain,
    )
