use Rattle.std.proofs.Common.{◌≡◌, ◌+◌, ◌-◌, ◌<◌, ltb, refl, sym, inr, arith}
use Rattle.std.proofs.lemmas.Bool.{ltb-true, ltb-false}
use Rattle.cet_rules.specs.Rule.{HasNoForm}
use Rattle.cet_cert.proofs.Firsts.{first_if}
use Rattle.cet_cert.proofs.Positions.{no_form_at, no_form_here}
use Rattle.cet_cert.proofs.certifier.stop_breach.Goals as goal

pub returns : goal.returns
returns c =
    let image = c.args.image.now in
    let f = c.args.function.now in
    let s = c.args.survey.now in
    let stop = c.requires.survey.stop in
    first_if (λ rule a. (rule ≡ 6) × HasNoForm image f a) (ltb (s.stop - f.start) f.size) (record { rule = 6; at = s.stop }) c.then_some.result c.then_some.ensures
    (λ inside.
    let below : s.stop < f.start + f.size = omega (arith, ltb-true (s.stop - f.start) f.size inside, c.requires.survey.marks.long) in
    ((refl, no_form_here image f s.stop stop below), λ r b none. inr (sym (no_form_at image f s.stop b c.requires.regular.not_empty stop none.1).0, omega (arith, none.0))))
    (λ outside rule a none. omega (arith, ltb-false (s.stop - f.start) f.size outside, c.requires.survey.marks.long, (no_form_at image f s.stop a c.requires.regular.not_empty stop none.1).1))
