use Rattle.std.proofs.Common.{◌≡◌, ◌-◌, ℕ, List, get_or, Option, unwrap_or, subst, sym, ap, ◌∙◌, arith, inl, inr}
use Rattle.std.proofs.lemmas.Bool.{cases_lt}
use Rattle.cet_cert.specs.declared.survey.Mark.{Mark}
use Rattle.cet_cert.specs.declared.survey.Mark.TheVariants.{Inside}
use Rattle.cet_cert.specs.Survey.{IsMark}
use Rattle.cet_cert.proofs.Marks.{mark_found, mark_below}
use Rattle.cet_cert.proofs.survey.mark_at.Goals as goal

pub returns-in-Some : goal.returns-in-Some
returns-in-Some c =
    let is : c.in-Some.offset ≡ c.args.at - c.args.function.now.start = (c.in-Some.ensures {u = tt}).1 in
    let found : c.unwrap_or.result ≡ get_or c.args.survey.now.marks.items (c.args.at - c.args.function.now.start) Inside =
    c.unwrap_or.ensures
    ∙ (ap (λ (o : Option Mark). unwrap_or o Inside) c.copied.ensures
    ∙ (c.get.ensures.lookup.4 (omega arith) Inside
    ∙ (ap (λ (xs : List Mark). get_or xs c.in-Some.offset Inside) c.deref.ensures.value ∙ ap (λ (k : ℕ). get_or c.args.survey.now.marks.items k Inside) is))) in
    subst (λ (m : Mark). IsMark c.args.image.now c.args.function.now c.args.at m) (sym found)
    (mark_found c.args.image.now c.args.function.now c.args.survey.now c.args.at c.requires (c.in-Some.ensures {u = tt}).0)

pub returns-in-None : goal.returns-in-None
returns-in-None c = elim (cases_lt c.args.at c.args.function.now.start) [
  | inl below ↦ mark_below c.args.image.now c.args.function.now c.args.at below
  | inr above ↦ absurd (c.in-None.ensures {u = tt} above)
]
