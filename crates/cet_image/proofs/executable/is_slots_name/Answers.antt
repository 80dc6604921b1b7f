use Rattle.std.proofs.Common.{ℕ, ◌==◌, List, ap, ◌∙◌}
use Rattle.std.specs.Cmp.Lexicographic.{pointwise}
use Rattle.cet_image.proofs.executable.is_slots_name.Goals as goal

pub returns : goal.returns
returns c = c.eq.ensures ∙ ap (λ (l : List ℕ). pointwise (λ a b. a == b) c.args.name.now l) c.as_slice.ensures
