-- The verdict: no rule is broken, or the broken rule lowest by address, then by number.
use Rattle.std.specs.Prelude.{◌≡◌, ℕ, ◌<◌, ◌≤◌, ◌⊎◌}
use Rattle.cet_rules.specs.declared.image.Image.{Image}
use Rattle.cet_rules.specs.declared.verdict.Verdict.{Verdict}
use Rattle.cet_rules.specs.declared.verdict.Verdict.TheVariants.{Accepted, Refused}
use Rattle.cet_rules.specs.Rule.{Broken}

-- rule r at a comes before rule s at b, or is the same
abbrev pub ComesFirst : ℕ → ℕ → ℕ → ℕ → Type 0
ComesFirst r a s b = (a < b) ⊎ ((a ≡ b) × (r ≤ s))

abbrev pub KeepsRules : Image → Type 0
KeepsRules image = (rule a : ℕ) → ¬ Broken image rule a

-- the verdict on the image
abbrev pub IsFirst : Image → Verdict → Type 0
IsFirst image Accepted = KeepsRules image
IsFirst image (Refused r a) = Broken image r a × ((s b : ℕ) → Broken image s b → ComesFirst r a s b)
