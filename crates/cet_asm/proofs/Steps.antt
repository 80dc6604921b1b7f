-- What a statement in its place gives, by what it states.
use Rattle.std.specs.Prelude.{nat_lt}
use Rattle.std.proofs.Common.{◌≡◌, ℕ, ◌+◌, ◌-◌, ◌^◌, arith, Bool, true, false, cond, List, [], map, Result, Ok, Err, refl, ap, ◌∙◌}
use Rattle.cet_syntax.specs.declared.statement.SectionName.{SectionName}
use Rattle.cet_syntax.specs.declared.template.Code.TheVariants as code
use Rattle.cet_syntax.specs.declared.statement.Directive.TheVariants as directive
use Rattle.cet_syntax.specs.declared.statement.Statement.{Statement}
use Rattle.cet_syntax.specs.declared.statement.Statement.TheVariants as statement
use Rattle.cet_asm.specs.declared.error.AsmKind.{AsmKind}
use Rattle.cet_asm.specs.declared.error.AsmKind.TheVariants as fault
use Rattle.cet_asm.specs.declared.placed.Placed.{Placed}
use Rattle.cet_asm.specs.declared.placed.Step.{Step}
use Rattle.cet_asm.specs.declared.placed.Step.TheVariants.{Label, States}
use Rattle.cet_asm.specs.Emitted.{Targets, emitted, moved, size_of}
use Rattle.cet_asm.specs.Assembled.{step_bytes, step_size, used_names, no_targets}
use Rattle.cet_asm.specs.Placing.{IsTable, end_of}
use Rattle.cet_asm.specs.Whole.{relocation_by, relocations_by, used_by}

abbrev with_step : Placed → Step → Placed
with_step p s = record { line = p.line; step = s; spot = p.spot }

pub bytes_at : (targets : Targets) (p : Placed) (st : Statement) → p.step ≡ States st → step_bytes targets p ≡ (emitted targets p.spot st).bytes
bytes_at targets p st is = ap (λ s. step_bytes targets (with_step p s)) is

pub no_bytes_at : (targets : Targets) (p : Placed) (name : List ℕ) → p.step ≡ Label name → step_bytes targets p ≡ []
no_bytes_at targets p name is = ap (λ s. step_bytes targets (with_step p s)) is

pub relocations_at : (number : List ℕ → ℕ) (targets : Targets) (p : Placed) (st : Statement) → p.step ≡ States st
    → relocations_by number targets p ≡ map (λ u. relocation_by number (moved p.spot.offset u)) (emitted targets p.spot st).uses
relocations_at number targets p st is = ap (λ s. relocations_by number targets (with_step p s)) is

pub no_relocations_at : (number : List ℕ → ℕ) (targets : Targets) (p : Placed) (name : List ℕ) → p.step ≡ Label name → relocations_by number targets p ≡ []
no_relocations_at number targets p name is = ap (λ s. relocations_by number targets (with_step p s)) is

pub used_at : (p : Placed) (st : Statement) → p.step ≡ States st → used_names p ≡ used_by p.spot st
used_at p st is = ap (λ s. used_names (with_step p s)) is ∙ stated p st where
  stated : (q : Placed) (t : Statement) → used_names (with_step q (States t)) ≡ used_by q.spot t
  stated q (statement.Code (code.Short c name)) = refl
  stated q (statement.Code _) = refl
  stated q (statement.Directive _) = refl
  stated q (statement.Site _) = refl

pub none_used_at : (p : Placed) (name : List ℕ) → p.step ≡ Label name → used_names p ≡ []
none_used_at p name is = ap (λ s. used_names (with_step p s)) is

pub no_table : (section : SectionName) (st : Statement) → IsTable no_targets section st 0
no_table section (statement.Directive (directive.Off name table)) = refl
no_table section (statement.Directive _) = tt
no_table section (statement.Code _) = tt
no_table section (statement.Site _) = tt
