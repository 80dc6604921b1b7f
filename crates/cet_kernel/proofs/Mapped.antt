-- A system call that maps adds a region.
use Rattle.std.specs.Prelude.{◌↔◌, OnErr}
use Rattle.std.specs.Result.{result_unwrap_or}
use Rattle.std.proofs.Common.{◌≡◌, ◌≢◌, ℕ, ◌+◌, Bool, true, false, nat_le, List, length, Option, Some, None, unwrap_or, ok_or, Result, Ok, Err, refl, sym, ap, ◌∙◌, if◌then◌else◌}
use Rattle.std.specs.List.{count_by}
use Rattle.std.proofs.lemmas.List.{length-map}
use Rattle.std.proofs.lemmas.List.Edits.{length-insert}
use Rattle.std.proofs.lemmas.List.Sums.{count_by-le-length}
use Rattle.cet_isa.specs.declared.register.Reg.TheVariants.{Rax}
use Rattle.cet_isa.specs.declared.registers.Regs.{Regs}
use Rattle.cet_machine.specs.declared.memory.Kind.{Kind}
use Rattle.cet_machine.specs.declared.memory.Kind.TheVariants.{Shadow}
use Rattle.cet_machine.specs.declared.memory.Region.{Region}
use Rattle.cet_machine.specs.declared.shadow_fault.ShadowFault.TheVariants.{Pf}
use Rattle.cet_machine.specs.Memory.{is_shadow, low_bytes, shadow_store, zeros, place, legal}
use Rattle.cet_machine.specs.MemoryLaws.{shape, SameShape}
use Rattle.cet_machine.specs.Machine.{minus}
use Rattle.cet_machine.specs.Operand.{value}
use Rattle.cet_machine.specs.Shadow.{set_token, restore_token}
use Rattle.cet_machine.proofs.MemoryPlace.{legal_is_placed, placed_parts}
use Rattle.cet_machine.proofs.MemoryReads.{stored_keeps_shape}
use Rattle.cet_mem.specs.declared.memory.MapError.{MapError}
use Rattle.cet_mem.specs.declared.memory.MapError.TheVariants as map_errors
use Rattle.cet_process.specs.State.{State}
use Rattle.cet_process.specs.Call.{with_mapping, with_token}
use Rattle.cet_process.specs.After.{After, called}
use Rattle.cet_kernel.specs.Mapped.{AddsRegion}
use Rattle.cet_kernel.specs.Parts.{answer_of}
use Rattle.cet_kernel.proofs.Called.{called_other}

pub on_err : {T E P : Type 0} (r : Result T E) → P → OnErr r P
on_err (Ok v) p = tt
on_err (Err e) p = p

-- what is mapped is legal, and so is what there is no memory for
pub legal_if_mapped : (b : Bool) (r : Result (Unit {0}) MapError) (x : Unit {0}) → ((r ≡ Err map_errors.Illegal) ↔ (b ≡ false)) → r ≡ Ok x → b ≡ true
legal_if_mapped true r x iff e = refl
legal_if_mapped false r x iff e = let clash : Ok x ≡ Err map_errors.Illegal = sym e ∙ iff.1 refl in absurd (cc)

pub legal_if_short : (b : Bool) (r : Result (Unit {0}) MapError) → ((r ≡ Err map_errors.Illegal) ↔ (b ≡ false)) → r ≡ Err map_errors.NoMemory → b ≡ true
legal_if_short true r iff e = refl
legal_if_short false r iff e = let clash : Err map_errors.NoMemory ≡ Err map_errors.Illegal = sym e ∙ iff.1 refl in absurd (cc)

pub mapping_adds : (M : List Region) (at len : ℕ) (kind : Kind) → legal M at len ≡ true → length (unwrap_or (place M at len kind) M) ≡ length M + 1
mapping_adds M at len kind e =
    let placed = legal_is_placed M at len kind e in
    let p = placed_parts M placed.0 at len kind placed.1 in
    let lower = λ (q : Region). nat_le q.start at in
    ap (λ (o : Option (List Region)). length (unwrap_or o M)) placed.1
    ∙ ap length p.now
    ∙ length-insert M (count_by lower M) (zeros at len kind) (count_by-le-length lower M)

-- a token is written in a region that stands
same_shape_length : (M N : List Region) → SameShape M N → length N ≡ length M
same_shape_length M N e = sym (length-map N shape) ∙ ap length e ∙ length-map M shape

token_from : (M : List Region) (a word : ℕ) (o : Option (List Region)) → shadow_store M a word ≡ o → length (result_unwrap_or (ok_or o (Pf a)) M) ≡ length M
token_from M a word None e = refl
token_from M a word (Some N) e = same_shape_length M N (stored_keeps_shape is_shadow M N a (low_bytes 8 word) e)

token_keeps : (M : List Region) (top : ℕ) → length (result_unwrap_or (set_token M top) M) ≡ length M
unfolding set_token
token_keeps M top = token_from M (minus top 8) (restore_token top) (shadow_store M (minus top 8) (restore_token top)) refl

pub shadow_stack_adds : (with_one : Bool) (S : State) (at len top : ℕ) → legal S.memory at len ≡ true
    → AddsRegion S (if with_one then with_token top (with_mapping at len Shadow S) else with_mapping at len Shadow S)
shadow_stack_adds true S at len top e = token_keeps (with_mapping at len Shadow S).memory top ∙ mapping_adds S.memory at len Shadow e
shadow_stack_adds false S at len top e = mapping_adds S.memory at len Shadow e

-- the call whose number is in rax
pub called_adds : (t answer n : ℕ) (R Q : Regs) (S : State) → n ≡ value Q Rax → n ≢ 15 → n ≢ 60 → n ≢ 231 → AddsRegion S (answer_of n t answer Q S).0
    → AddsRegion S (called t answer R Q S).0
called_adds t answer n R Q S of_n not_15 not_60 not_231 adds =
    ap (λ (x : After). length x.0.memory) (called_other t answer n R Q S of_n not_15 not_60 not_231) ∙ adds
