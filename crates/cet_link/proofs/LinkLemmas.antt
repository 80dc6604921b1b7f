-- The executable from its parts.
use Rattle.std.proofs.Common.{◌≡◌, ◌≢◌, ℕ, List, ◌++◌, map, Option, Result, Ok, Err, IfOk, IfErr, ◌⊎◌, inl, inr, ⊎_elim, refl, ap, ◌∙◌}
use Rattle.cet_elf.specs.declared.exec.Exec.{Exec}
use Rattle.cet_elf.specs.declared.exec.ExecSegment.{ExecSegment}
use Rattle.cet_elf.specs.declared.exec.ExecSymbol.{ExecSymbol}
use Rattle.cet_elf.specs.declared.object.Object.{Object}
use Rattle.cet_link.specs.declared.error.LinkError.{LinkError}
use Rattle.cet_link.specs.declared.error.LinkError.TheVariants as errors
use Rattle.cet_link.specs.Inputs.{symbols}
use Rattle.cet_link.specs.Links.{IsLinked, IsLinkFault, Refuses, Links}
use Rattle.cet_link.proofs.UniqueLemmas.{one_fault, not_both}
use Rattle.cet_link.specs.Linked.{code_segment, read_segment, write_segment, exec_symbol, exec_symbols, kept_symbols, note_of, linked}
use Rattle.cet_link.specs.Values.{value_of_name}

pub exec_symbols-is : (inputs : List Object) (note : List ℕ) → map (exec_symbol inputs note) (kept_symbols (symbols inputs)) ≡ exec_symbols inputs note
unfolding exec_symbols
exec_symbols-is inputs note = refl

abbrev made : ℕ → List ExecSegment → List ExecSymbol → Option (List ℕ) → Exec
made entry segments syms notes = record { entry = entry; segments = segments; symbols = syms; notes = notes }

pub linked-is : (inputs : List Object) (entry note : List ℕ) (at : ℕ) (segments : List ExecSegment) (syms : List ExecSymbol) (notes : Option (List ℕ)) → at ≡ value_of_name inputs note entry
    → segments ≡ code_segment inputs note ++ (read_segment inputs note ++ write_segment inputs note) → syms ≡ exec_symbols inputs note → notes ≡ note_of note
    → made at segments syms notes ≡ linked inputs entry note
unfolding linked
linked-is inputs entry note at segments syms notes ha hs hy hn =
    ap (λ x. made x segments syms notes) ha ∙ ap (λ x. made (value_of_name inputs note entry) x syms notes) hs
    ∙ ap (λ x. made (value_of_name inputs note entry) (code_segment inputs note ++ (read_segment inputs note ++ write_segment inputs note)) x notes) hy
    ∙ ap (λ x. made (value_of_name inputs note entry) (code_segment inputs note ++ (read_segment inputs note ++ write_segment inputs note)) (exec_symbols inputs note) x) hn

-- a call that gives the executable, or refuses a fault, refuses where there is one
pub Refuses-linked : (inputs : List Object) (entry : List ℕ) (r : Result Exec LinkError) → IfOk r (IsLinked inputs entry) → IfErr r (λ f. f ≢ errors.NoMemory → IsLinkFault inputs entry f)
    → Refuses inputs entry r
Refuses-linked inputs entry (Ok exec) ok err = λ e k. not_both inputs entry exec e ok k
Refuses-linked inputs entry (Err f) ok err = λ e k ne. one_fault inputs entry f e (err ne) k

memory_or_fault : (f : LinkError) → (f ≡ errors.NoMemory) ⊎ (f ≢ errors.NoMemory)
memory_or_fault errors.NoMemory = inl refl
memory_or_fault _ = inr (λ e. cc)

-- and it refuses nothing where there is an executable
pub Links-linked : (inputs : List Object) (entry : List ℕ) (r : Result Exec LinkError) → IfErr r (λ f. f ≢ errors.NoMemory → IsLinkFault inputs entry f) → Links inputs entry r
Links-linked inputs entry (Ok made) err = λ exec k. tt
Links-linked inputs entry (Err f) err = λ exec k.
    ⊎_elim (λ (e : f ≡ errors.NoMemory). e) (λ (ne : f ≢ errors.NoMemory). absurd (not_both inputs entry exec f k (err ne))) (memory_or_fault f)
