-- Inputs have one answer.
use Rattle.std.proofs.Common.{◌≡◌, ◌≢◌, ℕ, List, [], Some, Result, Ok, Err, IfOk, IfErr, refl, inl, inr, sym, ap, ◌∙◌}
use Rattle.cet_note.specs.Form.{written}
use Rattle.cet_note.proofs.OneMergeLemmas.{one_merge}
use Rattle.cet_elf.specs.declared.object.Object.{Object}
use Rattle.cet_link.specs.declared.error.LinkError.{LinkError}
use Rattle.cet_link.specs.declared.error.LinkError.TheVariants as errors
use Rattle.cet_link.specs.First.{first}
use Rattle.cet_link.specs.Notes.{notes, note_faults, IsMergedNote}
use Rattle.cet_link.specs.Faults.{faults}
use Rattle.cet_link.specs.Linked.{linked}
use Rattle.cet_link.specs.Links.{IsLinkFault, Refuses, OneExecutable, OneFault, NotBoth}
use Rattle.cet_link.specs.declared.check.Plan.{Plan}
use Rattle.cet_link.specs.Planned.{IsPlan}

one_note : (inputs : List Object) (a b : List ℕ) → IsMergedNote inputs a → IsMergedNote inputs b → a ≡ b
one_note inputs a b (x, m, p, s) (y, n, q, t) = s ∙ ap written (one_merge (notes inputs) m n p q) ∙ sym t

same_first : (xs ys : List LinkError) (a b : LinkError) → xs ≡ ys → first xs ≡ Some a → first ys ≡ Some b → a ≡ b
same_first xs ys a b e h k = cc

none_first : (xs : List LinkError) (a : LinkError) → xs ≡ [] → first xs ≡ Some a → ⊥
none_first xs a e h = let h' : first [] ≡ Some a = rw e at h in cc

pub one_executable : OneExecutable
one_executable inputs entry a b (m, h, f, s) (n, k, g, t) = s ∙ ap (linked inputs entry) (one_note inputs m n h k) ∙ sym t

pub one_fault : OneFault
one_fault inputs entry a b (inl h) (inl k) = same_first (note_faults inputs) (note_faults inputs) a b refl h k
one_fault inputs entry a b (inl h) (inr (n, k, g)) = absurd (none_first (note_faults inputs) a k.0 h)
one_fault inputs entry a b (inr (m, h, f)) (inl k) = absurd (none_first (note_faults inputs) b h.0 k)
one_fault inputs entry a b (inr (m, h, f)) (inr (n, k, g)) = same_first (faults inputs entry m) (faults inputs entry n) a b (ap (faults inputs entry) (one_note inputs m n h k)) f g

-- inputs without a fault for their merged note have none
pub sound_only : (inputs : List Object) (entry note : List ℕ) (e : LinkError) → IsMergedNote inputs note → faults inputs entry note ≡ [] → IsLinkFault inputs entry e → ⊥
sound_only inputs entry note e h f (inl k) = none_first (note_faults inputs) e h.0 k
sound_only inputs entry note e h f (inr (n, k, g)) = none_first (faults inputs entry n) e (sym (ap (faults inputs entry) (one_note inputs note n h k)) ∙ f) g

pub not_both : NotBoth
not_both inputs entry exec e (m, h, f, s) k = sound_only inputs entry m e h f k

-- a call that gives a plan, or refuses a fault, refuses where there is one
pub Refuses-from : (inputs : List Object) (entry : List ℕ) (r : Result Plan LinkError) → IfOk r (IsPlan inputs entry) → IfErr r (λ f. f ≢ errors.NoMemory → IsLinkFault inputs entry f) → Refuses inputs entry r
Refuses-from inputs entry (Ok p) ok err = λ e k. sound_only inputs entry p.note.items e ok.merged ok.sound k
Refuses-from inputs entry (Err f) ok err = λ e k ne. one_fault inputs entry f e (err ne) k
