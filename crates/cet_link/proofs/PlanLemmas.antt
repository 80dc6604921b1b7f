-- The faults of a link, step by step.
use Rattle.std.proofs.Common.{◌≡◌, ◌≢◌, ℕ, ◌+◌, Bool, true, false, ◌&&◌, ◌||◌, not, List, [], ◌∷◌, ◌++◌, All, refl, sym, ap, subst, ◌∙◌, append_assoc, inr}
use Rattle.std.specs.List.{list_any}
use Rattle.std.proofs.lemmas.List.Elements.{All-nil, All-cons}
use Rattle.cet_elf.specs.declared.object.Class.TheVariants.{Group}
use Rattle.cet_elf.specs.declared.object.Object.{Object}
use Rattle.cet_elf.specs.declared.object.Section.{Section}
use Rattle.cet_link.specs.declared.error.LinkError.{LinkError}
use Rattle.cet_link.specs.declared.error.LinkError.TheVariants as errors
use Rattle.cet_link.specs.First.{where_true, IsFirst}
use Rattle.cet_link.specs.Inputs.{Met, symbols_of, symbols, parts}
use Rattle.cet_link.specs.Places.{is_class}
use Rattle.cet_link.specs.Notes.{IsMergedNote}
use Rattle.cet_link.specs.Faults.{group_faults, symbol_faults, input_faults, undefined_faults, entry_faults, size_faults, overflow_faults, faults}
use Rattle.cet_link.specs.Laid.{NoGroups}
use Rattle.cet_link.specs.Links.{IsLinkFault}
use Rattle.cet_link.specs.Planned.{name_faults}
use Rattle.cet_link.proofs.FaultLemmas.{IsFirst-front, IsFirst-back, none-append, none-front, none-back}

true-where : (test : Bool) (e : LinkError) → where_true test e ≡ [] → test ≡ false
true-where true e h = absurd cc
true-where false e h = refl

no_group : (ss : List Section) → list_any (λ (s : Section). is_class Group s.class) ss ≡ false → All (λ (s : Section). is_class Group s.class ≡ false) ss
no_group [] h = All-nil _
no_group (s ∷ ss) h = All-cons (λ (t : Section). is_class Group t.class ≡ false) s ss (front (is_class Group s.class) _ h) (no_group ss (back (is_class Group s.class) _ h)) where
  front : (a b : Bool) → a || b ≡ false → a ≡ false
  front false b e = refl
  front true b e = absurd cc

  back : (a b : Bool) → a || b ≡ false → b ≡ false
  back false b e = e
  back true b e = absurd cc

-- inputs without a fault have no group
NoGroups-behind : (before : List Met) (n : ℕ) (os : List Object) → input_faults before n os ≡ [] → NoGroups os
NoGroups-behind before n [] h = All-nil _
NoGroups-behind before n (o ∷ os) h =
    let mine = group_faults n o ++ symbol_faults before (symbols_of n o) in
    let here = none-front (group_faults n o) (symbol_faults before (symbols_of n o)) (none-front mine _ h) in
    All-cons (λ (p : Object). All (λ (s : Section). is_class Group s.class ≡ false) p.sections) o os
    (no_group o.sections (true-where _ (errors.Group n) here))
    (NoGroups-behind (before ++ symbols_of n o) (n + 1) os (none-back mine _ h))

pub NoGroups-sound : (os : List Object) → input_faults [] 0 os ≡ [] → NoGroups os
NoGroups-sound os h = NoGroups-behind [] 0 os h

-- ---- the faults in their order

pub faults-parts : (inputs : List Object) (entry note : List ℕ) → faults inputs entry note ≡ name_faults inputs entry ++ (size_faults inputs note ++ overflow_faults inputs note (parts inputs))
unfolding faults
faults-parts inputs entry note =
    let rest = size_faults inputs note ++ overflow_faults inputs note (parts inputs) in
    let undefined = undefined_faults (symbols inputs) (symbols inputs) in
    let entries = entry_faults (symbols inputs) entry in
    ap (λ zs. input_faults [] 0 inputs ++ zs) (sym (append_assoc undefined entries rest)) ∙ sym (append_assoc (input_faults [] 0 inputs) (undefined ++ entries) rest)

pub first_name : (e : LinkError) (inputs : List Object) (entry note : List ℕ) → IsFirst e (name_faults inputs entry) → IsFirst e (faults inputs entry note)
first_name e inputs entry note h = subst (IsFirst e) (sym (faults-parts inputs entry note)) (IsFirst-front e (name_faults inputs entry) _ h)

pub first_size : (e : LinkError) (inputs : List Object) (entry note : List ℕ) → name_faults inputs entry ≡ [] → IsFirst e (size_faults inputs note) → IsFirst e (faults inputs entry note)
first_size e inputs entry note none h =
    subst (IsFirst e) (sym (faults-parts inputs entry note)) (IsFirst-back e (name_faults inputs entry) _ none (IsFirst-front e (size_faults inputs note) _ h))

pub first_overflow : (e : LinkError) (inputs : List Object) (entry note : List ℕ) → name_faults inputs entry ≡ [] → size_faults inputs note ≡ [] → IsFirst e (overflow_faults inputs note (parts inputs))
    → IsFirst e (faults inputs entry note)
first_overflow e inputs entry note none fit h =
    subst (IsFirst e) (sym (faults-parts inputs entry note)) (IsFirst-back e (name_faults inputs entry) _ none (IsFirst-back e (size_faults inputs note) _ fit h))

pub no_fault : (inputs : List Object) (entry note : List ℕ) → name_faults inputs entry ≡ [] → size_faults inputs note ≡ [] → overflow_faults inputs note (parts inputs) ≡ [] → faults inputs entry note ≡ []
no_fault inputs entry note none fit h = faults-parts inputs entry note ∙ none-append (name_faults inputs entry) _ none (none-append (size_faults inputs note) _ fit h)

-- a first fault is the one that is refused
pub refused : (e : LinkError) (inputs : List Object) (entry note : List ℕ) → IsMergedNote inputs note → IsFirst e (faults inputs entry note) → e ≢ errors.NoMemory → IsLinkFault inputs entry e
refused e inputs entry note merged h ne = inr (note, merged, h.first ne)

-- ---- sizes

pub size_first : (a b : Bool) → a && b ≡ false → IsFirst errors.TooLarge (where_true (not (a && b)) errors.TooLarge)
size_first a b h = rw h (record { first = λ _. refl })

pub size_none : (a b : Bool) → a ≡ true → b ≡ true → where_true (not (a && b)) errors.TooLarge ≡ []
size_none a b h k = rw (h, k) refl
