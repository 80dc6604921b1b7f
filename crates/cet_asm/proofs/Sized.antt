-- The bytes of sections, with a statement more.
use Rattle.std.proofs.Common.{◌≡◌, ℕ, ◌+◌, arith, Bool, true, false, cond, List, [], ◌∷◌, ◌++◌, refl, ap, sym, ◌∙◌}
use Rattle.std.specs.List.{sum_by}
use Rattle.std.proofs.lemmas.List.Sums.{sum_by-cons}
use Rattle.cet_syntax.specs.declared.statement.SectionName.{SectionName}
use Rattle.cet_syntax.specs.declared.statement.SectionName.TheVariants.{Text, Rodata, Data, Bss}
use Rattle.cet_syntax.specs.declared.statement.Directive.TheVariants as directive
use Rattle.cet_syntax.specs.declared.statement.Statement.{Statement}
use Rattle.cet_syntax.specs.declared.statement.Statement.TheVariants as statement
use Rattle.cet_asm.specs.declared.placed.Placed.{Placed}
use Rattle.cet_asm.specs.declared.placed.Step.{Step}
use Rattle.cet_asm.specs.declared.placed.Step.TheVariants.{Label, States}
use Rattle.cet_asm.specs.declared.assembly.Assembly.{Assembly}
use Rattle.cet_asm.specs.Emitted.{size_of}
use Rattle.cet_asm.specs.Assembled.{State, after, grown, same_section, section_size, step_size}
use Rattle.cet_asm.specs.Placing.{AreSizes, placed_here, state_of, takes_bytes}
use Rattle.cet_asm.proofs.Cursors.{after-grown}
use Rattle.cet_asm.proofs.Growing.{sum_split}

same_section-comm : (a b : SectionName) → same_section a b ≡ same_section b a
same_section-comm Text Text = refl
same_section-comm Text Rodata = refl
same_section-comm Text Data = refl
same_section-comm Text Bss = refl
same_section-comm Rodata Text = refl
same_section-comm Rodata Rodata = refl
same_section-comm Rodata Data = refl
same_section-comm Rodata Bss = refl
same_section-comm Data Text = refl
same_section-comm Data Rodata = refl
same_section-comm Data Data = refl
same_section-comm Data Bss = refl
same_section-comm Bss Text = refl
same_section-comm Bss Rodata = refl
same_section-comm Bss Data = refl
same_section-comm Bss Bss = refl

-- a statement alone, in its section and in the others
section_size-alone : (section : SectionName) (p : Placed) → section_size section (p ∷ []) ≡ cond (same_section section p.spot.section) (step_size p) 0
section_size-alone section p = rw (same_section-comm section p.spot.section) (by_test (same_section p.spot.section section)) where
  by_test : (b : Bool) → sum_by step_size (cond b (p ∷ []) []) ≡ cond b (step_size p) 0
  by_test true = omega (arith, sum_by-cons step_size p [])
  by_test false = refl

section_size-one : (section : SectionName) (before : List Placed) (p : Placed) → section_size section (before ++ p ∷ []) ≡ section_size section before + section_size section (p ∷ [])
section_size-one section [] p = omega arith
section_size-one section (q ∷ before) p =
    let here : Placed → Bool = λ r. same_section r.spot.section section in
    omega (arith, sum_split step_size here q (before ++ p ∷ []), sum_split step_size here q before, section_size-one section before p)

-- a statement that takes bytes
grown-sizes : (s : State) (line : ℕ) (st : Statement) (section : SectionName)
    → (grown s (size_of (s.sizes s.section) st)).sizes section ≡ s.sizes section + section_size section (placed_here s line (States st) ∷ [])
grown-sizes s line st section = rw (section_size-alone section (placed_here s line (States st))) (by_test (same_section section s.section)) where
  by_test : (b : Bool) → cond b (s.sizes section + size_of (s.sizes s.section) st) (s.sizes section) ≡ s.sizes section + cond b (size_of (s.sizes s.section) st) 0
  by_test true = refl
  by_test false = omega arith

-- a step that takes none
same-sizes : (s : State) (line : ℕ) (step : Step) (section : SectionName) → step_size (placed_here s line step) ≡ 0 → s.sizes section ≡ s.sizes section + section_size section (placed_here s line step ∷ [])
same-sizes s line step section none = rw (section_size-alone section (placed_here s line step), none) (by_test (same_section section s.section)) where
  by_test : (b : Bool) → s.sizes section ≡ s.sizes section + cond b 0 0
  by_test true = omega arith
  by_test false = omega arith

after-sizes : (s : State) (line : ℕ) (step : Step) (section : SectionName) → (after s step).sizes section ≡ s.sizes section + section_size section (placed_here s line step ∷ [])
after-sizes s line (Label name) section = same-sizes s line (Label name) section refl
after-sizes s line (States st) section = by_bytes (takes_bytes st) refl where
  by_bytes : (b : Bool) → takes_bytes st ≡ b → (after s (States st)).sizes section ≡ s.sizes section + section_size section (placed_here s line (States st) ∷ [])
  by_bytes true takes = ap (λ (t : State). t.sizes section) (after-grown s st takes) ∙ grown-sizes s line st section
  by_bytes false none = no_bytes st none where
    no_bytes : (t : Statement) → takes_bytes t ≡ false → (after s (States t)).sizes section ≡ s.sizes section + section_size section (placed_here s line (States t) ∷ [])
    no_bytes (statement.Directive (directive.Section name)) e = same-sizes s line (States (statement.Directive (directive.Section name))) section refl
    no_bytes (statement.Directive (directive.Func name)) e = same-sizes s line (States (statement.Directive (directive.Func name))) section refl
    no_bytes (statement.Directive directive.End) e = same-sizes s line (States (statement.Directive directive.End)) section refl
    no_bytes (statement.Directive d) e = absurd cc
    no_bytes (statement.Code c) e = absurd cc
    no_bytes (statement.Site t) e = absurd cc

-- behind the next statement the sections have the bytes of all
pub AreSizes-next : (old new : Assembly) (line : ℕ) (step : Step) → AreSizes old.cursor.sizes old.placed.items → new.placed.items ≡ old.placed.items ++ placed_here (state_of old.cursor) line step ∷ []
    → state_of new.cursor ≡ after (state_of old.cursor) step → AreSizes new.cursor.sizes new.placed.items
AreSizes-next old new line step sized items state section =
    let p = placed_here (state_of old.cursor) line step in
    ap (λ (s : State). s.sizes section) state
    ∙ (after-sizes (state_of old.cursor) line step section
    ∙ (ap (λ n. n + section_size section (p ∷ [])) (sized section) ∙ (sym (section_size-one section old.placed.items p) ∙ ap (section_size section) (sym items))))
