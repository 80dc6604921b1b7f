-- What is read as an executable: no segment stores more bytes than it has.
use Rattle.std.proofs.Common.{◌≡◌, ℕ, zero, suc, ◌+◌, ◌≤◌, Bool, true, false, ◌&&◌, cond, leb, ltb, leb-true, List, [], ◌∷◌, ◌++◌, length, drop, All, refl, sym, subst, arith}
use Rattle.std.proofs.lemmas.List.{length-take}
use Rattle.std.proofs.lemmas.List.Elements.{All-nil, All-cons, All-append}
use Rattle.cet_elf.specs.declared.error.ElfError.TheVariants.{Bounds}
use Rattle.cet_elf.specs.declared.exec.Exec.{Exec}
use Rattle.cet_elf.specs.declared.exec.ExecSegment.{ExecSegment}
use Rattle.cet_elf.specs.Below.{each_below}
use Rattle.cet_elf.specs.Faults.{broken}
use Rattle.cet_elf.specs.Header.{program_count, header_faults}
use Rattle.cet_elf.specs.Sections.{sections_faults}
use Rattle.cet_elf.proofs.FaultLemmas.{true-broken}
use Rattle.cet_elf.proofs.TableLemmas.{none-front, none-back}
use Rattle.cet_exec.specs.declared.programs.ProgramHeader.{ProgramHeader}
use Rattle.cet_exec.specs.Programs.{program, program_place, is_load, is_segment, is_stored, load_faults, program_faults, programs_faults, segment_of, segment_at, segments_of}
use Rattle.cet_exec.specs.ExecSymbols.{symbols_faults}
use Rattle.cet_exec.specs.ExecFile.{exec_faults, exec_of, IsExecFile}

abbrev Fits : ExecSegment → Type 0
Fits s = length s.bytes ≤ s.size

load_fits : (b : List ℕ) (at : ℕ) (p : ProgramHeader) → load_faults b at p ≡ [] → Fits (segment_of b p)
unfolding segment_of
load_fits b at p h =
    let test : leb p.stored_size p.size ≡ true = true-broken (leb p.stored_size p.size) (Bounds (at + 32)) (none-front (broken (leb p.stored_size p.size) (Bounds (at + 32))) (broken (is_stored b p) (Bounds (at + 8))) h) in
    let order : p.stored_size ≤ p.size = leb-true p.stored_size p.size test in
    omega (arith, length-take p.stored_size (drop p.offset b))

is_load-segment : (load some : Bool) → load && some ≡ true → load ≡ true
is_load-segment true some h = refl
is_load-segment false some h = absurd cc

segment_fits : (b : List ℕ) (i : ℕ) → program_faults b i ≡ [] → is_segment (program b i) ≡ true → Fits (segment_of b (program b i))
unfolding program_faults
segment_fits b i h segment =
    let load : is_load (program b i) ≡ true = is_load-segment (is_load (program b i)) (ltb 0 (program b i).size) segment in
    let is : load_faults b (program_place b i) (program b i) ≡ [] = rw load at h in
    load_fits b (program_place b i) (program b i) is

one_fits : (b : List ℕ) (i : ℕ) (segment : Bool) → is_segment (program b i) ≡ segment → program_faults b i ≡ [] → All Fits (cond segment (segment_of b (program b i) ∷ []) [])
one_fits b i true is h = All-cons Fits _ [] (segment_fits b i h is) (All-nil Fits)
one_fits b i false is h = All-nil Fits

all_fit : (n : ℕ) (b : List ℕ) → each_below n (program_faults b) ≡ [] → All Fits (each_below n (segment_at b))
all_fit zero b h = All-nil Fits
all_fit (suc n) b h =
    All-append Fits (each_below n (segment_at b)) (segment_at b n) (all_fit n b (none-front (each_below n (program_faults b)) (program_faults b n) h))
    (one_fits b n (is_segment (program b n)) refl (none-back (each_below n (program_faults b)) (program_faults b n) h))

segments_fit : (b : List ℕ) → programs_faults b ≡ [] → All Fits (segments_of b)
unfolding programs_faults segments_of
segments_fit b h = all_fit (program_count b) b h

exec_segments : (b : List ℕ) → (exec_of b).segments ≡ segments_of b
unfolding exec_of
exec_segments b = refl

no_program_fault : (b : List ℕ) → exec_faults b ≡ [] → programs_faults b ≡ []
unfolding exec_faults
no_program_fault b h =
    none-back (header_faults 2 b ++ sections_faults b) (programs_faults b) (none-front (header_faults 2 b ++ sections_faults b ++ programs_faults b) (symbols_faults b) h)

pub exec_fits : (b : List ℕ) (e : Exec) → IsExecFile b e → All Fits e.segments
exec_fits b e is =
    let fit : All Fits (exec_of b).segments = subst (λ (s : List ExecSegment). All Fits s) (sym (exec_segments b)) (segments_fit b (no_program_fault b is.no_fault)) in
    subst (λ (x : Exec). All Fits x.segments) (sym is.is_exec) fit
