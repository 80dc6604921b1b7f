-- What is known of the tables of a file whose header has no fault.
use Rattle.std.proofs.Common.{◌≡◌, ℕ, ◌+◌, ◌*◌, ◌≤◌, ◌<◌, Bool, true, false, leb, eqb, ◌||◌, List, [], ◌∷◌, ◌++◌, length, refl, arith}
use Rattle.std.proofs.lemmas.Bool.{leb-true, eqb-true}
use Rattle.cet_elf.specs.declared.error.ElfError.{ElfError}
use Rattle.cet_elf.specs.declared.error.ElfError.TheVariants.{Bounds, TooMany}
use Rattle.cet_elf.specs.Fields.{is_part}
use Rattle.cet_elf.specs.Faults.{broken}
use Rattle.cet_elf.specs.Header.{section_count, section_table, program_table, program_count, table_faults, HasSectionTable}
use Rattle.cet_elf.proofs.FaultLemmas.{true-broken}

pub none-front : (xs ys : List ElfError) → xs ++ ys ≡ [] → xs ≡ []
none-front [] ys h = refl
none-front (x ∷ xs) ys h = absurd cc

pub none-back : (xs ys : List ElfError) → xs ++ ys ≡ [] → ys ≡ []
none-back [] ys h = h
none-back (x ∷ xs) ys h = absurd cc

pub part-end : (b : List ℕ) (at size : ℕ) → 0 < size → is_part b at size ≡ true → at + size ≤ length b
part-end b at size some h = go (eqb size 0) (leb (at + size) (length b)) refl refl h
  where
    go : (p q : Bool) → eqb size 0 ≡ p → leb (at + size) (length b) ≡ q → p || q ≡ true → at + size ≤ length b
    go true q e f g = let z = eqb-true size 0 e in omega arith
    go false q e f g = leb-true _ _ (cc)

pub HasSectionTable-from : (b : List ℕ) → 64 ≤ length b → table_faults b ≡ [] → HasSectionTable b
unfolding table_faults
HasSectionTable-from b long h =
    let few_f = broken (leb (section_count b) 4096) (TooMany 60) in
    let sections_f = broken (is_part b (section_table b) (64 * section_count b)) (Bounds 40) in
    let programs_f = broken (is_part b (program_table b) (56 * program_count b)) (Bounds 32) in
    let two = none-front (few_f ++ sections_f) programs_f h in
    let few = leb-true _ _ (true-broken _ _ (none-front few_f sections_f two)) in
    let inside = true-broken _ _ (none-back few_f sections_f two) in
    record {
      long = long;
      few = few;
      inside = λ i lt. let e = part-end b (section_table b) (64 * section_count b) (omega arith) inside in omega arith;
    }

pub ruleset table_known = (HasSectionTable-from)
