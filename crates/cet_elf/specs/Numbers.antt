-- The numbers that kept sections and symbols have in an object, as tables by their index in the file.
use Rattle.std.specs.Prelude.{◌≡◌, ℕ, ◌<◌, ◌==◌, length, slice_index_or, if◌then◌else◌, List, [], ◌∷◌, Option, Some, None}
use Rattle.cet_elf.specs.declared.symbols.Symbols.{Symbols}
use Rattle.cet_elf.specs.declared.object.Rela.{Rela}
use Rattle.cet_elf.specs.Below.{each_below}
use Rattle.cet_elf.specs.Header.{section_count}
use Rattle.cet_elf.specs.Sections.{section}
use Rattle.cet_elf.specs.ObjectSections.{section_number}
use Rattle.cet_elf.specs.ObjectRelocations.{relas_in}
use Rattle.cet_elf.specs.ObjectSymbols.{symbol_count, symbol_number, is_kept_symbol, kept_symbol}

-- how many kept sections stand before section i
abbrev pub section_numbers : List ℕ → List ℕ
section_numbers b = each_below (section_count b) (λ i. section_number b i ∷ [])

-- the number of entry k of the symbol table, where it is kept
abbrev pub number_if_kept : List ℕ → ℕ → Option ℕ
number_if_kept b k = if is_kept_symbol b k then Some (symbol_number b k) else None

abbrev pub symbol_numbers : List ℕ → List (Option ℕ)
symbol_numbers b = each_below (symbol_count b) (λ k. number_if_kept b k ∷ [])

-- the symbols of the first n entries, with the numbers of these entries
pub record AreSymbols (b : List ℕ) (n : ℕ) (s : Symbols) : Type 0 where
  pub list : s.list ≡ each_below n (kept_symbol b)
  pub numbers : s.numbers.items ≡ each_below n (λ k. number_if_kept b k ∷ [])

-- the relocations of section i that stand in the first n sections
abbrev pub relocations_below : List ℕ → ℕ → ℕ → List Rela
relocations_below b n i = each_below n (λ j. if (section b j).info == i then relas_in b j else [])

-- for each section its relocations that stand in the first n sections
pub record AreRelocations (b : List ℕ) (n : ℕ) (lists : List (List Rela)) : Type 0 where
  pub count : length lists ≡ section_count b
  pub each : (i : ℕ) → i < section_count b → slice_index_or lists i [] ≡ relocations_below b n i
