use Rattle.std.proofs.Common.{◌≡◌, ◌+◌, ◌<◌, ◌^◌, ◌∙◌, ap, sym, subst, length, map, drop, ◌++◌, ◌∷◌, [], List, Some, All, codes, lit<, arith}
use Rattle.std.specs.Prelude.{slice_get}
use Rattle.std.specs.Vec.{vec_len}
use Rattle.std.proofs.lemmas.List.Elements.{All-cons}
use Rattle.cet_elf.specs.ObjectSymbols.{null_symbol}
use Rattle.cet_elf.specs.Regular.{FitsTypes, RelaFits, SymbolFits}
use Rattle.cet_elf.specs.Layout.{Adds}
use Rattle.cet_elf.specs.Written.{written, object_header, section_part, rela_parts, symbol_part, symbol_names, string_part, symtab_number}
use Rattle.cet_elf.specs.ObjectFile.{IsObjectFile}
use Rattle.cet_elf.proofs.ReadBack.{reads_back}
use Rattle.cet_elf.proofs.WholeFile.{laid_out, whole_file}
use Rattle.cet_elf.proofs.writing.write_object.Goals as goal

pub returns-clause-bytes : goal.returns-clause-bytes
returns-clause-bytes c =
    let o = c.args.object.now in
    let start = c.in_ok-layout.layout in
    let one = c.add_sections.new.layout in
    let two = c.add_note.new.layout in
    let three = c.add_relas.new.layout in
    let four = c.add_symbols.new.layout in
    let five = c.add_names.new.layout in
    let symtab = c.symtab_number-symtab.result in
    let first = subst (λ s. Adds start one (map section_part s)) c.as_slice-sections.ensures c.in_ok-add_sections.ensures.parts in
    let third = subst (λ s. Adds two three (rela_parts (symtab_number o) s)) c.as_slice-sections.ensures
    (subst (λ n. Adds two three (rela_parts n c.as_slice-sections.result.now)) c.symtab_number-symtab.ensures c.in_ok-add_relas.ensures.parts) in
    let fourth = subst (λ s. Adds three four (symbol_part (symtab_number o) s ∷ string_part (codes ".strtab") (symbol_names s) ∷ [])) c.as_slice.ensures
    (subst (λ n. Adds three four (symbol_part n c.as_slice.result.now ∷ string_part (codes ".strtab") (symbol_names c.as_slice.result.now) ∷ [])) c.symtab_number-symtab.ensures c.in_ok-add_symbols.ensures.parts) in
    let all = laid_out o start one two three four five c.in_ok-layout.ensures first c.in_ok-add_note.ensures third fourth c.in_ok-add_names.ensures in
    whole_file o start five _ (symtab + 3) c.in_ok-layout.ensures all (ap (λ n. n + 3) c.symtab_number-symtab.ensures)
    (c.in_ok-file.ensures ∙ ap (λ h. object_header (vec_len five.bytes) (symtab + 3) ++ (drop 64 five.bytes.items ++ h)) c.deref.ensures.value)

-- a list, of whose first item and of whose others P holds
all_of : {A : Type 0} (P : A → Type 0) (xs : List A) (x : A) → slice_get xs 0 ≡ Some x → P x → All P (drop 1 xs) → All P xs
all_of P [] x first here others = λ k d below. absurd (omega arith)
all_of P (y ∷ xs) x first here others = All-cons P y xs (subst P (cc) here) others

pub returns-clause-read_back : goal.returns-clause-read_back
returns-clause-read_back c =
    let o = c.args.object.now in
    let sections = subst (All (λ s. s.size < 2 ^ 64)) c.as_slice-sections.ensures c.in_ok-add_sections.ensures.fit in
    let relocations = subst (All (λ s. All RelaFits s.relocations)) c.as_slice-sections.ensures c.in_ok-add_relas.ensures.fit in
    let others = subst (λ s. All SymbolFits (drop 1 s)) c.as_slice.ensures c.in_ok-add_symbols.ensures.fit in
    let fits : FitsTypes o = record { sections = sections; relocations = relocations; symbols = all_of SymbolFits o.symbols null_symbol c.requires.null_first (lit< tt, lit< tt) others } in
    let file = c.in_ok-file.file in
    let is : file.items ≡ written o = returns-clause-bytes c in
    let short : length (written o) < 2 ^ 64 = omega (arith, file.ok.0, file.ok.1, file.small, ap length is) in
    subst (λ b. IsObjectFile b o) (sym is) (reads_back o c.requires fits short)
