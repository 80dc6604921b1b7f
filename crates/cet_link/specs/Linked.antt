-- The executable that linking makes of its inputs and of their merged note: this project's own layout, with the gABI's segments ("Program Header").
use Rattle.std.specs.Prelude.{ℕ, ◌+◌, ◌-◌, ◌==◌, ◌&&◌, not, Bool, true, false, if◌then◌else◌, List, [], ◌∷◌, ◌++◌, map, filter, replicate, Option, None, Some}
use Rattle.std.specs.List.{filter_map}
use Rattle.cet_elf.specs.declared.object.Class.{Class}
use Rattle.cet_elf.specs.declared.object.Class.TheVariants.{Code, Read, Write}
use Rattle.cet_elf.specs.declared.object.Object.{Object}
use Rattle.cet_elf.specs.declared.object.Symbol.{Symbol}
use Rattle.cet_elf.specs.declared.object.SymbolKind.{SymbolKind}
use Rattle.cet_elf.specs.declared.object.SymbolKind.TheVariants as kinds
use Rattle.cet_elf.specs.declared.exec.Exec.{Exec}
use Rattle.cet_elf.specs.declared.exec.ExecSegment.{ExecSegment}
use Rattle.cet_elf.specs.declared.exec.ExecSymbol.{ExecSymbol}
use Rattle.cet_link.specs.Inputs.{Met, Part, symbols, parts}
use Rattle.cet_link.specs.Names.{is_local, is_undefined, definition_of, names_met}
use Rattle.cet_link.specs.Places.{is_class, start_behind, code_start, code_end, read_start, note_end, read_end, write_start, write_end}
use Rattle.cet_link.specs.Values.{own_value, value_of_name}
use Rattle.cet_link.specs.Patched.{patched}

-- ---- segments

-- the bytes of the sections of a class, from the end of what stands before them on, with zeros between
abbrev pub bytes_behind : List Object → List ℕ → Class → ℕ → List Part → List ℕ
bytes_behind inputs note class end [] = []
bytes_behind inputs note class end (p ∷ others) =
    if is_class class p.section.class
    then replicate (start_behind end p.section - end) 0 ++ (patched inputs note p ++ bytes_behind inputs note class (start_behind end p.section + p.section.size) others)
    else bytes_behind inputs note class end others

-- a class without bytes gives no segment
abbrev pub segment : ℕ → ℕ → ℕ → List ℕ → List ExecSegment
segment flags start end bytes = if end - start == 0 then [] else record { start = start; size = end - start; flags = flags; bytes = bytes } ∷ []

-- PF_R and PF_X; PF_R; PF_R and PF_W. The sections of zeros are in memory alone
unfoldable pub code_segment : List Object → List ℕ → List ExecSegment
code_segment inputs note = segment 5 code_start (code_end inputs) (bytes_behind inputs note Code code_start (parts inputs))

unfoldable pub read_segment : List Object → List ℕ → List ExecSegment
read_segment inputs note = segment 4 (read_start inputs) (read_end inputs note) (note ++ bytes_behind inputs note Read (note_end inputs note) (parts inputs))

unfoldable pub write_segment : List Object → List ℕ → List ExecSegment
write_segment inputs note = segment 6 (write_start inputs note) (write_end inputs note) (bytes_behind inputs note Write (write_start inputs note) (parts inputs))

-- ---- symbols

abbrev pub is_section : SymbolKind → Bool
is_section kinds.Section = true
is_section _ = false

abbrev pub is_empty : List ℕ → Bool
is_empty [] = true
is_empty (first ∷ others) = false

-- left out are those of sections, undefined ones, and those without a name
abbrev pub is_kept : Symbol → Bool
is_kept s = not (is_section s.kind) && not (is_undefined s.place) && not (is_empty s.name)

abbrev pub exec_symbol : List Object → List ℕ → Met → ExecSymbol
exec_symbol inputs note m = record { name = m.symbol.name; kind = m.symbol.kind; bind = m.symbol.bind; value = own_value inputs note m; size = m.symbol.size }

-- the local ones
abbrev pub locals : List Met → List Met
locals met = filter (λ m. is_local m.symbol.bind) met

-- for each name, in the order in which they are first met, the definition that counts, where there is one
unfoldable pub definitions : List Met → List Met
definitions met = filter_map (definition_of met) (names_met met)

-- the symbols of the output: the local ones by input and index, then one for each name
unfoldable pub kept_symbols : List Met → List Met
kept_symbols met = filter (λ m. is_kept m.symbol) (locals met ++ definitions met)

unfoldable pub exec_symbols : List Object → List ℕ → List ExecSymbol
exec_symbols inputs note = map (exec_symbol inputs note) (kept_symbols (symbols inputs))

-- ---- the whole

abbrev pub note_of : List ℕ → Option (List ℕ)
note_of note = if is_empty note then None else Some note

-- The executable. Its entry is the value of the definition that counts for the entry's name
unfoldable pub linked : List Object → List ℕ → List ℕ → Exec
linked inputs entry note = record {
  entry = value_of_name inputs note entry;
  segments = code_segment inputs note ++ (read_segment inputs note ++ write_segment inputs note);
  symbols = exec_symbols inputs note;
  notes = note_of note;
}
