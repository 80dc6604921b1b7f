-- How the writer builds a file: the stored bytes, the section headers and the section names grow side by side.
use Rattle.std.specs.Prelude.{◌≡◌, ℕ, List, [], ◌∷◌, ◌++◌, length, map, replicate}
use Rattle.std.specs.List.{flat_map}
use Rattle.byteorder.specs.Endian.{little_bytes}
use Rattle.cet_elf.specs.declared.entries.SymbolEntry.{SymbolEntry}
use Rattle.cet_elf.specs.declared.layout.Fields.{Fields}
use Rattle.cet_elf.specs.declared.layout.Layout.{Layout}
use Rattle.cet_elf.specs.Written.{Part, placed, section_header, ended, stored}

-- a section with these fields in its header
abbrev pub part_with : List ℕ → List ℕ → Fields → Part
part_with name content f = record {
  name = name;
  kind = f.kind;
  flags = f.flags;
  address = f.address;
  size = f.size;
  link = f.link;
  info = f.info;
  align = f.align;
  entry_size = f.entry_size;
  content = content;
}

-- the section header with these fields, of a section whose bytes stand at `place` and whose name stands at `name`
abbrev pub header_bytes : ℕ → ℕ → Fields → List ℕ
header_bytes name place f =
    little_bytes 4 name ++ (little_bytes 4 f.kind ++ (little_bytes 8 f.flags ++ (little_bytes 8 f.address ++ (little_bytes 8 place
    ++ (little_bytes 8 f.size ++ (little_bytes 4 f.link ++ (little_bytes 4 f.info ++ (little_bytes 8 f.align
    ++ little_bytes 8 f.entry_size))))))))

-- the entry of a symbol table with these fields; st_other is 0
abbrev pub entry_bytes : SymbolEntry → List ℕ
entry_bytes e =
    little_bytes 4 e.name ++ (little_bytes 1 e.info ++ (little_bytes 1 0 ++ (little_bytes 2 e.section ++ (little_bytes 8 e.value ++ little_bytes 8 e.size))))

-- the sections have been added: their bytes, their headers and their names stand at the end of each
pub record Adds (old new : Layout) (parts : List Part) : Type 0 where
  pub bytes : new.bytes.items ≡ old.bytes.items ++ stored parts
  pub headers : new.headers.items ≡ old.headers.items ++ flat_map section_header (placed (length old.bytes.items) (length old.names.items) parts)
  pub names : new.names.items ≡ old.names.items ++ flat_map ended (map (λ p. p.name) parts)

-- nothing has been added yet: room for the ELF header, the null section's header, and the zero byte of the names
pub record IsStart (new : Layout) : Type 0 where
  pub bytes : new.bytes.items ≡ replicate 64 0
  pub headers : new.headers.items ≡ replicate 64 0
  pub names : new.names.items ≡ 0 ∷ []
