-- What is known of names, section by section: this project's own.
use Rattle.std.specs.Prelude.{ℕ, List, Option}
use Rattle.std.specs.HashMap.{get_by}
use Rattle.std.specs.Str.{bytes_eq}
use Rattle.cet_syntax.specs.declared.statement.SectionName.{SectionName}
use Rattle.cet_syntax.specs.declared.statement.SectionName.TheVariants.{Text, Rodata, Data, Bss}
use Rattle.cet_asm.specs.declared.table.Table.{Table}
use Rattle.cet_asm.specs.declared.targets.Targets.{Targets}

abbrev pub by_section : {A : Type 0} → A → A → A → A → SectionName → A
by_section text rodata written zeros Text = text
by_section text rodata written zeros Rodata = rodata
by_section text rodata written zeros Data = written
by_section text rodata written zeros Bss = zeros

-- the number of a name
abbrev pub number_at : Table → List ℕ → Option ℕ
number_at table name = get_by (λ key. bytes_eq name key.now) table.numbers

abbrev pub table_at : Targets → SectionName → Table
table_at t section = by_section t.text t.rodata t.data t.bss section

-- the value of a name that is defined in a section
abbrev pub targets_at : Targets → SectionName → List ℕ → Option ℕ
targets_at t section name = number_at (table_at t section) name
