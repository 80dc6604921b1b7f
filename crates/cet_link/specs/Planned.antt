-- What is known of inputs without a fault before their executable is made: this project's own.
use Rattle.std.specs.Prelude.{◌≡◌, ℕ, true, List, [], ◌++◌, map, Some}
use Rattle.cet_elf.specs.declared.object.Object.{Object}
use Rattle.cet_link.specs.declared.error.LinkError.{LinkError}
use Rattle.cet_link.specs.declared.check.Resolved.{Resolved}
use Rattle.cet_link.specs.declared.check.Measured.{Measured}
use Rattle.cet_link.specs.declared.check.Plan.{Plan}
use Rattle.cet_link.specs.Inputs.{symbols}
use Rattle.cet_link.specs.Names.{definition_of}
use Rattle.cet_link.specs.Linked.{kept_symbols}
use Rattle.cet_link.specs.Notes.{IsMergedNote}
use Rattle.cet_link.specs.Faults.{input_faults, undefined_faults, entry_faults, classes_fit, faults}
use Rattle.cet_link.specs.Known.{met_of, AreNames}
use Rattle.cet_link.specs.Laid.{IsFrame, AreTables}

-- the faults of names
abbrev pub name_faults : List Object → List ℕ → List LinkError
name_faults inputs entry = input_faults [] 0 inputs ++ (undefined_faults (symbols inputs) (symbols inputs) ++ entry_faults (symbols inputs) entry)

-- the names of the inputs, and the definition of the entry
pub record IsResolved (inputs : List Object) (entry : List ℕ) (r : Resolved) : Type 0 where
  pub names : AreNames (symbols inputs) r.names
  pub entry_point : definition_of (symbols inputs) entry ≡ Some (met_of r.entry)

-- where the classes start and end, which is within the limits, and the symbols of the output
pub record IsMeasured (inputs : List Object) (note : List ℕ) (m : Measured) : Type 0 where
  pub fit : classes_fit inputs note ≡ true
  pub frame : IsFrame inputs note m.frame
  pub kept : map met_of m.kept.items ≡ kept_symbols (symbols inputs)

-- all that the executable is made of
pub record IsPlan (inputs : List Object) (entry : List ℕ) (p : Plan) : Type 0 where
  pub merged : IsMergedNote inputs p.note.items
  pub sound : faults inputs entry p.note.items ≡ []
  pub resolved : IsResolved inputs entry p.resolved
  pub measured : IsMeasured inputs p.note.items p.measured
  pub tables : AreTables inputs p.note.items p.tables
