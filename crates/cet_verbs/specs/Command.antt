-- The commands, and the files that each names.
use Rattle.std.specs.Prelude.{ℕ, Bool, List, [], ◌∷◌, ◌++◌, Contains, Option, Some, None, ⊤}

pub data Command : Type 0 where
  -- certify the raw code that the file of this name holds
  CheckRaw : (file : List ℕ) → Command
  -- make the file `out` the object of the assembly text that the other file holds
  Asm : (out file : List ℕ) → Command
  -- list the raw code that the file of this name holds
  Dis : (file : List ℕ) → Command
  -- print the property notes that the files of these names hold, and what a link of them may claim
  Notes : (files : List (List ℕ)) → Command
  -- run the program that the file holds, raw code or an executable: by the schedule of one file, on the input that another holds, if they are given,
  -- and for this many events at most
  Run : (raw : Bool) (schedule input : Option (List ℕ)) (limit : ℕ) (file : List ℕ) → Command
  -- make the file `out` the executable, started at the symbol `start`, of the objects that the other files hold
  Link : (out start : List ℕ) (files : List (List ℕ)) → Command

-- the file of an option, if it is given
abbrev pub option_file : Option (List ℕ) → List (List ℕ)
option_file None = []
option_file (Some file) = file ∷ []

-- the files that the command reads, in the order of the reads
abbrev pub files_of : Command → List (List ℕ)
files_of (CheckRaw file) = file ∷ []
files_of (Asm out file) = file ∷ []
files_of (Dis file) = file ∷ []
files_of (Notes files) = files
files_of (Link out start files) = files
files_of (Run raw schedule input limit file) = option_file schedule ++ (option_file input ++ file ∷ [])

-- the files that it replaces
abbrev pub replaced_by : Command → List (List ℕ)
replaced_by (Asm out file) = out ∷ []
replaced_by (Link out start files) = out ∷ []
replaced_by command = []

-- the command reads this file
abbrev pub Names : Command → List ℕ → Type 0
Names command name = Contains (files_of command) name

-- the command runs nothing
abbrev pub RunsNothing : Command → Type 0
RunsNothing (Run raw schedule input limit file) = ⊥
RunsNothing command = ⊤
