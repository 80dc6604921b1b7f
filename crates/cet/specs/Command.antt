-- Which words ask for which command. A word is the bytes of its text.
use Rattle.std.specs.Prelude.{◌≡◌, ℕ, IsTrue, ◌↔◌, List, map, Some, String, codes}
use Rattle.std.specs.String.{string_bytes}
use Rattle.std.specs.Global.{Global}
use Rattle.cet_verbs.specs.Command.{Command, CheckRaw, Asm, Dis, Notes, Run, Link}
use Rattle.cet.specs.Words.{check_app, run_app, link_app, asm_app, dis_app, notes_app, AreTaken, IsGiven, IsNumberIn, IsPlain, value_in, values_in}

-- the words, the verb first, ask for the command: the command of its verb takes them, and finds its values in them
abbrev pub Asks : List (List ℕ) → Command → Type 0
Asks words (CheckRaw file) =
    AreTaken check_app words × IsGiven check_app words (codes "raw") × (value_in check_app words (codes "file") ≡ Some file)
Asks words (Asm out file) =
    AreTaken asm_app words × (value_in asm_app words (codes "out") ≡ Some out) × (value_in asm_app words (codes "file") ≡ Some file)
Asks words (Dis file) = AreTaken dis_app words × (value_in dis_app words (codes "file") ≡ Some file)
Asks words (Notes files) = AreTaken notes_app words × (values_in notes_app words (codes "files") ≡ Some files)
Asks words (Run raw schedule input limit file) =
    AreTaken run_app words × (IsTrue raw ↔ IsGiven run_app words (codes "raw"))
    × (value_in run_app words (codes "schedule") ≡ schedule) × (value_in run_app words (codes "input") ≡ input)
    × IsNumberIn run_app words (codes "limit") limit × (value_in run_app words (codes "file") ≡ Some file)
    × IsPlain (value_in run_app words (codes "limit"))
Asks words (Link out start files) =
    AreTaken link_app words × (value_in link_app words (codes "out") ≡ Some out) × (value_in link_app words (codes "entry") ≡ Some start)
    × (values_in link_app words (codes "files") ≡ Some files)

-- the words ask for no command
abbrev pub AreRefused : List (List ℕ) → Type 0
AreRefused words = (command : Command) → ¬ Asks words command

-- P holds of the command that the words ask for
abbrev pub WithCommand : List (List ℕ) → (Command → Type 0) → Type 0
WithCommand words P = (command : Command) × Asks words command × P command

-- the texts of the words
abbrev pub texts : List (String Global) → List (List ℕ)
texts words = map string_bytes words
