-- The commands that requests stand for.
use Rattle.std.specs.Prelude.{ℕ, List, map, Option, option_map}
use Rattle.std.specs.Borrow.{Bor}
use Rattle.cet_verbs.specs.declared.run.RunRequest.{RunRequest}
use Rattle.cet_verbs.specs.declared.link.LinkRequest.{LinkRequest}
use Rattle.cet_verbs.specs.Command.{Command, Run, Link}

-- the texts behind references
abbrev pub names_of : List (Bor (List ℕ)) → List (List ℕ)
names_of names = map (λ name. name.now) names

-- the word of an option, if it is given
abbrev pub word_of : Option (Bor (List ℕ)) → Option (List ℕ)
word_of word = option_map (λ (w : Bor (List ℕ)). w.now) word

-- the run that is asked for
abbrev pub run_of : RunRequest → Command
run_of request = Run request.raw (word_of request.schedule) (word_of request.input) request.limit request.file.now

-- the link that is asked for
abbrev pub link_of : LinkRequest → Command
link_of request = Link request.to.now request.start.now (names_of request.files.items)
