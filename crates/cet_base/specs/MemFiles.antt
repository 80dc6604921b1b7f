-- What a `MemFiles` holds.
use Rattle.std.specs.Prelude.{ℕ, ◌≤◌, List, Option, option_and_then, option_map, IsSomeAnd, vec_len}
use Rattle.std.specs.BTreeMap.{get_by_text}
use Rattle.cet_base.specs.Files.{Contents}
use Rattle.cet_base.specs.declared.mem_files.Place.{Place}
use Rattle.cet_base.specs.declared.mem_files.MemFiles.{MemFiles}

-- the bytes of each file that is there, by its name
abbrev pub contents_of : MemFiles → Contents
contents_of files = λ name. option_and_then (λ (place : Place). place.held) (get_by_text files.files name)

-- how many bytes a place has room for, if room was taken
abbrev pub room_at : Place → Option ℕ
room_at place = option_map (λ room. vec_len room) place.room

-- for each name for which room was taken, how many bytes its next replacement may have
abbrev pub rooms_of : MemFiles → List ℕ → Option ℕ
rooms_of files = λ name. option_and_then room_at (get_by_text files.files name)

-- there is room for n bytes
abbrev pub HasRoom : Option ℕ → ℕ → Type 0
HasRoom room n = IsSomeAnd room (λ most. n ≤ most)

-- how many of its calls failed
abbrev pub faults_of : MemFiles → ℕ
faults_of files = files.faults
