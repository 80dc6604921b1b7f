-- What the command of each verb takes, as `clap` reads a simple command, and what it finds in the words.
use Rattle.std.specs.Prelude.{◌≡◌, ℕ, length, ◌<◌, ◌≤◌, ◌^◌, IsSomeAnd, pos, true, List, [], ◌∷◌, Option, Some, slice_get, codes}
use Rattle.std.specs.Str.Parse.{IsNumeral, digits_value, without_leading_plus}
use Rattle.clap.specs.Words.{App, Rule, Text, new_rule, first_of, all_of, one_of, matches_of, fault_of}
use Rattle.clap.specs.Simple.{new_shape}
use Rattle.clap.specs.declared.builder.action.ArgAction.TheVariants.{Set, Append, SetTrue}
use Rattle.clap.specs.declared.builder.value_parser.ValueParser.TheVariants as parser

-- ---- arguments

-- `--NAME`
abbrev pub flag : Text → Rule
flag name = record (new_rule name) { long = Some name; action = Some SetTrue }

-- `--NAME VALUE`
abbrev pub option : Text → Rule
option name = record (new_rule name) { long = Some name; action = Some Set }

-- `--limit N`, a number from 1 to 1,000,000, which it is where nothing is said
abbrev pub limit : Rule
limit = record (option (codes "limit")) {
  parser = Some (parser.Signed (pos 1) (pos 1000000));
  defaults = codes "1000000" ∷ [];
}

-- the argument has to be there
abbrev pub required : Rule → Rule
required rule = record rule { required = true }

-- FILE
abbrev pub file : Rule
file = required (record (new_rule (codes "file")) { action = Some Set })

-- FILE...
abbrev pub files : Rule
files = required (record (new_rule (codes "files")) { action = Some Append })

-- ---- commands

-- a command of this name with these arguments, and no flag for help or for the version
abbrev pub command_with : Text → List Rule → App
command_with name rules = record {
  top = record (new_shape name) { rules = rules; disable_help_flag = true; disable_version_flag = true };
  subs = [];
}

abbrev pub check_app : App
check_app = command_with (codes "check") (flag (codes "raw") ∷ file ∷ [])

abbrev pub run_app : App
run_app = command_with (codes "run")
    (flag (codes "raw") ∷ option (codes "schedule") ∷ option (codes "input") ∷ limit ∷ file ∷ [])

abbrev pub link_app : App
link_app = command_with (codes "link") (required (option (codes "out"))
    ∷ record (option (codes "entry")) { defaults = codes "_start" ∷ [] } ∷ files ∷ [])

abbrev pub asm_app : App
asm_app = command_with (codes "asm") (required (option (codes "out")) ∷ file ∷ [])

abbrev pub dis_app : App
dis_app = command_with (codes "dis") (file ∷ [])

abbrev pub notes_app : App
notes_app = command_with (codes "notes") (files ∷ [])

-- ---- what is found

-- the words are fewer than 2^32 and begin with the verb, and its command finds no fault in the others
abbrev pub AreTaken : App → List Text → Type 0
AreTaken app words = (length words < 2 ^ 32) × (slice_get words 0 ≡ Some app.top.name) × (fault_of app words ≡ [])

-- the value by this id
abbrev pub value_in : App → List Text → Text → Option Text
value_in app words id = first_of id (matches_of app words)

-- the values by this id
abbrev pub values_in : App → List Text → Text → Option (List Text)
values_in app words id = all_of id (matches_of app words)

-- the flag of this id was given
abbrev pub IsGiven : App → List Text → Text → Type 0
IsGiven app words id = value_in app words id ≡ Some (codes "true")

-- the value is decimal for the number, which is below 2^32
abbrev pub IsNumber : Option Text → ℕ → Type 0
IsNumber value number = (text : Text) × (value ≡ Some text)
    × IsNumeral 10 (without_leading_plus text) × (digits_value 10 (without_leading_plus text) ≡ number) × (number < 2 ^ 32)

-- the text of a number begins with a digit other than 0: it has no sign and no leading zero
abbrev pub IsPlain : Option Text → Type 0
IsPlain value = IsSomeAnd value (λ text. IsSomeAnd (slice_get text 0) (λ c. (49 ≤ c) × (c ≤ 57)))

-- the value by this id is decimal for the number
abbrev pub IsNumberIn : App → List Text → Text → ℕ → Type 0
IsNumberIn app words id number = IsNumber (one_of id (matches_of app words)) number
