-- What a map of names says of one of them. All of it is this project's own.
use Rattle.std.specs.Prelude.{ℕ, List, Option, option_and_then}
use Rattle.std.specs.HashMap.{get_by, hash_map_len}
use Rattle.std.specs.Str.{bytes_eq}
use Rattle.cet_asm.specs.declared.names.Target.{Target}
use Rattle.cet_asm.specs.declared.names.Names.{Names}

-- what is known of a name that was met: where it is defined, if it is
abbrev pub known_at : Names → List ℕ → Option (Option Target)
known_at names name = get_by (λ key. bytes_eq name key.now) names.known

-- where a name is defined
abbrev pub place_at : Names → List ℕ → Option Target
place_at names name = option_and_then (λ place. place) (known_at names name)

-- how many names were met
abbrev pub count_of : Names → ℕ
count_of names = hash_map_len names.known
