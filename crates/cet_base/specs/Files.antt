-- Files by name, in this project's own terms: what they hold, what a read of a part gives, and what the replacement of a file leaves.
use Rattle.std.specs.Prelude.{◌≡◌, ◌≢◌, ℕ, ◌<◌, List, length, take, drop, Option, Some, None, IsSomeAnd, ⊤}

-- what the files hold: the bytes of the file of each name that is there. A name is the bytes of its text
abbrev pub Contents : Type 0
Contents = List ℕ → Option (List ℕ)

-- where the contents are told, the file of this name is there and P holds of its bytes
abbrev pub FileMeets : Option Contents → List ℕ → (List ℕ → Type 0) → Type 0
FileMeets None name P = ⊤
FileMeets (Some files) name P = IsSomeAnd (files name) P

-- the contents are told, and no file has this name
abbrev pub IsToldAbsent : Option Contents → List ℕ → Type 0
IsToldAbsent None name = ⊥
IsToldAbsent (Some files) name = files name ≡ None

-- a read of n bytes at `at` into a buffer, which then holds `buffer`, of a file of these bytes: the buffer begins
-- with the file's bytes from there on, and there is one at least where the file goes on and the buffer has room
pub record IsPart (bytes : List ℕ) (at n : ℕ) (buffer : List ℕ) : Type 0 where
  pub same : take n buffer ≡ take n (drop at bytes)
  pub some : at < length bytes → 0 < length buffer → 0 < n

-- whether contents are told is as before, and so is every file but the one of this name, of which nothing is said
abbrev pub OthersStay : Option Contents → Option Contents → List ℕ → Type 0
OthersStay None None name = ⊤
OthersStay (Some old) (Some now) name = (other : List ℕ) → other ≢ name → now other ≡ old other
OthersStay _ _ name = ⊥

-- the file of this name now has these bytes, where contents are told, and all others stay
abbrev pub Replaces : Option Contents → Option Contents → List ℕ → List ℕ → Type 0
Replaces old now name bytes = OthersStay old now name × FileMeets now name (λ held. held ≡ bytes)
