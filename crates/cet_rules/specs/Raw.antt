-- The raw form: code alone, without a file format around it.
use Rattle.std.specs.Prelude.{◌≡◌, ℕ, List, [], ◌∷◌, length, true, false, None}
use Rattle.cet_note.specs.declared.feature_set.Features.{Features}
use Rattle.cet_rules.specs.declared.segment.Segment.{Segment}
use Rattle.cet_rules.specs.declared.function.Function.{Function}
use Rattle.cet_rules.specs.declared.image.Image.{Image}

-- where raw code starts
abbrev pub raw_start : ℕ
raw_start = 0x401000

-- one readable and executable segment of the bytes
abbrev pub raw_segment : List ℕ → Segment
raw_segment bytes = record { start = raw_start; size = length bytes; readable = true; writable = false; executable = true; bytes = bytes }

-- one function over all of them
abbrev pub raw_function : List ℕ → Function
raw_function bytes = record { start = raw_start; size = length bytes }

-- indirect branch tracking and shadow stacks, the two bits of GNU_PROPERTY_X86_FEATURE_1_AND that have names
-- (System V x86-64 psABI, "Program Property")
abbrev pub both_features : Features
both_features = record { 0 = 3 }

-- the image is that of the raw bytes: it has no fibers and both features
pub record IsRaw (image : Image) (bytes : List ℕ) : Type 0 where
  pub segments : image.segments ≡ raw_segment bytes ∷ []
  pub functions : image.functions ≡ raw_function bytes ∷ []
  pub slots : image.slots ≡ None
  pub entry : image.entry ≡ raw_start
  pub features : image.features ≡ both_features
