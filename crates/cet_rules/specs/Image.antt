-- What an image holds, its bytes by address and its functions: this project's own.
use Rattle.std.specs.Prelude.{ℕ, ◌+◌, ◌-◌, ◌<◌, ◌≤◌, List, [], ◌∷◌, ◌++◌, length, take, drop, Bool, ◌&&◌, nat_le, nat_lt, ◌==◌, if◌then◌else◌, Option, slice_get, replicate, find}
use Rattle.cet_rules.specs.declared.segment.Segment.{Segment}
use Rattle.cet_rules.specs.declared.function.Function.{Function}
use Rattle.cet_rules.specs.declared.image.Image.{Image}

-- the segment's bytes, then zeros up to its size
abbrev pub contents_of : Segment → List ℕ
contents_of s = s.bytes ++ replicate (s.size - length s.bytes) 0

-- a lies in the segment
abbrev pub lies_in : ℕ → Segment → Bool
lies_in a s = nat_le s.start a && nat_lt a (s.start + s.size)

-- the bytes from a to the end of the segment that a lies in; none where there is no such segment
unfoldable pub bytes_from : List Segment → ℕ → List ℕ
bytes_from [] a = []
bytes_from (s ∷ segments) a = if lies_in a s then drop (a - s.start) (contents_of s) else bytes_from segments a

-- the byte at a, or none outside every segment
abbrev pub byte_at : Image → ℕ → Option ℕ
byte_at image a = slice_get (bytes_from image.segments a) 0

abbrev pub end_of : Function → ℕ
end_of f = f.start + f.size

-- the address a lies in the function
abbrev pub LiesIn : ℕ → Function → Type 0
LiesIn a f = (f.start ≤ a) × (a < end_of f)

-- the bytes of the function from a on
abbrev pub code_from : Image → Function → ℕ → List ℕ
code_from image f a = take (end_of f - a) (bytes_from image.segments a)

-- the function that starts at a: of several the shortest, which stands first
abbrev pub function_at : Image → ℕ → Option Function
function_at image a = find (λ f. f.start == a) image.functions
