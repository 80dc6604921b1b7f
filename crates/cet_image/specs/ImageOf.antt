-- The image of an executable, and when it has none; when raw code has none: this project's own, with the gABI's segments ("Program Loading").
use Rattle.std.specs.Prelude.{◌≡◌, ℕ, ◌==◌, nat_lt, if◌then◌else◌, List, length, Option, Some, None}
use Rattle.cet_elf.specs.declared.exec.Exec.{Exec}
use Rattle.cet_rules.specs.declared.function.Function.{Function}
use Rattle.cet_rules.specs.declared.image.Image.{Image}
use Rattle.cet_rules.specs.Raw.{raw_start}
use Rattle.cet_image.specs.declared.error.ImageError.{ImageError}
use Rattle.cet_image.specs.declared.error.ImageError.TheVariants.{Empty, Range}
use Rattle.cet_image.specs.Executable.{segments_of, AreFunctionsOf, slots_of, AreFeaturesOf}
use Rattle.cet_image.specs.Faults.{error_with}

-- the image is that of the executable
pub record IsImageOf (e : Exec) (image : Image) : Type 0 where
  pub no_error : error_with e image.functions ≡ None
  pub segments : image.segments ≡ segments_of e.segments
  pub functions : AreFunctionsOf e.symbols image.functions
  pub slots : image.slots ≡ slots_of e.symbols
  pub entry : image.entry ≡ e.entry
  pub features : AreFeaturesOf e.notes image.features

-- the executable has no image, and this is the first error
abbrev pub IsImageError : Exec → ImageError → Type 0
IsImageError e error = (functions : List Function) × AreFunctionsOf e.symbols functions × (error_with e functions ≡ Some error)

-- raw code has no image, and this is the error: it has no byte, or is longer than a segment may be
abbrev pub raw_error : List ℕ → Option ImageError
raw_error code = if length code == 0 then Some Empty else if nat_lt 16777216 (length code) then Some (Range raw_start) else None
