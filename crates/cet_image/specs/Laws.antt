-- Laws of images.
use Rattle.std.specs.Prelude.{◌≡◌, ◌↔◌, IsTrue, List}
use Rattle.cet_base.specs.declared.spans.Span.{Span}
use Rattle.cet_base.specs.Span.{Meets}
use Rattle.cet_elf.specs.declared.exec.Exec.{Exec}
use Rattle.cet_elf.specs.declared.exec.ExecSymbol.{ExecSymbol}
use Rattle.cet_rules.specs.declared.function.Function.{Function}
use Rattle.cet_rules.specs.declared.image.Image.{Image}
use Rattle.cet_image.specs.declared.error.ImageError.{ImageError}
use Rattle.cet_image.specs.Executable.{AreFunctionsOf}
use Rattle.cet_image.specs.Faults.{share_byte}
use Rattle.cet_image.specs.ImageOf.{IsImageOf, IsImageError}

-- symbols have one list of functions at most
abbrev pub OneFunctionList : Type 0
OneFunctionList = (symbols : List ExecSymbol) (m n : List Function) → AreFunctionsOf symbols m → AreFunctionsOf symbols n → m ≡ n

-- an executable has one first error at most
abbrev pub OneError : Type 0
OneError = (e : Exec) (x y : ImageError) → IsImageError e x → IsImageError e y → x ≡ y

-- and none where it has an image
abbrev pub NoErrorOfImages : Type 0
NoErrorOfImages = (e : Exec) (image : Image) (x : ImageError) → IsImageOf e image → ¬ IsImageError e x

-- the test of two spans is whether some address lies in both
abbrev pub SharingIsMeeting : Type 0
SharingIsMeeting = (s t : Span) → IsTrue (share_byte s t) ↔ Meets s t
