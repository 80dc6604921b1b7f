-- How an image is loaded: each segment in whole pages (gABI, chapter "Program Loading and Dynamic Linking", "Program Header" and "Program Loading"),
-- the main stack as the psABI has it (System V ABI for AMD64, "Process Initialization"), the main shadow stack as Linux makes one
-- (Documentation/arch/x86/shstk.rst). Places and sizes of the stacks, and refusing segments that share a page, are this project's own.
use Rattle.std.specs.Prelude.{ℕ, ◌+◌, ◌-◌, ◌*◌, ◌/◌, ◌^◌, nat_lt, nat_le, max, min, List, [], ◌∷◌, ◌++◌, map, fold, find, replicate, Bool, false, not, ◌&&◌, if◌then◌else◌, Option, Some, None, is_none}
use Rattle.cet_isa.specs.declared.register.Reg.TheVariants.{Rsp}
use Rattle.cet_isa.specs.declared.registers.Regs.{Regs}
use Rattle.cet_isa.specs.declared.registers.Mode.{Mode}
use Rattle.cet_rules.specs.declared.segment.Segment.{Segment}
use Rattle.cet_rules.specs.declared.image.Image.{Image}
use Rattle.cet_rules.specs.Image.{contents_of}
use Rattle.cet_note.specs.declared.feature_set.Features.{Features}
use Rattle.cet_machine.specs.declared.memory.Kind.{Kind}
use Rattle.cet_machine.specs.declared.memory.Kind.TheVariants.{Code, Read, Write, Shadow}
use Rattle.cet_machine.specs.declared.memory.Region.{Region}
use Rattle.cet_machine.specs.Memory.{zeros, with_region}
use Rattle.cet_machine.specs.Arithmetic.{bit}
use Rattle.cet_machine.specs.Operand.{with_value}
use Rattle.cet_process.specs.declared.load_error.LoadError.{LoadError}
use Rattle.cet_process.specs.declared.load_error.LoadError.TheVariants.{Place, Shared}
use Rattle.cet_process.specs.State.{State}

-- ---- segments as regions of whole pages

-- the start of the page that a lies in
abbrev pub page_of : ℕ → ℕ
page_of a = a / 4096 * 4096

-- the least multiple of 4,096 that is not below a
abbrev pub page_above : ℕ → ℕ
page_above a = page_of (a + 4095)

abbrev pub first_page : Segment → ℕ
first_page s = page_of s.start

abbrev pub end_of_pages : Segment → ℕ
end_of_pages s = page_above (s.start + s.size)

-- an executable segment is code, whatever else it is
abbrev pub kind_of : Segment → Kind
kind_of s = if s.executable then Code else if s.writable then Write else Read

-- the bytes of the segment at their place, and zeros elsewhere in its pages
abbrev pub region_of : Segment → Region
region_of s = record {
  start = first_page s;
  kind = kind_of s;
  bytes = replicate (s.start - first_page s) 0 ++ contents_of s ++ replicate (end_of_pages s - (s.start + s.size)) 0;
}

-- ---- when an image is not loaded

abbrev pub is_in_place : Segment → Bool
is_in_place s = nat_le 4096 (first_page s) && nat_le (end_of_pages s) (2 ^ 32 - 65536)

abbrev pub share_a_page : Segment → Segment → Bool
share_a_page s t = nat_lt (max (first_page s) (first_page t)) (min (end_of_pages s) (end_of_pages t))

abbrev pub shared_or : Segment → Option Segment → Option LoadError → Option LoadError
shared_or s (Some t) later = Some (Shared s.start t.start)
shared_or s None later = later

-- the first pair that shares a page, by its first and then by its second segment
abbrev pub first_shared : List Segment → Option LoadError
first_shared [] = None
first_shared (s ∷ segments) = shared_or s (find (share_a_page s) segments) (first_shared segments)

abbrev pub misplaced_or : Option Segment → Option LoadError → Option LoadError
misplaced_or (Some s) shared = Some (Place s.start)
misplaced_or None shared = shared

-- the first segment out of place, or else the first pair that shares a page
abbrev pub load_error : Image → Option LoadError
load_error image = misplaced_or (find (λ s. not (is_in_place s)) image.segments) (first_shared image.segments)

-- ---- the first state

-- what of CET is on: exactly what the note of the image claims
abbrev pub mode_of : Features → Mode
mode_of features = record { ibt = bit features.0 0; shstk = bit features.0 1 }

abbrev pub stack_start : ℕ
stack_start = 0x7ffe00000000

unfoldable pub stack_size : ℕ
stack_size = 1048576

abbrev pub shadow_stack_start : ℕ
shadow_stack_start = 0x7ffd00000000

unfoldable pub shadow_stack_size : ℕ
shadow_stack_size = 65536

-- the main stack, and with SHSTK the main shadow stack
abbrev pub stacks : Mode → List Region
stacks mode = zeros stack_start stack_size Write ∷ (if mode.shstk then zeros shadow_stack_start shadow_stack_size Shadow ∷ [] else [])

-- the regions of the segments and the stacks, in order of address
abbrev pub loaded_memory : Image → Mode → List Region
loaded_memory image mode = fold with_region [] (map region_of image.segments ++ stacks mode)

-- at the entry, with rsp 64 below the end of the main stack, SSP at the end of the main shadow stack, and else 0
abbrev pub first_regs : Image → Mode → Regs
first_regs image mode = with_value (record {
  r = replicate 16 0;
  rip = image.entry;
  flags = record { cf = false; zf = false; sf = false; of = false };
  waiting = false;
  ssp = if mode.shstk then shadow_stack_start + shadow_stack_size else 0;
  mask = 0;
}) Rsp (stack_start + stack_size - 64)

-- where the first mapping may go
abbrev pub first_fresh : ℕ
first_fresh = 0x100000000

abbrev pub started : Image → Mode → List ℕ → State
started image mode input = record {
  memory = loaded_memory image mode;
  mode = mode;
  threads = Some (first_regs image mode) ∷ [];
  actions = replicate 64 None;
  input = input;
  output = [];
  fresh = first_fresh;
  end = None;
}

-- the loaded process; none exactly where there is a load error
unfoldable pub start : Image → List ℕ → Option State
start image input = if is_none (load_error image) then Some (started image (mode_of image.features) input) else None
