-- Shifts and rotates (SDM volume 2, "SAL/SAR/SHL/SHR" and "RCL/RCR/ROL/ROR").
use Rattle.std.specs.Prelude.{ℕ, ◌+◌, ◌-◌, ◌*◌, ◌/◌, ◌%◌, ◌^◌, Bool, false, ◌==◌, nat_lt, if◌then◌else◌}
use Rattle.std.specs.Int.{int_shr}
use Rattle.cet_isa.specs.declared.operand.Width.{Width}
use Rattle.cet_isa.specs.declared.operand.Width.TheVariants.{B1, B4, B8}
use Rattle.cet_isa.specs.declared.operation.ShiftOp.{ShiftOp}
use Rattle.cet_isa.specs.declared.operation.ShiftOp.TheVariants.{Rol, Ror, Shl, Shr, Sar}
use Rattle.cet_isa.specs.declared.registers.Flags.{Flags}
use Rattle.cet_machine.specs.Arithmetic.{bits, bit, top_bit, differ, signed_of, low_bits, free_flags}

-- only the low five bits of the count count, or six for operands of 64 bits
abbrev pub masked_count : Width → ℕ → ℕ
masked_count B1 count = count % 32
masked_count B4 count = count % 32
masked_count B8 count = count % 64

-- ---- results, for a masked count

-- what leaves at the top comes in at the bottom
abbrev pub left_rotation : Width → ℕ → ℕ → ℕ
left_rotation w x count = let moved = x * 2 ^ (count % bits w) in moved % 2 ^ bits w + moved / 2 ^ bits w

-- what leaves at the bottom comes in at the top
abbrev pub right_rotation : Width → ℕ → ℕ → ℕ
right_rotation w x count = let k = count % bits w in x / 2 ^ k + x % 2 ^ k * 2 ^ (bits w - k)

-- ---- flags, for a masked count that is not 0

-- OF is told for a count of 1 alone
abbrev pub overflow : ℕ → Bool → Flags → Bool
overflow count told free = if count == 1 then told else free.of

-- A rotate changes CF and OF alone.
abbrev pub rotation : ℕ → ℕ → Bool → Bool → Flags → Flags → ℕ × Flags
rotation count result cf of old free = (result, record old { cf = cf; of = overflow count of free })

abbrev pub shift_result : Width → ℕ → ℕ → Bool → Bool → Flags → ℕ × Flags
shift_result w count result cf of free =
    (result, record { cf = cf; zf = result == 0; sf = top_bit w result; of = overflow count of free })

-- The last bit out. Where as many bits leave as the operand has, it is told for SAR alone.
abbrev pub last_bit_out : Width → ℕ → Bool → Flags → Bool
last_bit_out w count out free = if nat_lt count (bits w) then out else free.cf

-- ---- instructions, for a masked count that is not 0; `free` has the flags that are left undefined

abbrev pub rol : Width → ℕ → ℕ → Flags → Flags → ℕ × Flags
rol w x count old free =
    let result = left_rotation w x count in
    rotation count result (bit result 0) (differ (top_bit w result) (bit result 0)) old free

abbrev pub ror : Width → ℕ → ℕ → Flags → Flags → ℕ × Flags
ror w x count old free =
    let result = right_rotation w x count in
    rotation count result (top_bit w result) (differ (top_bit w result) (bit result (bits w - 2))) old free

abbrev pub shl : Width → ℕ → ℕ → Flags → ℕ × Flags
shl w x count free =
    let result = x * 2 ^ count % 2 ^ bits w in
    let cf = last_bit_out w count (bit x (bits w - count)) free in
    shift_result w count result cf (differ (top_bit w result) cf) free

abbrev pub shr : Width → ℕ → ℕ → Flags → ℕ × Flags
shr w x count free =
    shift_result w count (x / 2 ^ count) (last_bit_out w count (bit x (count - 1)) free) (top_bit w x) free

-- the sign comes in at the top: the quotient by 2^count, rounded down
abbrev pub sar : Width → ℕ → ℕ → Flags → ℕ × Flags
sar w x count free =
    let moved = λ (k : ℕ). low_bits (bits w) (int_shr (signed_of w x) k) in
    shift_result w count (moved count) (bit (moved (count - 1)) 0) false free

abbrev pub shift_by : ShiftOp → Width → ℕ → ℕ → Flags → Flags → ℕ × Flags
shift_by Rol w x count old free = rol w x count old free
shift_by Ror w x count old free = ror w x count old free
shift_by Shl w x count old free = shl w x count free
shift_by Shr w x count old free = shr w x count free
shift_by Sar w x count old free = sar w x count free

-- A count of 0 changes no flag.
unfoldable pub shift : ShiftOp → Width → ℕ → ℕ → Flags → ℕ → ℕ × Flags
shift op w x count old free =
    if masked_count w count == 0 then (x, old) else shift_by op w x (masked_count w count) old (free_flags free)
