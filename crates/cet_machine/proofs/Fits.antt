-- What an operation answers fits its operands' bits.
use Rattle.std.proofs.Common.{◌≡◌, ℕ, ◌+◌, ◌-◌, ◌*◌, ◌/◌, ◌%◌, ◌^◌, ◌<◌, ◌≤◌, Bool, true, false, not, ◌||◌, ◌==◌, ℤ, pos, negsuc, ◌+ℤ◌, Some, None, IfOk, ok_or, unsigned_abs, int_div, int_rem, sym, ap, subst, ◌∙◌, arith, if◌then◌else◌, lit<}
use Rattle.std.specs.Int.{from_bool}
use Rattle.std.specs.Int.Bits.{and_lt}
use Rattle.std.proofs.Math.Nat.{mod-lt, mul_comm, div-le_self, two-mul, div-lt_iff_lt-mul, mul-div_left, mul-mod_left}
use Rattle.std.proofs.lemmas.Nat.{pow_pos, pow-add, mod-pow-add, div-mul-add, or_lt, xor_lt}
use Rattle.cet_isa.specs.declared.operand.Width.{Width}
use Rattle.cet_isa.specs.declared.operand.Width.TheVariants.{B1, B4, B8}
use Rattle.cet_isa.specs.declared.operation.AluOp.{AluOp}
use Rattle.cet_isa.specs.declared.operation.AluOp.TheVariants.{Add, Or, Adc, Sbb, And, Sub, Xor, Cmp}
use Rattle.cet_isa.specs.declared.operation.UnOp.{UnOp}
use Rattle.cet_isa.specs.declared.operation.UnOp.TheVariants.{Inc, Dec, Not, Neg}
use Rattle.cet_isa.specs.declared.operation.ShiftOp.{ShiftOp}
use Rattle.cet_isa.specs.declared.operation.ShiftOp.TheVariants.{Rol, Ror, Shl, Shr, Sar}
use Rattle.cet_isa.specs.declared.registers.Flags.{Flags}
use Rattle.cet_machine.specs.Arithmetic.{bits, low_bits, alu, unary, free_flags}
use Rattle.cet_machine.specs.Shifts.{masked_count, left_rotation, right_rotation, shift_by, shift}
use Rattle.cet_machine.specs.Products.{product, imul, mul, div, fits, value_of, double_value_of}

-- ---- whole numbers

pub low_bits_fit : (k : ℕ) (z : ℤ) → low_bits k z < 2 ^ k
low_bits_fit k (pos a) = mod-lt a (pow_pos k)
low_bits_fit k (negsuc a) = let some : 0 < 2 ^ k = pow_pos k in omega (arith, some)

-- two digits in bases A and B
two_digits : (high low A B : ℕ) → high < A → low < B → high * B + low < A * B
two_digits high low A B in_a in_b =
    let some : 0 < B = omega (arith, in_b) in
    (div-lt_iff_lt-mul {k = B} {x = high * B + low} {y = A} some).0 (subst (λ (n : ℕ). n < A) (sym (div-mul-add high B low in_b)) in_a)

-- a number of i + j bits, without its low j
upper_fits : (i j x : ℕ) → x < 2 ^ i * 2 ^ j → x / 2 ^ j < 2 ^ i
upper_fits i j x below = (div-lt_iff_lt-mul {k = 2 ^ j} {x = x} {y = 2 ^ i} (pow_pos j)).1 below

-- ---- sums, differences, bits

pub alu_fits : (op : AluOp) (w : Width) (x y : ℕ) (old : Flags) → x < 2 ^ bits w → y < 2 ^ bits w → (alu op w x y old).0 < 2 ^ bits w
unfolding alu
alu_fits Add w x y old of_x of_y = low_bits_fit (bits w) (pos x +ℤ pos y)
alu_fits Or w x y old of_x of_y = or_lt (bits w) x y of_x of_y
alu_fits Adc w x y old of_x of_y = low_bits_fit (bits w) (pos x +ℤ pos y +ℤ pos (from_bool old.cf))
alu_fits Sbb w x y old of_x of_y = low_bits_fit (bits w) _
alu_fits And w x y old of_x of_y = and_lt (bits w) x y of_x of_y
alu_fits Sub w x y old of_x of_y = low_bits_fit (bits w) _
alu_fits Xor w x y old of_x of_y = xor_lt (bits w) x y of_x of_y
alu_fits Cmp w x y old of_x of_y = low_bits_fit (bits w) _

pub unary_fits : (op : UnOp) (w : Width) (x : ℕ) (old : Flags) → (unary op w x old).0 < 2 ^ bits w
unfolding unary
unary_fits Inc w x old = low_bits_fit (bits w) (pos x +ℤ pos 1)
unary_fits Dec w x old = low_bits_fit (bits w) _
unary_fits Not w x old = let some : 0 < 2 ^ bits w = pow_pos (bits w) in omega (arith, some)
unary_fits Neg w x old = low_bits_fit (bits w) _

-- ---- shifts and rotates

-- i + j bits, turned by j bits to the left
left_fits : (i j x : ℕ) → x < 2 ^ (i + j) → x * 2 ^ j % 2 ^ (i + j) + x * 2 ^ j / 2 ^ (i + j) < 2 ^ (i + j)
left_fits i j x below =
    let some : 0 < 2 ^ j = pow_pos j in
    let moved = x * 2 ^ j in
    let upper : moved / 2 ^ j ≡ x = mul-div_left x some in
    let kept : moved % 2 ^ (i + j) ≡ x % 2 ^ i * 2 ^ j + 0 =
    mod-pow-add moved i j ∙ ap (λ (n : ℕ). n % 2 ^ i * 2 ^ j + moved % 2 ^ j) upper ∙ ap (λ (n : ℕ). x % 2 ^ i * 2 ^ j + n) (mul-mod_left x (2 ^ j)) in
    let wide : moved < 2 ^ (i + j) * 2 ^ j = (div-lt_iff_lt-mul {k = 2 ^ j} {x = moved} {y = 2 ^ (i + j)} some).0 (subst (λ (n : ℕ). n < 2 ^ (i + j)) (sym upper) below) in
    let out : moved / 2 ^ (i + j) < 2 ^ j =
    (div-lt_iff_lt-mul {k = 2 ^ (i + j)} {x = moved} {y = 2 ^ j} (pow_pos (i + j))).1 (subst (λ (n : ℕ). moved < n) (mul_comm (2 ^ (i + j)) (2 ^ j)) wide) in
    let whole : x % 2 ^ i * 2 ^ j + moved / 2 ^ (i + j) < 2 ^ i * 2 ^ j = two_digits (x % 2 ^ i) (moved / 2 ^ (i + j)) (2 ^ i) (2 ^ j) (mod-lt x (pow_pos i)) out in
    let joined : 2 ^ (i + j) ≡ 2 ^ i * 2 ^ j = pow-add 2 i j in
    omega (arith, kept, whole, joined)

-- to the right
right_fits : (i j x : ℕ) → x < 2 ^ (i + j) → x / 2 ^ j + x % 2 ^ j * 2 ^ i < 2 ^ (i + j)
right_fits i j x below =
    let joined : 2 ^ (i + j) ≡ 2 ^ i * 2 ^ j = pow-add 2 i j in
    let other : 2 ^ i * 2 ^ j ≡ 2 ^ j * 2 ^ i = mul_comm (2 ^ i) (2 ^ j) in
    let in_upper : x / 2 ^ j < 2 ^ i = upper_fits i j x (subst (λ (n : ℕ). x < n) joined below) in
    let whole : x % 2 ^ j * 2 ^ i + x / 2 ^ j < 2 ^ j * 2 ^ i = two_digits (x % 2 ^ j) (x / 2 ^ j) (2 ^ j) (2 ^ i) (mod-lt x (pow_pos j)) in_upper in
    omega (arith, joined, other, whole)

-- a count below the operand's bits
turn_below : (w : Width) (count : ℕ) → count % bits w < bits w
turn_below B1 count = mod-lt count (lit< tt)
turn_below B4 count = mod-lt count (lit< tt)
turn_below B8 count = mod-lt count (lit< tt)

left_rotation_fits : (w : Width) (x count : ℕ) → x < 2 ^ bits w → left_rotation w x count < 2 ^ bits w
left_rotation_fits w x count of_x =
    let k = count % bits w in
    let below : k < bits w = turn_below w count in
    let split : (bits w - k) + k ≡ bits w = omega (arith, below) in
    subst (λ (b : ℕ). x * 2 ^ k % 2 ^ b + x * 2 ^ k / 2 ^ b < 2 ^ b) split (left_fits (bits w - k) k x (subst (λ (b : ℕ). x < 2 ^ b) (sym split) of_x))

right_rotation_fits : (w : Width) (x count : ℕ) → x < 2 ^ bits w → right_rotation w x count < 2 ^ bits w
right_rotation_fits w x count of_x =
    let k = count % bits w in
    let below : k < bits w = turn_below w count in
    let split : (bits w - k) + k ≡ bits w = omega (arith, below) in
    subst (λ (b : ℕ). x / 2 ^ k + x % 2 ^ k * 2 ^ (bits w - k) < 2 ^ b) split (right_fits (bits w - k) k x (subst (λ (b : ℕ). x < 2 ^ b) (sym split) of_x))

shift_by_fits : (op : ShiftOp) (w : Width) (x count : ℕ) (old free : Flags) → x < 2 ^ bits w → (shift_by op w x count old free).0 < 2 ^ bits w
shift_by_fits Rol w x count old free of_x = left_rotation_fits w x count of_x
shift_by_fits Ror w x count old free of_x = right_rotation_fits w x count of_x
shift_by_fits Shl w x count old free of_x = mod-lt (x * 2 ^ count) (pow_pos (bits w))
shift_by_fits Shr w x count old free of_x = let less : x / 2 ^ count ≤ x = div-le_self x (2 ^ count) in omega (arith, less, of_x)
shift_by_fits Sar w x count old free of_x = low_bits_fit (bits w) _

pub shift_fits : (op : ShiftOp) (w : Width) (x count : ℕ) (old : Flags) (free : ℕ) → x < 2 ^ bits w → (shift op w x count old free).0 < 2 ^ bits w
unfolding shift
shift_fits op w x count old free of_x =
    either_fits (masked_count w count == 0) w (x, old) (shift_by op w x (masked_count w count) old (free_flags free)) of_x (shift_by_fits op w x (masked_count w count) old (free_flags free) of_x)
  where
    either_fits : (b : Bool) (w : Width) (r s : ℕ × Flags) → r.0 < 2 ^ bits w → s.0 < 2 ^ bits w → (if b then r else s).0 < 2 ^ bits w
    either_fits true w r s h k = h
    either_fits false w r s h k = k

-- ---- products and quotients

pub imul_fits : (w : Width) (x y free : ℕ) → (imul w x y free).0 < 2 ^ bits w
unfolding imul
imul_fits w x y free = low_bits_fit (bits w) _

pub mul_low_fits : (signed : Bool) (w : Width) (x y free : ℕ) → (mul signed w x y free).0 < 2 ^ bits w
unfolding mul
mul_low_fits signed w x y free = low_bits_fit (bits w) _

pub mul_high_fits : (signed : Bool) (w : Width) (x y free : ℕ) → (mul signed w x y free).1 < 2 ^ bits w
unfolding mul
mul_high_fits signed w x y free =
    let exact = product signed w x y in
    let double : 2 ^ (2 * bits w) ≡ 2 ^ bits w * 2 ^ bits w = ap (λ (n : ℕ). 2 ^ n) (two-mul (bits w)) ∙ pow-add 2 (bits w) (bits w) in
    upper_fits (bits w) (bits w) (low_bits (2 * bits w) exact) (subst (λ (n : ℕ). low_bits (2 * bits w) exact < n) double (low_bits_fit (2 * bits w) exact))

pub div_fits : (signed : Bool) (w : Width) (high low by : ℕ) (E : Type 0) (e : E) → IfOk (ok_or (div signed w high low by) e) (λ r. (r.0 < 2 ^ bits w) × (r.1 < 2 ^ bits w))
unfolding div
div_fits signed w high low by E e =
    let dividend = double_value_of signed w (high * 2 ^ bits w + low) in
    let divisor = value_of signed w by in
    none_or ((unsigned_abs divisor == 0) || not (fits signed w (int_div dividend divisor))) w _
    (low_bits_fit (bits w) (int_div dividend divisor), low_bits_fit (bits w) (int_rem dividend divisor))
  where
    none_or : (b : Bool) (w : Width) (r : ℕ × ℕ) → (r.0 < 2 ^ bits w) × (r.1 < 2 ^ bits w) → IfOk (ok_or (if b then None else Some r) e) (λ r. (r.0 < 2 ^ bits w) × (r.1 < 2 ^ bits w))
    none_or true w r h = tt
    none_or false w r h = h
