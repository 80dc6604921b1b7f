-- The two halves of a number that was moved up: what stays within the bits, and what leaves at the top.
use Rattle.std.proofs.Common.{◌≡◌, ℕ, ◌+◌, ◌-◌, ◌*◌, ◌/◌, ◌%◌, ◌^◌, ◌<◌, ◌≤◌, Bool, bit_or, arith, ap, ◌∙◌, sym, add_comm, subst}
use Rattle.std.proofs.Math.Nat.{mul-mod_left, mod-eq_of_lt, lt_of_le_of_lt, div-le_self}
use Rattle.std.proofs.lemmas.Nat.{shl-shr, shr-shr, mod-pow-add, shr_below, or_shifted}
use Rattle.cet_isa.specs.declared.operand.Width.{Width}
use Rattle.cet_isa.specs.declared.operand.Width.TheVariants.{B1, B4, B8}
use Rattle.cet_isa.specs.declared.registers.Flags.{Flags}
use Rattle.cet_machine.specs.Arithmetic.{bits, bit, top_bit, differ}
use Rattle.cet_machine.specs.Shifts.{right_rotation, rotation, ror}

stays : (x j k : ℕ) → x * 2 ^ k % 2 ^ (j + k) ≡ x % 2 ^ j * 2 ^ k
stays x j k = mod-pow-add (x * 2 ^ k) j k ∙ rw (shl-shr x k, mul-mod_left x (2 ^ k)) (omega arith)

leaves : (x j k : ℕ) → x * 2 ^ k / 2 ^ (j + k) ≡ x / 2 ^ j
leaves x j k = ap (λ m. x * 2 ^ k / 2 ^ m) (add_comm j k) ∙ sym (shr-shr (x * 2 ^ k) k j) ∙ rw (shl-shr x k)

joined : (x j k : ℕ) → x < 2 ^ (j + k) → bit_or (x * 2 ^ k % 2 ^ (j + k)) (x * 2 ^ k / 2 ^ (j + k)) ≡ x * 2 ^ k % 2 ^ (j + k) + x * 2 ^ k / 2 ^ (j + k)
joined x j k h =
    let top : x / 2 ^ j < 2 ^ k = shr_below x k j (rw (add_comm k j) h) in
    rw (stays x j k, leaves x j k) (or_shifted (x % 2 ^ j) k (x / 2 ^ j) top)

-- what leaves fits
small : (x j k : ℕ) → x < 2 ^ (j + k) → x * 2 ^ k / 2 ^ (j + k) % 2 ^ (j + k) ≡ x * 2 ^ k / 2 ^ (j + k)
small x j k h = rw (leaves x j k) (mod-eq_of_lt (lt_of_le_of_lt (div-le_self x (2 ^ j)) h))

-- the halves, joined
pub rotated_is : (b k x m low high b' : ℕ) → k ≤ b → x < 2 ^ b → m ≡ x * 2 ^ k → b' ≡ b → low ≡ m % 2 ^ b → high ≡ m / 2 ^ b' % 2 ^ b → bit_or low high ≡ x * 2 ^ k % 2 ^ b + x * 2 ^ k / 2 ^ b
rotated_is b k x m low high b' le fits is same a h =
    let whole : b - k + k ≡ b = omega arith in
    let fits' : x < 2 ^ (b - k + k) = rw whole fits in
    let one : bit_or (x * 2 ^ k % 2 ^ b) (x * 2 ^ k / 2 ^ b) ≡ x * 2 ^ k % 2 ^ b + x * 2 ^ k / 2 ^ b = subst (λ n. bit_or (x * 2 ^ k % 2 ^ n) (x * 2 ^ k / 2 ^ n) ≡ x * 2 ^ k % 2 ^ n + x * 2 ^ k / 2 ^ n) whole (joined x (b - k) k fits') in
    let two : x * 2 ^ k / 2 ^ b % 2 ^ b ≡ x * 2 ^ k / 2 ^ b = subst (λ n. x * 2 ^ k / 2 ^ n % 2 ^ n ≡ x * 2 ^ k / 2 ^ n) whole (small x (b - k) k fits') in
    rw (a, h, same, is, two) one

-- to the left by all but k bits is to the right by k
pub turned : (b k x : ℕ) → k ≤ b → x * 2 ^ (b - k) % 2 ^ b + x * 2 ^ (b - k) / 2 ^ b ≡ x / 2 ^ k + x % 2 ^ k * 2 ^ (b - k)
turned b k x le =
    let whole : k + (b - k) ≡ b = omega arith in
    subst (λ n. x * 2 ^ (b - k) % 2 ^ n + x * 2 ^ (b - k) / 2 ^ n ≡ x / 2 ^ k + x % 2 ^ k * 2 ^ (b - k)) whole (rw (stays x k (b - k), leaves x k (b - k)) (omega arith))

count_below : (w : Width) (n : ℕ) → n % bits w ≤ bits w
count_below B1 n = omega arith
count_below B4 n = omega arith
count_below B8 n = omega arith

pub ror_is : (w : Width) (x count : ℕ) (old free : Flags) (r : ℕ × Flags) (word b b' b'' : ℕ) (cf second : Bool) → b ≡ bits w → b' ≡ bits w → b'' ≡ bits w → word ≡ x * 2 ^ (b - count % b') % 2 ^ bits w + x * 2 ^ (b - count % b') / 2 ^ bits w → cf ≡ top_bit w word → second ≡ bit word (b'' - 2) → r ≡ rotation count word cf (differ cf second) old free → r ≡ ror w x count old free
ror_is w x count old free r word b b' b'' cf second e e' e'' is t s h =
    let same : word ≡ right_rotation w x count = (rw (e, e') at is) ∙ turned (bits w) (count % bits w) x (count_below w count) in
    h ∙ rw (s, t, e'', same)
