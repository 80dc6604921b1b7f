-- What the operations give for exact whole numbers, with no machine word in sight: ux and uy are the operands read as unsigned numbers,
-- sx and sy as signed ones.
use Rattle.std.proofs.Common.{◌≡◌, ℕ, ℤ, pos, ◌+ℤ◌, ◌-ℤ◌, neg_ℤ, ◌⊎◌, inl, inr}
use Rattle.std.specs.Int.{from_bool}
use Rattle.cet_isa.specs.declared.operand.Width.{Width}
use Rattle.cet_isa.specs.declared.operation.AluOp.{AluOp}
use Rattle.cet_isa.specs.declared.operation.AluOp.TheVariants.{Add, Adc, Sbb, Sub, Cmp}
use Rattle.cet_isa.specs.declared.operation.UnOp.{UnOp}
use Rattle.cet_isa.specs.declared.operation.UnOp.TheVariants.{Inc, Dec, Neg}
use Rattle.cet_isa.specs.declared.registers.Flags.{Flags}
use Rattle.cet_machine.specs.Arithmetic.{alu, unary, outcome, with_carry, signed_of}

-- the operands and their values
pub record Values (w : Width) (x y : ℕ) (ux uy sx sy : ℤ) : Type 0 where
  pub unsigned_x : ux ≡ pos x
  pub unsigned_y : uy ≡ pos y
  pub signed_x : sx ≡ signed_of w x
  pub signed_y : sy ≡ signed_of w y

pub add_is : (op : AluOp) (w : Width) (x y : ℕ) (old : Flags) (r : ℕ × Flags) (ux uy sx sy u s : ℤ) → op ≡ Add → Values w x y ux uy sx sy → r ≡ outcome w u s → u ≡ ux +ℤ uy → s ≡ sx +ℤ sy → r ≡ alu op w x y old
unfolding alu
add_is op w x y old r ux uy sx sy u s is v e p q = cc

pub adc_is : (op : AluOp) (w : Width) (x y : ℕ) (old : Flags) (r : ℕ × Flags) (ux uy sx sy carry u s : ℤ) → op ≡ Adc → Values w x y ux uy sx sy → carry ≡ pos (from_bool old.cf) → r ≡ outcome w u s → u ≡ ux +ℤ uy +ℤ carry → s ≡ sx +ℤ sy +ℤ carry → r ≡ alu op w x y old
unfolding alu
adc_is op w x y old r ux uy sx sy carry u s is v k e p q = cc

pub sbb_is : (op : AluOp) (w : Width) (x y : ℕ) (old : Flags) (r : ℕ × Flags) (ux uy sx sy carry u s : ℤ) → op ≡ Sbb → Values w x y ux uy sx sy → carry ≡ pos (from_bool old.cf) → r ≡ outcome w u s → u ≡ ux -ℤ uy -ℤ carry → s ≡ sx -ℤ sy -ℤ carry → r ≡ alu op w x y old
unfolding alu
sbb_is op w x y old r ux uy sx sy carry u s is v k e p q = cc

pub sub_is : (op : AluOp) (w : Width) (x y : ℕ) (old : Flags) (r : ℕ × Flags) (ux uy sx sy u s : ℤ) → (op ≡ Sub) ⊎ (op ≡ Cmp) → Values w x y ux uy sx sy → r ≡ outcome w u s → u ≡ ux -ℤ uy → s ≡ sx -ℤ sy → r ≡ alu op w x y old
unfolding alu
sub_is op w x y old r ux uy sx sy u s (inl is) v e p q = cc
sub_is op w x y old r ux uy sx sy u s (inr is) v e p q = cc

pub inc_is : (op : UnOp) (w : Width) (x : ℕ) (old : Flags) (r o : ℕ × Flags) (ux sx u s : ℤ) → op ≡ Inc → ux ≡ pos x → sx ≡ signed_of w x → o ≡ outcome w u s → r ≡ with_carry old.cf o → u ≡ ux +ℤ pos 1 → s ≡ sx +ℤ pos 1 → r ≡ unary op w x old
unfolding unary
inc_is op w x old r o ux sx u s is a b e f p q = cc

pub dec_is : (op : UnOp) (w : Width) (x : ℕ) (old : Flags) (r o : ℕ × Flags) (ux sx u s : ℤ) → op ≡ Dec → ux ≡ pos x → sx ≡ signed_of w x → o ≡ outcome w u s → r ≡ with_carry old.cf o → u ≡ ux -ℤ pos 1 → s ≡ sx -ℤ pos 1 → r ≡ unary op w x old
unfolding unary
dec_is op w x old r o ux sx u s is a b e f p q = cc

pub neg_is : (op : UnOp) (w : Width) (x : ℕ) (old : Flags) (r : ℕ × Flags) (ux sx u s : ℤ) → op ≡ Neg → ux ≡ pos x → sx ≡ signed_of w x → r ≡ outcome w u s → u ≡ neg_ℤ ux → s ≡ neg_ℤ sx → r ≡ unary op w x old
unfolding unary
neg_is op w x old r ux sx u s is a b e p q = cc
