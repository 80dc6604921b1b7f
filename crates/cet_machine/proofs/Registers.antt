-- Registers that are written and read.
use Rattle.std.proofs.Common.{◌≡◌, ◌<◌, refl, sym, ap, subst, ◌∙◌, lit<}
use Rattle.std.proofs.lemmas.List.{length-set, get_or-set_same, get_or-set_other}
use Rattle.cet_isa.specs.declared.register.Reg.{Reg}
use Rattle.cet_isa.specs.declared.register.Reg.TheVariants.{Rax, Rcx, Rdx, Rbx, Rsp, Rbp, Rsi, Rdi, R8, R9, R10, R11, R12, R13, R14, R15}
use Rattle.cet_isa.specs.Canonical.{number}
use Rattle.cet_isa.specs.Operand.{register}
use Rattle.cet_machine.specs.MachineLaws.{WrittenIsRead, OthersStay, CountStays}

number_below : (reg : Reg) → number reg < 16
number_below Rax = lit< tt
number_below Rcx = lit< tt
number_below Rdx = lit< tt
number_below Rbx = lit< tt
number_below Rsp = lit< tt
number_below Rbp = lit< tt
number_below Rsi = lit< tt
number_below Rdi = lit< tt
number_below R8 = lit< tt
number_below R9 = lit< tt
number_below R10 = lit< tt
number_below R11 = lit< tt
number_below R12 = lit< tt
number_below R13 = lit< tt
number_below R14 = lit< tt
number_below R15 = lit< tt

register-number : (reg : Reg) → register (number reg) ≡ reg
register-number Rax = refl
register-number Rcx = refl
register-number Rdx = refl
register-number Rbx = refl
register-number Rsp = refl
register-number Rbp = refl
register-number Rsi = refl
register-number Rdi = refl
register-number R8 = refl
register-number R9 = refl
register-number R10 = refl
register-number R11 = refl
register-number R12 = refl
register-number R13 = refl
register-number R14 = refl
register-number R15 = refl

-- registers of one number are the same
one_number : (x y : Reg) → number x ≡ number y → x ≡ y
one_number x y e = sym (register-number x) ∙ ap register e ∙ register-number y

pub written_is_read : WrittenIsRead
written_is_read R reg v sixteen = get_or-set_same R.r (number reg) v 0 (subst (λ n. number reg < n) (sym sixteen) (number_below reg))

pub others_stay : OthersStay
others_stay R reg other v differs = get_or-set_other R.r (number reg) (number other) v 0 (λ e. differs (one_number other reg e))

pub count_stays : CountStays
count_stays R reg v = length-set R.r (number reg) v
