-- The numbers of errors (Linux, include/uapi/asm-generic/errno-base.h and errno.h).
use Rattle.std.specs.Prelude.{ℕ}
use Rattle.cet_process.specs.Call.{eperm, ebadf, eagain, enomem, efault, einval, enospc, enosys, eopnotsupp}
use Rattle.cet_kernel.specs.declared.calls.Error.{Error}
use Rattle.cet_kernel.specs.declared.calls.Error.TheVariants as errors

abbrev pub number_of : Error → ℕ
number_of errors.Permission = eperm
number_of errors.BadFile = ebadf
number_of errors.Again = eagain
number_of errors.NoMemory = enomem
number_of errors.Fault = efault
number_of errors.Invalid = einval
number_of errors.NoSpace = enospc
number_of errors.NoCall = enosys
number_of errors.NotSupported = eopnotsupp
