-- The shadow stack (SDM volume 1, chapter "Control-flow Enforcement Technology (CET)", "Shadow Stacks"): 8-byte words from SSP to the end of
-- a Shadow region, the first one on top. SSP is a multiple of 8 throughout. Which tests the token instructions make, in which order,
-- and the bits of their tokens are this project's profile of the SDM.
use Rattle.std.specs.Prelude.{ℕ, ◌+◌, ◌*◌, ◌/◌, ◌%◌, ◌-◌, List, Bool, not, ◌&&◌, ◌==◌, if◌then◌else◌, ok_or, Result, Ok}
use Rattle.cet_machine.specs.declared.memory.Region.{Region}
use Rattle.cet_machine.specs.declared.shadow_fault.ShadowFault.{ShadowFault}
use Rattle.cet_machine.specs.declared.shadow_fault.ShadowFault.TheVariants.{Pf, Gp, Cp4}
use Rattle.cet_machine.specs.Memory.{shadow_load, shadow_store}
use Rattle.cet_machine.specs.Arithmetic.{bit}
use Rattle.cet_machine.specs.Machine.{◌>>=◌, demand, plus, minus}

-- memory, and the SSP that goes with it
abbrev pub ShadowStack : Type 0
ShadowStack = List Region × ℕ

-- the word at a
abbrev pub word_at : List Region → ℕ → Result ℕ ShadowFault
word_at M a = ok_or (shadow_load M a) (Pf a)

-- M with a word at a
abbrev pub with_word : List Region → ℕ → ℕ → Result (List Region) ShadowFault
with_word M a word = ok_or (shadow_store M a word) (Pf a)

-- SSP falls by 8, and the word stands there
unfoldable pub push : List Region → ℕ → ℕ → Result ShadowStack ShadowFault
push M ssp word = do
  stored ← with_word M (minus ssp 8) word
  Ok (stored, minus ssp 8)

-- the word on top, and SSP above it
unfoldable pub pop : List Region → ℕ → Result (ℕ × ℕ) ShadowFault
pop M ssp = do
  word ← word_at M ssp
  Ok (word, plus ssp 8)

-- SSP above so many words; the first and the last of them are loaded (volume 2, INCSSPD/INCSSPQ)
unfoldable pub incssp : List Region → ℕ → ℕ → Result ℕ ShadowFault
incssp M ssp count = if count == 0 then Ok ssp else do
  _ ← word_at M ssp
  _ ← word_at M (plus ssp (8 * (count - 1)))
  Ok (plus ssp (8 * count))

-- ---- tokens. Those of 64-bit mode have bit 0 set. A restore token holds the SSP that RSTORSSP goes on with and has bit 1 clear; a previous-SSP
-- token holds the SSP that RSTORSSP left and has bit 1 set. SSP is a multiple of 8, so a sum is the same as setting the bits.

-- SSP | 1
abbrev pub restore_token : ℕ → ℕ
restore_token ssp = ssp + 1

-- SSP | 3
abbrev pub previous_ssp_token : ℕ → ℕ
previous_ssp_token ssp = ssp + 3

-- the word, standing at a, is a restore token: its low two bits are 01, and what it names, but for its low three bits, is the
-- address above it
abbrev pub is_restore_token : ℕ → ℕ → Bool
is_restore_token a word = (word % 4 == 1) && (minus (word - word % 2) 8 / 8 * 8 == a)

-- Goes on with the stack whose restore token stands at a: the token becomes a previous-SSP token, and SSP is a. Answered besides: bit 2 of the
-- token, which becomes CF (volume 2, RSTORSSP).
unfoldable pub rstorssp : List Region → ℕ → ℕ → Result (List Region × ℕ × Bool) ShadowFault
rstorssp M ssp a = do
  _ ← demand (a % 8 == 0) Gp
  word ← word_at M a
  _ ← demand (is_restore_token a word) (Cp4 word)
  stored ← with_word M a (previous_ssp_token ssp)
  Ok (stored, a, bit word 2)

-- Pops a previous-SSP token, and puts a restore token on the stack that it names (volume 2, SAVEPREVSSP).
unfoldable pub saveprevssp : List Region → ℕ → Bool → Result ShadowStack ShadowFault
saveprevssp M ssp cf = do
  word ← word_at M ssp
  _ ← demand (not cf) Gp
  _ ← demand (bit word 1 && not (bit word 2)) Gp
  let old = word - word % 4
  stored ← with_word M (minus old 8) (restore_token old)
  Ok (stored, plus ssp 8)

-- a restore token in the top word of a stack that ends at `top` (Linux, Documentation/arch/x86/shstk.rst: SHADOW_STACK_SET_TOKEN)
unfoldable pub set_token : List Region → ℕ → Result (List Region) ShadowFault
set_token M top = with_word M (minus top 8) (restore_token top)
