-- What is read where no test holds.
use Rattle.std.proofs.Common.{◌≡◌, ◌≢◌, ℕ, ◌/◌, ◌≤◌, Bool, true, false, eqb, ltb, List, Option, None, Ok, Err, refl, ◌∙◌, inl, inr}
use Rattle.std.specs.Prelude.{◌==◌}
use Rattle.std.proofs.lemmas.Bool.{le-ltb}
use Rattle.std.proofs.lemmas.Bool.Decides.{eqb_tells}
use Rattle.cet_isa.specs.declared.decode_error.DecodeError.TheVariants.{Outside}
use Rattle.cet_isa.specs.Reader.{◌>>=◌, byte_at}
use Rattle.cet_isa.specs.Operand.{is_rex}
use Rattle.cet_isa.specs.OpcodeMap.{one_byte}
use Rattle.cet_isa.specs.PrefixedMap.{none, pads, row}
use Rattle.cet_isa.specs.Decoded.{row_at, after_pads, instruction_at}
use Rattle.cet_decode.proofs.Pads.{pads_step}

differs : (a b : ℕ) → a ≢ b → (a == b) ≡ false
differs a b n = elim (eqb_tells a b) [ inl p ↦ absurd (n p.1) | inr p ↦ p.0 ]

pub no_opcode : (rex : Option ℕ) (o : ℕ) (bytes : List ℕ) → 64 ≤ o → o / 16 ≢ 5 → o / 16 ≢ 6 → o / 16 ≢ 7 → o / 16 ≢ 8 → o / 16 ≢ 9 → o / 16 ≢ 10 → o / 16 ≢ 11
    → o / 16 ≢ 12 → o / 16 ≢ 13 → o / 16 ≢ 14 → o / 16 ≢ 15 → row_at rex (one_byte rex o) bytes ≡ Err Outside
no_opcode rex o bytes h a b c d e f g i j k l =
    rw (
      le-ltb o 64 h,
      differs (o / 16) 5 a,
      differs (o / 16) 6 b,
      differs (o / 16) 7 c,
      differs (o / 16) 8 d,
      differs (o / 16) 9 e,
      differs (o / 16) 10 f,
      differs (o / 16) 11 g,
      differs (o / 16) 12 i,
      differs (o / 16) 13 j,
      differs (o / 16) 14 k,
      differs (o / 16) 15 l,
    ) refl

pub plain_first : (bytes : List ℕ) (first : ℕ) (rest : List ℕ) → byte_at bytes ≡ Ok (first, rest) → is_rex first ≡ false → first ≢ 0xF3 → first ≢ 0xF0 → first ≢ 0x3E → first ≢ 0x66
    → first ≢ 0x2E → instruction_at bytes ≡ row_at None (row none None first) rest
unfolding instruction_at
plain_first bytes first rest e r a b c d f =
    rw (e, r, differs first 0xF3 a, differs first 0xF0 b, differs first 0x3E c, differs first 0x66 d, differs first 0x2E f) refl

pub plain_padded : (left n : ℕ) (bytes : List ℕ) (first : ℕ) (rest : List ℕ) → byte_at bytes ≡ Ok (first, rest) → first ≢ 0x66 → first ≢ 0x2E
    → after_pads left n bytes ≡ row_at None (row (pads n) None first) rest
plain_padded left n bytes first rest e a b = pads_step left n bytes ∙ rw (e, differs first 0x66 a, differs first 0x2E b) refl
