-- How a function is cut: pieces stand one after the other from the prologue's end, and none has a cut inside.
use Rattle.std.proofs.Common.{◌≡◌, ℕ, ◌+◌, ◌-◌, ◌<◌, ◌≤◌, ◌⊎◌, length, Option, Some, None, option_map, IfSome, ◌^◌, Ok, Err, refl, sym, ap, ◌∙◌, inl, inr, arith}
use Rattle.std.proofs.lemmas.List.{length-take}
use Rattle.std.proofs.lemmas.Bool.{cases_lt}
use Rattle.std.proofs.lemmas.Option.{some_pair_parts}
use Rattle.cet_isa.specs.declared.instruction.Insn.{Insn}
use Rattle.cet_isa.specs.Decoded.{Decoding, decoded}
use Rattle.cet_isa.proofs.Stays.{decoded_within}
use Rattle.cet_cert.proofs.Bytes.{bytes_in_range}
use Rattle.cet_rules.specs.declared.covered.Covered.{Covered}
use Rattle.cet_rules.specs.declared.covered.Covered.TheVariants.{EndBr64, Nop, Jmp, MovEax, JmpRax, Ud2}
use Rattle.cet_rules.specs.declared.function.Function.{Function}
use Rattle.cet_rules.specs.declared.image.Image.{Image}
use Rattle.cet_rules.specs.declared.piece.Piece.{Piece}
use Rattle.cet_rules.specs.declared.piece.PieceKind.TheVariants.{ConstJump}
use Rattle.cet_rules.specs.Image.{bytes_from, end_of, code_from}
use Rattle.cet_rules.specs.Covered.{covered_of}
use Rattle.cet_rules.specs.Piece.{covered_in, instruction_at, prologue_end_by, prologue_end, single, piece_of, piece_by, piece_at, IsCut, first, after}

covered_pair : (o : Option Covered) (i : Covered) (m n : ℕ) → option_map {U = Covered × ℕ} (λ (j : Covered). (j, m)) o ≡ Some (i, n) → (o ≡ Some i) × (m ≡ n)
covered_pair None i m n e = cc
covered_pair (Some j) i m n e = let h = some_pair_parts j i m n e in (ap (λ (k : Covered). Some k) h.0, h.1)

-- what a covered instruction was decoded from
pub covered_parts : (r : Decoding) (i : Covered) (n : ℕ) → covered_in r ≡ Some (i, n) → (x : Insn × ℕ) × (r ≡ Ok x) × (covered_of x.0 ≡ Some i) × (x.1 ≡ n)
covered_parts (Ok x) i n e = let h = covered_pair (covered_of x.0) i x.1 n e in (x, refl, h.0, h.1)
covered_parts (Err e') i n e = cc

-- The ways in which a piece stands at an address: an instruction alone, or a constant and the jump to it.
pub data Stands (image : Image) (f : Function) (a : ℕ) (p : Piece) : Type 0 where
  alone : (i : Covered) (n : ℕ) → instruction_at image f a ≡ Some (i, n) → p ≡ single a i n → Stands image f a p
  jump : (imm n m : ℕ) → instruction_at image f a ≡ Some (MovEax imm, n) → instruction_at image f (a + n) ≡ Some (JmpRax, m) → p ≡ record { at = a; next = (a + n) + m; kind = ConstJump imm (a + n) } → Stands image f a p

module _ (image : Image) (f : Function) where
  -- an instruction has a byte at least, and lies within the function
  pub instruction_fits : (a : ℕ) (i : Covered) (n : ℕ) → instruction_at image f a ≡ Some (i, n) → (0 < n) × (a + n ≤ end_of f)
  instruction_fits a i n e =
      let h = covered_parts (decoded (code_from image f a)) i n e in
      let front = decoded_within (code_from image f a) (h.0).0 (h.0).1 h.1 in
      (omega (arith, h.3, front.0), omega (arith, h.3, front.0, front.1, length-take (end_of f - a) (bytes_from image.segments a)))

  -- and ends before 2^64
  pub instruction_in_range : (a : ℕ) (o : Option (Covered × ℕ)) → o ≡ instruction_at image f a → IfSome o (λ x. (0 < x.1) × (a + x.1 ≤ end_of f) × (a + x.1 < 2 ^ 64))
  instruction_in_range a None e = tt
  instruction_in_range a (Some (i, n)) e =
      let h = covered_parts (decoded (code_from image f a)) i n (sym e) in
      let front = decoded_within (code_from image f a) (h.0).0 (h.0).1 h.1 in
      let some : 0 < length (bytes_from image.segments a) = omega (arith, front.0, front.1, length-take (end_of f - a) (bytes_from image.segments a)) in
      let fits = instruction_fits a i n (sym e) in
      (fits.0, fits.1, omega (arith, h.3, front.1, length-take (end_of f - a) (bytes_from image.segments a), bytes_in_range image a some))

  of_piece : (a : ℕ) (i : Covered) (n : ℕ) (following : Option (Covered × ℕ)) → (piece_of a i n following ≡ single a i n) ⊎ ((imm m : ℕ) × (i ≡ MovEax imm) × (following ≡ Some (JmpRax, m)) × (piece_of a i n following ≡ record { at = a; next = (a + n) + m; kind = ConstJump imm (a + n) }))
  of_piece a (MovEax imm) n (Some (JmpRax, m)) = inr (imm, m, refl, refl, refl)
  of_piece a (MovEax imm) n (Some (EndBr64, m)) = inl refl
  of_piece a (MovEax imm) n (Some (Nop, m)) = inl refl
  of_piece a (MovEax imm) n (Some (Jmp rel, m)) = inl refl
  of_piece a (MovEax imm) n (Some (MovEax other, m)) = inl refl
  of_piece a (MovEax imm) n (Some (Ud2, m)) = inl refl
  of_piece a (MovEax imm) n None = inl refl
  of_piece a EndBr64 n following = inl refl
  of_piece a Nop n following = inl refl
  of_piece a (Jmp rel) n following = inl refl
  of_piece a JmpRax n following = inl refl
  of_piece a Ud2 n following = inl refl

  by_instruction : (a : ℕ) (p : Piece) (o : Option (Covered × ℕ)) → instruction_at image f a ≡ o → piece_by image f a o ≡ Some p → Stands image f a p
  by_instruction a p None is e = cc
  by_instruction a p (Some (i, n)) is e =
      let same : piece_of a i n (instruction_at image f (a + n)) ≡ p = cc in
      elim (of_piece a i n (instruction_at image f (a + n))) [
        | inl is_alone ↦ alone i n is (sym same ∙ is_alone)
        | inr (imm, m, moves, jumps, is_jump) ↦ jump imm n m (is ∙ ap (λ (j : Covered). Some (j, n)) moves) jumps (sym same ∙ is_jump)
      ]

  pub stands : (a : ℕ) (p : Piece) → piece_at image f a ≡ Some p → Stands image f a p
  stands a p e = by_instruction a p (instruction_at image f a) refl e

  fits_by : (a : ℕ) (p : Piece) → Stands image f a p → (p.at ≡ a) × (a < p.next) × (p.next ≤ end_of f)
  fits_by a p (alone i n is same) = let h = instruction_fits a i n is in (ap (λ (q : Piece). q.at) same, omega (arith, h, ap (λ (q : Piece). q.next) same), omega (arith, h, ap (λ (q : Piece). q.next) same))
  fits_by a p (jump imm n m moves jumps same) =
      let h = instruction_fits a (MovEax imm) n moves in
      let k = instruction_fits (a + n) JmpRax m jumps in
      (ap (λ (q : Piece). q.at) same, omega (arith, h, k, ap (λ (q : Piece). q.next) same), omega (arith, h, k, ap (λ (q : Piece). q.next) same))

  -- a piece begins where it stands, is not empty, and lies within the function
  pub piece_fits : (a : ℕ) (p : Piece) → piece_at image f a ≡ Some p → (p.at ≡ a) × (a < p.next) × (p.next ≤ end_of f)
  piece_fits a p e = fits_by a p (stands a p e)

  prologue_by : (o : Option (Covered × ℕ)) → (prologue_end_by f.start o ≡ f.start) ⊎ ((n : ℕ) × (o ≡ Some (EndBr64, n)) × (prologue_end_by f.start o ≡ f.start + n))
  prologue_by (Some (EndBr64, n)) = inr (n, refl, refl)
  prologue_by (Some (Nop, n)) = inl refl
  prologue_by (Some (Jmp rel, n)) = inl refl
  prologue_by (Some (MovEax imm, n)) = inl refl
  prologue_by (Some (JmpRax, n)) = inl refl
  prologue_by (Some (Ud2, n)) = inl refl
  prologue_by None = inl refl

  -- the prologue is an ENDBR64 at the start, or empty
  pub prologue_cases : (prologue_end image f ≡ f.start) ⊎ ((n : ℕ) × (instruction_at image f f.start ≡ Some (EndBr64, n)) × (prologue_end image f ≡ f.start + n))
  prologue_cases = prologue_by (instruction_at image f f.start)

  pub prologue_fits : (f.start ≤ prologue_end image f) × (prologue_end image f ≤ end_of f)
  prologue_fits = elim prologue_cases [
    | inl none ↦ (omega (arith, none), omega (arith, none))
    | inr (n, is, same) ↦ (let h = instruction_fits f.start EndBr64 n is in (omega (arith, same, h), omega (arith, same, h)))
  ]

  pub cut_above : {a : ℕ} → IsCut image f a → prologue_end image f ≤ a
  cut_above (first e) = omega (arith, e)
  cut_above (after {a} {b} {p} cut stands_at e) = omega (arith, cut_above cut, piece_fits a p stands_at, e)

  pub cut_within : {a : ℕ} → IsCut image f a → a ≤ end_of f
  cut_within (first e) = omega (arith, e, prologue_fits)
  cut_within (after {a} {b} {p} cut stands_at e) = omega (arith, piece_fits a p stands_at, e)

  -- the pieces before a end by a
  abbrev pub EndBy : ℕ → Type 0
  EndBy a = (c : ℕ) (q : Piece) → IsCut image f c → c < a → piece_at image f c ≡ Some q → q.next ≤ a

  -- no cut lies inside the piece at a
  pub gap : (a : ℕ) (p : Piece) → EndBy a → prologue_end image f ≤ a → piece_at image f a ≡ Some p → {c : ℕ} → IsCut image f c → (c ≤ a) ⊎ (p.next ≤ c)
  gap a p end_by above is (first e) = inl (omega (arith, e))
  gap a p end_by above is (after {a = c} {b = b} {p = q} cut stands_at e) =
      elim (gap a p end_by above is cut) [
        | inl below ↦ by_place (elim (cases_lt c a) as (λ _. (c < a) ⊎ (c ≡ a)) [ inl h ↦ inl h | inr h ↦ inr (omega arith) ]) cut stands_at e
        | inr far ↦ inr (omega (arith, piece_fits c q stands_at, e))
      ]
    where
      by_place : (c < a) ⊎ (c ≡ a) → IsCut image f c → piece_at image f c ≡ Some q → b ≡ q.next → (b ≤ a) ⊎ (p.next ≤ b)
      by_place (inl before) cut stands_at e = inl (omega (arith, end_by c q cut before stands_at, e))
      by_place (inr here) cut stands_at e = let same : p ≡ q = cc in inr (omega (arith, ap (λ (p : Piece). p.next) same, e))

  pub cut_ends : {a : ℕ} → IsCut image f a → EndBy a
  cut_ends (first e) c q cut before is = absurd (omega (arith, cut_above cut, e))
  cut_ends (after {a} {b} {p} cut stands_at e) c q cut' before is =
      elim (gap a p (cut_ends cut) (cut_above cut) stands_at cut') [
        | inl below ↦ elim (cases_lt c a) [
          | inl less ↦ omega (arith, cut_ends cut c q cut' less is, piece_fits a p stands_at, e)
          | inr more ↦ (let here : c ≡ a = omega arith in let same : p ≡ q = cc in omega (arith, ap (λ (p : Piece). p.next) same, e))
        ]
        | inr far ↦ absurd (omega (arith, e))
      ]

  -- where no piece stands at a cut, no cut lies after it
  pub cut_last : (s : ℕ) → IsCut image f s → piece_at image f s ≡ None → {c : ℕ} → IsCut image f c → c ≤ s
  cut_last s stop none (first e) = omega (arith, cut_above stop, e)
  cut_last s stop none (after {a = c} {b = b} {p = q} cut stands_at e) =
      elim (cases_lt c s) [
        | inl before ↦ omega (arith, cut_ends stop c q cut before stands_at, e)
        | inr past ↦ (let below : c ≤ s = cut_last s stop none cut in let here : c ≡ s = omega arith in absurd cc)
      ]
