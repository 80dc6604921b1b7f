-- Where a function has a position without an instruction: only where the cutting stops before the function's end.
use Rattle.std.proofs.Common.{◌≡◌, ℕ, ◌+◌, ◌<◌, ◌⊎◌, Option, Some, None, refl, sym, ap, ◌∙◌, subst, inl, inr, arith}
use Rattle.std.proofs.lemmas.Bool.{cases_lt}
use Rattle.std.proofs.lemmas.Option.{some_pair_parts}
use Rattle.cet_rules.specs.declared.covered.Covered.{Covered}
use Rattle.cet_rules.specs.declared.covered.Covered.TheVariants.{EndBr64, MovEax, JmpRax}
use Rattle.cet_rules.specs.declared.function.Function.{Function}
use Rattle.cet_rules.specs.declared.image.Image.{Image}
use Rattle.cet_rules.specs.declared.piece.Piece.{Piece}
use Rattle.cet_rules.specs.Image.{end_of}
use Rattle.cet_rules.specs.Piece.{instruction_at, piece_of, piece_by, piece_at, IsPosition, IsCut, IsPiece, start, first, after}
use Rattle.cet_rules.specs.Rule.{HasNoForm}
use Rattle.cet_cert.specs.Survey.{IsStop}
use Rattle.cet_cert.proofs.Cuts.{Stands, alone, jump, stands, piece_fits, prologue_cases, cut_last}

module _ (image : Image) (f : Function) where
  -- an instruction stands at b, and a cut follows it
  abbrev Precedes : ℕ → Type 0
  Precedes b = (i : Covered) × (n : ℕ) × (instruction_at image f b ≡ Some (i, n)) × IsCut image f (b + n)

  after_stand : (a b n : ℕ) (i : Covered) (p : Piece) → IsCut image f a → piece_at image f a ≡ Some p → instruction_at image f a ≡ Some (i, n) → b ≡ a + n → Stands image f a p → IsCut image f b ⊎ Precedes b
  after_stand a b n i p cut at is e (alone j m js same) =
      let lengths = some_pair_parts j i m n (sym js ∙ is) in
      inl (after cut at (omega (arith, e, lengths.1, ap (λ (q : Piece). q.next) same)))
  after_stand a b n i p cut at is e (jump imm m k moves jumps same) =
      let lengths = some_pair_parts (MovEax imm) i m n (sym moves ∙ is) in
      let here : a + m ≡ b = omega (arith, e, lengths.1) in
      inr (subst (λ (x : ℕ). Precedes x) here (JmpRax, k, jumps, after cut at (sym (ap (λ (q : Piece). q.next) same))))

  after_cut : (a b n : ℕ) (i : Covered) → IsCut image f a → instruction_at image f a ≡ Some (i, n) → b ≡ a + n → IsCut image f b ⊎ Precedes b
  after_cut a b n i cut is e =
      let p : Piece = piece_of a i n (instruction_at image f (a + n)) in
      let at : piece_at image f a ≡ Some p = ap (λ (o : Option (Covered × ℕ)). piece_by image f a o) is in
      after_stand a b n i p cut at is e (stands image f a p at)

  -- a position is a cut, or lies inside a piece or the prologue
  position_cases : {b : ℕ} → IsPosition image f b → IsCut image f b ⊎ Precedes b
  position_cases start = elim (prologue_cases image f) [
    | inl none ↦ inl (first (sym none))
    | inr (n, is, same) ↦ inr (EndBr64, n, is, first (sym same))
  ]
  position_cases (after {a = a} {b = b} {n = n} {i = i} position is e inside) = elim (position_cases position) [
    | inl cut ↦ after_cut a b n i cut is e
    | inr (j, m, js, cut) ↦ (let lengths = some_pair_parts j i m n (sym js ∙ is) in let here : a + m ≡ b = omega (arith, e, lengths.1) in inl (subst (λ (x : ℕ). IsCut image f x) here cut))
  ]

  position_inside : {b : ℕ} → 0 < f.size → IsPosition image f b → b < end_of f
  position_inside some start = omega arith
  position_inside some (after position is e inside) = inside

  position_by : (a b : ℕ) (p : Piece) → IsPosition image f a → Stands image f a p → b ≡ p.next → b < end_of f → IsPosition image f b
  position_by a b p position (alone i n is same) e inside = after position is (e ∙ ap (λ (q : Piece). q.next) same) inside
  position_by a b p position (jump imm n m moves jumps same) e inside =
      let next : b ≡ (a + n) + m = e ∙ ap (λ (q : Piece). q.next) same in
      after (after position moves refl (omega (arith, next))) jumps next inside

  cut_position : {a : ℕ} → IsCut image f a → a < end_of f → IsPosition image f a
  cut_position (first e) inside = elim (prologue_cases image f) [
    | inl none ↦ subst (λ (x : ℕ). IsPosition image f x) (sym (e ∙ none)) start
    | inr (n, is, same) ↦ after start is (e ∙ same) inside
  ]
  cut_position (after {a = a} {b = b} {p = p} cut at e) inside =
      position_by a b p (cut_position cut (omega (arith, piece_fits image f a p at, e))) (stands image f a p at) e inside

  no_instruction : (a : ℕ) (o : Option (Covered × ℕ)) → piece_by image f a o ≡ None → o ≡ None
  no_instruction a None e = refl
  no_instruction a (Some x) e = cc

  stop_of_no_form : (b : ℕ) → HasNoForm image f b → IsStop image f b
  stop_of_no_form b none = elim (position_cases none.0) [
    | inl cut ↦ record { cut = cut; last = ap (λ (o : Option (Covered × ℕ)). piece_by image f b o) none.1 }
    | inr (i, n, is, cut) ↦ (let no : instruction_at image f b ≡ None = none.1 in absurd cc)
  ]

  same_stop : (s b : ℕ) → IsStop image f s → IsStop image f b → b ≡ s
  same_stop s b stop other = omega (arith, cut_last image f s stop.cut stop.last other.cut, cut_last image f b other.cut other.last stop.cut)

  -- the only position without an instruction is where the cutting stops, if that is inside the function
  pub no_form_at : (s b : ℕ) → 0 < f.size → IsStop image f s → HasNoForm image f b → (b ≡ s) × (s < end_of f)
  no_form_at s b some stop none =
      let same = same_stop s b stop (stop_of_no_form b none) in
      (same, omega (arith, same, position_inside some none.0))

  pub no_form_here : (s : ℕ) → IsStop image f s → s < end_of f → HasNoForm image f s
  no_form_here s stop inside = (cut_position stop.cut inside, no_instruction s (instruction_at image f s) stop.last)

  -- each piece starts before the cutting stops
  pub piece_before : (s : ℕ) (q : Piece) → IsStop image f s → IsPiece image f q → q.at < s
  piece_before s q stop piece =
      let below = cut_last image f s stop.cut stop.last piece.cut in
      elim (cases_lt q.at s) [
        | inl before ↦ before
        | inr past ↦ (
            let here : q.at ≡ s = omega arith in
            let at : piece_at image f s ≡ Some q = subst (λ (x : ℕ). piece_at image f x ≡ Some q) here piece.stands in
            let none : piece_at image f s ≡ None = stop.last in
            absurd cc)
      ]
