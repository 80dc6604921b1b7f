-- The steps of reading one item.
use Rattle.std.proofs.Common.{◌≡◌, ℕ, ◌+◌, ◌^◌, Bool, true, false, cond, nat_lt, List, [], ◌∷◌, ◌++◌, refl, ◌∙◌, Option, Some, None, Result, Ok, Err}
use Rattle.std.specs.Option.{ok_or}
use Rattle.cet_syntax.specs.declared.statement.Statement.{Statement}
use Rattle.cet_syntax.specs.declared.lines.Item.TheVariants as read
use Rattle.cet_syntax.specs.declared.lines.Numbered.{Numbered}
use Rattle.cet_syntax.specs.Keyword.{Headed, headed_by}
use Rattle.cet_syntax.specs.Statement.{statement_of}
use Rattle.cet_asm.specs.declared.error.AsmKind.{AsmKind}
use Rattle.cet_asm.specs.declared.error.AsmKind.TheVariants as fault
use Rattle.cet_asm.specs.declared.placed.Placed.{Placed}
use Rattle.cet_asm.specs.declared.placed.Step.{Step}
use Rattle.cet_asm.specs.declared.placed.Step.TheVariants.{States}
use Rattle.cet_asm.specs.Emitted.{emitted, size_of}
use Rattle.cet_asm.specs.Assembled.{◌>>=◌, State, demand, stands, by_kind, spot_in, after, step_of, placed_of, placed_from, table_is_known, addends_fit, targets_in, definitions}
use Rattle.cet_asm.specs.Placing.{statement_at, end_at, end_of}

-- what is asked of a statement that was read
rest_of : List Placed → State → Statement → Result Step AsmKind
rest_of before s st = do
  _ ← demand (table_is_known before s st) fault.Operand
  _ ← demand (nat_lt (s.sizes s.section + size_of (s.sizes s.section) st) (2 ^ 64)) fault.Range
  _ ← demand (addends_fit (emitted (targets_in (definitions before)) (spot_in s) st).uses) fault.Range
  Ok (States st)

step_of-body : (before : List Placed) (s : State) (cs : List ℕ) → step_of before s (read.Body cs) ≡ (statement_at s cs >>= rest_of before s)
unfolding rest_of
step_of-body before s cs = by_head (headed_by cs) where
  by_head : (h : Option Headed) → (ok_or h fault.Word >>= (λ headed. demand (stands s headed.keyword) fault.Word >>= (λ u. by_kind (statement_of headed.keyword headed.rest) >>= rest_of before s))) ≡ ((ok_or h fault.Word >>= (λ headed. demand (stands s headed.keyword) fault.Word >>= (λ u. by_kind (statement_of headed.keyword headed.rest)))) >>= rest_of before s)
  by_head None = refl
  by_head (Some h) = elim (stands s h.keyword) as (λ b. (demand b fault.Word >>= (λ u. by_kind (statement_of h.keyword h.rest) >>= rest_of before s)) ≡ ((demand b fault.Word >>= (λ u. by_kind (statement_of h.keyword h.rest))) >>= rest_of before s)) [ true ↦ refl | false ↦ refl ]

pub step_of-misread : (before : List Placed) (s : State) (cs : List ℕ) (kind : AsmKind) → statement_at s cs ≡ Err kind → step_of before s (read.Body cs) ≡ Err kind
step_of-misread before s cs kind e = step_of-body before s cs ∙ rw e refl

pub step_of-unknown : (before : List Placed) (s : State) (cs : List ℕ) (st : Statement) → statement_at s cs ≡ Ok st → table_is_known before s st ≡ false → step_of before s (read.Body cs) ≡ Err fault.Operand
unfolding rest_of
step_of-unknown before s cs st e known = step_of-body before s cs ∙ rw (e, known) refl

pub step_of-long : (before : List Placed) (s : State) (cs : List ℕ) (st : Statement) (kind : AsmKind) → statement_at s cs ≡ Ok st → table_is_known before s st ≡ true → end_of (s.sizes s.section) st ≡ Err kind → step_of before s (read.Body cs) ≡ Err kind
unfolding rest_of
step_of-long before s cs st kind e known long = step_of-body before s cs ∙ rw (e, known) (by_end (nat_lt (s.sizes s.section + size_of (s.sizes s.section) st) (2 ^ 64)) long) where
  by_end : (b : Bool) → cond b (Ok (s.sizes s.section + size_of (s.sizes s.section) st)) (Err fault.Range) ≡ Err kind → (demand b fault.Range >>= (λ u. demand (addends_fit (emitted (targets_in (definitions before)) (spot_in s) st).uses) fault.Range >>= (λ v. Ok (States st)))) ≡ Err kind
  by_end true h = cc
  by_end false h = cc

end-fits : (n end : ℕ) → end_at n ≡ Ok end → nat_lt n (2 ^ 64) ≡ true
end-fits n end e = by_end (nat_lt n (2 ^ 64)) refl where
  by_end : (b : Bool) → nat_lt n (2 ^ 64) ≡ b → nat_lt n (2 ^ 64) ≡ true
  by_end true h = h
  by_end false h = let e' : Err fault.Range ≡ Ok end = rw h at e in cc

pub end-is : (n end : ℕ) → end_at n ≡ Ok end → end ≡ n
end-is n end e = by_end (nat_lt n (2 ^ 64)) refl where
  by_end : (b : Bool) → nat_lt n (2 ^ 64) ≡ b → end ≡ n
  by_end true h = let e' : Ok n ≡ Ok end = rw h at e in cc
  by_end false h = let e' : Err fault.Range ≡ Ok end = rw h at e in cc

pub step_of-wide : (before : List Placed) (s : State) (cs : List ℕ) (st : Statement) (end : ℕ) → statement_at s cs ≡ Ok st → table_is_known before s st ≡ true → end_of (s.sizes s.section) st ≡ Ok end → addends_fit (emitted (targets_in (definitions before)) (spot_in s) st).uses ≡ false → step_of before s (read.Body cs) ≡ Err fault.Range
unfolding rest_of
step_of-wide before s cs st end e known ends wide = step_of-body before s cs ∙ rw (e, known, end-fits _ end ends, wide) refl

pub step_of-good : (before : List Placed) (s : State) (cs : List ℕ) (st : Statement) (end : ℕ) → statement_at s cs ≡ Ok st → table_is_known before s st ≡ true → end_of (s.sizes s.section) st ≡ Ok end → addends_fit (emitted (targets_in (definitions before)) (spot_in s) st).uses ≡ true → step_of before s (read.Body cs) ≡ Ok (States st)
unfolding rest_of
step_of-good before s cs st end e known ends fit = step_of-body before s cs ∙ rw (e, known, end-fits _ end ends, fit) refl

-- one item more in its place, or the first fault
pub placed_from-good : (before : List Placed) (s : State) (item : Numbered) (items : List Numbered) (p : Placed) → placed_of before s item ≡ Ok p → placed_from before s (item ∷ items) ≡ placed_from (before ++ p ∷ []) (after s p.step) items
placed_from-good before s item items p e = rw e refl

pub placed_from-bad : (before : List Placed) (s : State) (item : Numbered) (items : List Numbered) (kind : AsmKind) → placed_of before s item ≡ Err kind → placed_from before s (item ∷ items) ≡ Err (record { line = item.line; kind = kind })
placed_from-bad before s item items kind e = rw e refl
