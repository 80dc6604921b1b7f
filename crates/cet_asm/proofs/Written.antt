-- What each statement that was read keeps: the bound of a record's place, and a boundary above 0.
use Rattle.std.proofs.Common.{◌≡◌, ℕ, zero, suc, ◌<◌, ◌^◌, Bool, true, false, List, length, refl, sym, Option, Some, None, Result, Ok, Err, ℤ, pos, negsuc, ◌+ℤ◌, ◌≤ℤ◌, ◌==◌, arith}
use Rattle.std.specs.Prelude.{IfOk, if◌then◌else◌}
use Rattle.std.specs.Option.{option_and_then}
use Rattle.std.specs.Int.{w32}
use Rattle.std.proofs.lemmas.Bool.Decides.{nat_tests}
use Rattle.std.proofs.lemmas.Int.{ints}
use Rattle.cet_isa.specs.Canonical.{fits}
use Rattle.cet_syntax.specs.declared.number.Number.{Number}
use Rattle.cet_syntax.specs.declared.error.SyntaxError.{SyntaxError}
use Rattle.cet_syntax.specs.declared.error.SyntaxError.TheVariants as fault
use Rattle.cet_syntax.specs.declared.operand.Constant.TheVariants as constant
use Rattle.cet_syntax.specs.declared.operand.Operand.TheVariants as operand
use Rattle.cet_syntax.specs.declared.operands.Operands.{Operands}
use Rattle.cet_syntax.specs.declared.operands.Operands.TheVariants.{Zero, One, Two}
use Rattle.cet_syntax.specs.declared.keyword.Keyword.{Keyword}
use Rattle.cet_syntax.specs.declared.keyword.Keyword.TheVariants as keyword
use Rattle.cet_syntax.specs.declared.keyword.DirectiveWord.{DirectiveWord}
use Rattle.cet_syntax.specs.declared.keyword.DirectiveWord.TheVariants as dword
use Rattle.cet_syntax.specs.declared.keyword.SiteWord.{SiteWord}
use Rattle.cet_syntax.specs.declared.keyword.SiteWord.TheVariants as sword
use Rattle.cet_syntax.specs.declared.statement.Directive.{Directive}
use Rattle.cet_syntax.specs.declared.statement.Directive.TheVariants as directive
use Rattle.cet_syntax.specs.declared.template.Reference.{Reference}
use Rattle.cet_syntax.specs.declared.statement.Site.{Site}
use Rattle.cet_syntax.specs.declared.statement.Site.TheVariants as site
use Rattle.cet_syntax.specs.declared.statement.Statement.{Statement}
use Rattle.cet_syntax.specs.declared.statement.Statement.TheVariants as statement
use Rattle.cet_syntax.specs.Instruction.{◌>>=◌, in_range, reference_to, instruction}
use Rattle.cet_syntax.specs.Number.{signed_field, unsigned_field}
use Rattle.cet_syntax.specs.Name.{name_of}
use Rattle.cet_syntax.specs.Pieces.{first_word, behind_first_word}
use Rattle.cet_syntax.specs.Operands.{operands_of}
use Rattle.cet_syntax.specs.Statement.{asked, statement_of, directive_of, section_of, quad_of, byte_of, two_names, note_words, size_field, alignment_of, is_alignment, record_field, site_of, land_of}
use Rattle.cet_asm.specs.Placing.{IsWritten}

-- what holds of each value that comes last holds of the whole
bind : {A B : Type 0} (P : B → Type 0) (r : Result A SyntaxError) (f : A → Result B SyntaxError) → ((x : A) → r ≡ Ok x → IfOk (f x) P) → IfOk (r >>= f) P
bind P (Ok x) f h = h x refl
bind P (Err e) f h = tt

fits-le : (z : ℤ) → fits w32 z ≡ true → z ≤ℤ pos 2147483647
fits-le (pos n) e = let h : n < 2147483648 = grind (arith, nat_tests) in omega (arith, ints)
fits-le (negsuc n) e = omega (arith, ints)

record_field-written : (o : Option ℤ) (z : ℤ) → option_and_then (λ place. if fits w32 (place +ℤ pos 32) then Some place else None) o ≡ Some z → (z +ℤ pos 32) ≤ℤ pos 2147483647
record_field-written None z e = cc
record_field-written (Some place) z e = by_fit (fits w32 (place +ℤ pos 32)) refl where
  by_fit : (b : Bool) → fits w32 (place +ℤ pos 32) ≡ b → (z +ℤ pos 32) ≤ℤ pos 2147483647
  by_fit true f = let e' : Some place ≡ Some z = rw f at e in let same : place ≡ z = cc in rw (← same) (fits-le (place +ℤ pos 32) f)
  by_fit false f = let e' : None ≡ Some z = rw f at e in cc

in_range-some : {A : Type 0} (o : Option A) (x : A) → in_range o ≡ Ok x → o ≡ Some x
in_range-some None x e = cc
in_range-some (Some y) x e = cc

alignment-above : (n boundary : ℕ) → alignment_of n ≡ Some boundary → 0 < boundary
alignment-above zero boundary e = cc
alignment-above (suc n) boundary e = by_test (is_alignment (suc n)) refl where
  by_test : (b : Bool) → is_alignment (suc n) ≡ b → 0 < boundary
  by_test true f = let e' : Some (suc n) ≡ Some boundary = rw f at e in let same : suc n ≡ boundary = cc in omega arith
  by_test false f = let e' : None ≡ Some boundary = rw f at e in cc

-- one reading, and what is made of it
made : {A B : Type 0} (P : B → Type 0) (f : A → B) (r : Result A SyntaxError) → IfOk r (λ x. P (f x)) → IfOk (r >>= (λ x. Ok (f x))) P
made P f (Ok x) h = h
made P f (Err e) h = tt

always : {A : Type 0} (r : Result A SyntaxError) (P : A → Type 0) → ((x : A) → P x) → IfOk r P
always (Ok x) P h = h x
always (Err e) P h = tt

of_directive : Directive → Type 0
of_directive d = IsWritten (statement.Directive d)

of_site : Site → Type 0
of_site s = IsWritten (statement.Site s)

single : {A B : Type 0} (P : B → Type 0) (f : A → B) (r : Result A SyntaxError) → ((x : A) → P (f x)) → IfOk (r >>= (λ x. Ok (f x))) P
single P f r h = made P f r (always r (λ x. P (f x)) h)

align_case : (n : ℕ) (o : Option ℕ) → alignment_of n ≡ o → IfOk (in_range o >>= (λ boundary. Ok (directive.Align boundary))) of_directive
unfolding of_directive
align_case n None e = tt
align_case n (Some boundary) e = alignment-above n boundary e

end_case : (b : Bool) → IfOk (if b then Ok directive.End else Err fault.Operand) of_directive
unfolding of_directive
end_case true = tt
end_case false = tt

written_directive : (w : DirectiveWord) (cs : List ℕ) → IfOk (directive_of w cs) of_directive
unfolding of_directive
written_directive dword.Section cs = single of_directive directive.Section (asked (section_of cs)) (λ x. tt)
written_directive dword.Func cs = single of_directive directive.Func (asked (name_of cs)) (λ x. tt)
written_directive dword.End cs = end_case (length cs == 0)
written_directive dword.Object cs = bind of_directive (asked (name_of (first_word cs))) (λ name. size_field (behind_first_word cs) >>= (λ size. Ok (directive.Object name size))) (λ name e. single of_directive (directive.Object name) (size_field (behind_first_word cs)) (λ x. tt))
written_directive dword.Global cs = single of_directive directive.Global (asked (name_of cs)) (λ x. tt)
written_directive dword.Word cs = single of_directive directive.Word (quad_of cs) (λ x. tt)
written_directive dword.Byte cs = single of_directive directive.Byte (byte_of cs) (λ x. tt)
written_directive dword.Zero cs = single of_directive directive.Zero (size_field cs) (λ x. tt)
written_directive dword.Align cs = bind of_directive (size_field cs) (λ n. in_range (alignment_of n) >>= (λ boundary. Ok (directive.Align boundary))) (λ n e. align_case n (alignment_of n) refl)
written_directive dword.Off cs = single of_directive (λ names. directive.Off names.0 names.1) (asked (two_names cs)) (λ x. tt)
written_directive dword.Note cs = single of_directive directive.Note (asked (note_words cs)) (λ x. tt)

land_case : (d : Number) (landing : Result Reference SyntaxError) (o : Option ℤ) → record_field d ≡ o → IfOk (in_range o >>= (λ place. landing >>= (λ l. Ok (site.Land place l)))) of_site
unfolding of_site
land_case d landing None e = tt
land_case d landing (Some place) e = single of_site (site.Land place) landing (λ l. record_field-written (signed_field (2 ^ 31) d) place e)

written_land : (operands : Operands) → IfOk (land_of operands) of_site
written_land (Two (operand.Constant (constant.Number d)) (operand.Constant (constant.Address l))) = land_case d (reference_to l) (record_field d) refl
written_land _ = tt

written_release : (operands : Operands) → IfOk (site_of sword.Release operands) of_site
unfolding of_site
written_release (One (operand.Constant (constant.Number d))) = single of_site site.Release (in_range (signed_field (2 ^ 31) d)) (λ x. tt)
written_release _ = tt

written_throw : (operands : Operands) → IfOk (site_of sword.Throw operands) of_site
unfolding of_site
written_throw Zero = tt
written_throw _ = tt

written_switch : (operands : Operands) → IfOk (site_of sword.Switch operands) of_site
unfolding of_site
written_switch (Two (operand.Constant (constant.Address t)) (operand.Constant (constant.Address p))) = bind of_site (reference_to t) (λ x. reference_to p >>= (λ y. Ok (site.Switch x y))) (λ x e. single of_site (site.Switch x) (reference_to p) (λ y. tt))
written_switch _ = tt

written_fiber_make : (operands : Operands) → IfOk (site_of sword.FiberMake operands) of_site
unfolding of_site
written_fiber_make (Two (operand.Constant (constant.Address p)) (operand.Constant (constant.Address f))) = bind of_site (reference_to p) (λ x. reference_to f >>= (λ y. Ok (site.FiberMake x y))) (λ x e. single of_site (site.FiberMake x) (reference_to f) (λ y. tt))
written_fiber_make _ = tt

written_spawn : (operands : Operands) → IfOk (site_of sword.Spawn operands) of_site
unfolding of_site
written_spawn (One (operand.Name name)) = tt
written_spawn _ = tt

written_action : (operands : Operands) → IfOk (site_of sword.Action operands) of_site
unfolding of_site
written_action (Two (operand.Constant (constant.Number s)) (operand.Constant (constant.Address a))) = bind of_site (in_range (unsigned_field (2 ^ 32) s)) (λ x. reference_to a >>= (λ y. Ok (site.Action x y))) (λ x e. single of_site (site.Action x) (reference_to a) (λ y. tt))
written_action _ = tt

written_read : (operands : Operands) → IfOk (site_of sword.Read operands) of_site
unfolding of_site
written_read (Two (operand.Constant (constant.Address a)) (operand.Constant (constant.Number n))) = bind of_site (reference_to a) (λ x. in_range (unsigned_field (2 ^ 32) n) >>= (λ y. Ok (site.Read x y))) (λ x e. single of_site (site.Read x) (in_range (unsigned_field (2 ^ 32) n)) (λ y. tt))
written_read _ = tt

written_site : (w : SiteWord) (operands : Operands) → IfOk (site_of w operands) of_site
written_site sword.Land operands = written_land operands
written_site sword.Release operands = written_release operands
written_site sword.Throw operands = written_throw operands
written_site sword.Switch operands = written_switch operands
written_site sword.FiberMake operands = written_fiber_make operands
written_site sword.Spawn operands = written_spawn operands
written_site sword.Action operands = written_action operands
written_site sword.Read operands = written_read operands

ok_all : {A : Type 0} (P : A → Type 0) (r : Result A SyntaxError) → IfOk r P → (x : A) → r ≡ Ok x → P x
ok_all P (Ok y) h x e = let same : y ≡ x = cc in rw (← same) h
ok_all P (Err y) h x e = cc

pub IsWritten-read : (k : Keyword) (rest : List ℕ) → IfOk (statement_of k rest) IsWritten
unfolding of_directive of_site
IsWritten-read (keyword.Instruction w) rest = bind IsWritten (asked (operands_of rest)) (λ operands. instruction w operands >>= (λ c. Ok (statement.Code c))) (λ operands e. single IsWritten statement.Code (instruction w operands) (λ c. tt))
IsWritten-read (keyword.Directive w) rest = made IsWritten statement.Directive (directive_of w rest) (written_directive w rest)
IsWritten-read (keyword.Site w) rest = bind IsWritten (asked (operands_of rest)) (λ operands. site_of w operands >>= (λ s. Ok (statement.Site s))) (λ operands e. made IsWritten statement.Site (site_of w operands) (written_site w operands))

pub IsWritten-of : (k : Keyword) (rest : List ℕ) (st : Statement) → Ok st ≡ statement_of k rest → IsWritten st
IsWritten-of k rest st e = ok_all IsWritten (statement_of k rest) (IsWritten-read k rest) st (sym e)
