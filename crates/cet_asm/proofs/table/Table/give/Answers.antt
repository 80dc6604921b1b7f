use Rattle.std.proofs.Common.{◌≡◌, ℕ, Bool, true, false, cond, List, Option, Some, None, refl, ◌∙◌, subst, rules}
use Rattle.std.specs.Option.{option_or}
use Rattle.std.specs.Str.{bytes_eq}
use Rattle.std.proofs.lemmas.Slice.Eq.{bytes_eq-Decides}
use Rattle.std.proofs.lemmas.Map.Text.{hash_map_updates_str}
use Rattle.cet_asm.specs.Tables.{number_at}
use Rattle.cet_asm.proofs.table.Table.give.Goals as goal

given : (b : Bool) (old : List ℕ → Option ℕ) (key other : List ℕ) (n : ℕ) → (b ≡ true → key ≡ other) → old key ≡ None → cond b (Some n) (old other) ≡ option_or (old other) (cond b (Some n) None)
given true old key other n same free = let h : old other ≡ None = subst (λ k. old k ≡ None) (same refl) free in rw h refl
given false old key other n same free = nothing (old other) where
  nothing : (o : Option ℕ) → o ≡ option_or o None
  nothing None = refl
  nothing (Some x) = refl

pub returns-in_ok-insert : goal.returns-in_ok-insert
returns-in_ok-insert c = λ other.
    let key = c.args.name.now in
    let old = number_at c.args.self.now in
    let free : old key ≡ None = search rules in
    let after = hash_map_updates_str key c.args.self.now.numbers c.insert.new.self (Some c.args.number) c.in_ok-insert.ensures.updates other in
    after ∙ given (bytes_eq key other) old key other c.args.number (bytes_eq-Decides key other).0 free
