-- The entry's function, of an image that keeps the rules.
use Rattle.std.proofs.Common.{◌≡◌, ℕ, suc, Bool, true, false, cond, inl, inr, List, [], ◌∷◌, Option, Some, None, find, slice_get, Contains, ◌==◌, refl, sym, subst, eqb-true}
use Rattle.std.proofs.lemmas.Option.{slice_get_within, get_or_from_slice_get}
use Rattle.cet_rules.specs.declared.function.Function.{Function}
use Rattle.cet_rules.specs.declared.image.Image.{Image}
use Rattle.cet_rules.specs.Regular.{IsFunction}
use Rattle.cet_rules.specs.Image.{function_at}
use Rattle.cet_rules.specs.Rule.{Leaves, IsWrongEntry}
use Rattle.cet_rules.specs.First.{KeepsRules}
use Rattle.cet_invariant.specs.Kept.{KeepsRulesIn}

same : (x f : Function) → Some x ≡ Some f → x ≡ f
same x f e = cc

-- what a search finds stands in the list, and passes the test
found : (test : Function → Bool) (xs : List Function) (f : Function) → find test xs ≡ Some f → (k : ℕ) × (slice_get xs k ≡ Some f) × (test f ≡ true)
found test [] f e = absurd cc
found test (x ∷ xs) f e = of_first (test x) refl e (found test xs f)
  where
    of_first : (b : Bool) → test x ≡ b → cond b (Some x) (find test xs) ≡ Some f → (find test xs ≡ Some f → (k : ℕ) × (slice_get xs k ≡ Some f) × (test f ≡ true)) → (k : ℕ) × (slice_get (x ∷ xs) k ≡ Some f) × (test f ≡ true)
    of_first true t e rest = (0, e, subst (λ (y : Function). test y ≡ true) (same x f e) t)
    of_first false t e rest = let r = rest e in (suc r.0, r.1, r.2)

-- what is known of the entry's function
pub record IsEntered (image : Image) (f : Function) : Type 0 where
  pub at : function_at image image.entry ≡ Some f
  pub start : f.start ≡ image.entry
  pub regular : IsFunction f
  pub keeps : KeepsRulesIn image f
  pub stays : Leaves image f → ⊥

-- a function of the image keeps the rules
kept_in : (image : Image) (f : Function) → KeepsRules image → Contains image.functions f → KeepsRulesIn image f
kept_in image f keeps contains = record {
  instructions = λ a broken. absurd (keeps 6 a (inr (f, contains, inl (refl, broken))));
  jumps = λ a broken. absurd (keeps 8 a (inr (f, contains, inr (inl (refl, broken)))));
  last_piece = λ a broken. absurd (keeps 11 a (inr (f, contains, inr (inr (inl (refl, broken))))));
  entries = λ a broken. absurd (keeps 18 a (inr (f, contains, inr (inr (inr (inl (refl, broken)))))));
  branches = λ a broken. absurd (keeps 19 a (inr (f, contains, inr (inr (inr (inr (refl, broken)))))));
}

pub entered : (image : Image) (f : Function) → KeepsRules image → function_at image image.entry ≡ Some f → IsEntered image f
entered image f keeps e =
    let place = found (λ (g : Function). g.start == image.entry) image.functions f e in
    let contains : Contains image.functions f = (place.0, slice_get_within image.functions place.0 f place.1, get_or_from_slice_get image.functions place.0 f f place.1) in
    record {
      at = e;
      start = eqb-true f.start image.entry place.2;
      regular = image.functions_regular.each place.0 f place.1;
      keeps = kept_in image f keeps contains;
      stays = λ leaves. keeps 5 image.entry (inl (refl, refl, subst (IsWrongEntry image) (sym e) leaves));
    }

-- a function starts at the entry
pub has_entry : (image : Image) → KeepsRules image → (f : Function) × (function_at image image.entry ≡ Some f)
has_entry image keeps = of_function (function_at image image.entry) refl
  where
    of_function : (o : Option Function) → function_at image image.entry ≡ o → (f : Function) × (function_at image image.entry ≡ Some f)
    of_function None e = absurd (keeps 5 image.entry (inl (refl, refl, subst (IsWrongEntry image) (sym e) tt)))
    of_function (Some f) e = (f, e)
