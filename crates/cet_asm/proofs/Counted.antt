-- A statement that may come is counted, and one that may not is refused.
use Rattle.std.proofs.Common.{◌≡◌, ℕ, ◌+◌, ◌<◌, ◌≤◌, Bool, true, false, cond, ◌||◌, ◌&&◌, inl, inr, nat_lt, nat_le, List, [], ◌∷◌, ◌++◌, length, map, refl, sym, ◌∙◌, ap, arith, Option, Some, None}
use Rattle.std.specs.Str.{bytes_eq}
use Rattle.std.proofs.lemmas.Bool.Decides.{nat_tests}
use Rattle.cet_asm.specs.declared.error.AsmKind.{AsmKind}
use Rattle.cet_asm.specs.declared.error.AsmKind.TheVariants as fault
use Rattle.cet_asm.specs.declared.placed.Placed.{Placed}
use Rattle.cet_asm.specs.declared.placed.Step.{Step}
use Rattle.cet_asm.specs.declared.names.Target.{Target}
use Rattle.cet_asm.specs.declared.names.Names.{Names}
use Rattle.cet_asm.specs.declared.counts.Counts.{Counts}
use Rattle.cet_asm.specs.declared.usage.Use.{Use}
use Rattle.cet_asm.specs.Assembled.{names_met, defines_anew, keeps_limits}
use Rattle.cet_asm.specs.Names.{place_at, count_of}
use Rattle.cet_asm.specs.Placing.{mark_at, marked_names, names_defined, names_used, short_names, is_note, relocations_of, IsMet, IsPlaceOf, MeetsNames, DefinesMark, IsFresh, IsTaken, IsCounted, Describes, Admits, Refuses}
use Rattle.cet_asm.proofs.Once.{same_text}
use Rattle.cet_asm.proofs.Marks.{names_defined-one, IsPlaceOf-one}
use Rattle.cet_asm.proofs.CountLemmas.{names_used-one, relocations_of-one, notes-one, is_fresh, defines_anew-of_mark}

-- the names after the statement
met_one : (before : List Placed) (p : Placed) (step : Step) (mark : Option (List ℕ × Target)) (uses : List Use) (old mid new : Names) → IsMet (names_defined before) (names_used before) old → Describes p step mark uses → DefinesMark old mid mark → MeetsNames mid new (short_names step ++ map (λ u. u.name) uses) → IsMet (names_defined (before ++ p ∷ [])) (names_used (before ++ p ∷ [])) new
met_one before p step mark uses old mid new met d defines meets =
    rw (names_defined-one before p, names_used-one before p, d.mark, d.used) (meets.met (names_defined before ++ marked_names mark) (names_used before) (defines.met (names_defined before) (names_used before) met))

-- a name that had no place
had_none : (names : Names) (mark : Option (List ℕ × Target)) → IsFresh names mark → (q : List ℕ) (m : List ℕ × Target) → mark ≡ Some m → bytes_eq m.0 q ≡ true → place_at names q ≡ None
had_none names None fresh q m e same = cc
had_none names (Some n) fresh q m e same =
    let first : n.0 ≡ m.0 = ap (λ (o : Option (List ℕ × Target)). name_of o) e in
    let text = same_text m.0 q same in
    rw (← text, ← first) fresh where
      name_of : Option (List ℕ × Target) → List ℕ
      name_of None = []
      name_of (Some k) = k.0

places_one : (before : List Placed) (p : Placed) (mark : Option (List ℕ × Target)) (old mid new : Names) → ((q : List ℕ) → IsPlaceOf before q (place_at old q)) → mark_at p ≡ mark → DefinesMark old mid mark → IsFresh old mark → ((q : List ℕ) → place_at new q ≡ place_at mid q) → (q : List ℕ) → IsPlaceOf (before ++ p ∷ []) q (place_at new q)
places_one before p mark old mid new places marks defines fresh meets q =
    rw (meets q, defines.places q, ← marks) (IsPlaceOf-one before p q (place_at old q) (places q) (λ m e same. had_none old mark fresh q m (sym marks ∙ e) same))

pub IsCounted-one : (before : List Placed) (p : Placed) (step : Step) (mark : Option (List ℕ × Target)) (uses : List Use) (old new : Counts) (mid : Names) → IsCounted before old → Describes p step mark uses → DefinesMark old.names mid mark → IsFresh old.names mark → MeetsNames mid new.names (short_names step ++ map (λ u. u.name) uses) → new.relocations ≡ old.relocations + length uses → new.relocations ≤ 1000000 → cond new.noted 1 0 ≡ cond old.noted 1 0 + cond (is_note step) 1 0 → IsCounted (before ++ p ∷ []) new
IsCounted-one before p step mark uses old new mid c d defines fresh meets relocations few notes = record {
  met = met_one before p step mark uses old.names mid new.names c.met d defines meets;
  places = places_one before p mark old.names mid new.names c.places d.mark defines fresh meets.places;
  relocated = relocations ∙ ap (λ n. n + length uses) c.relocated ∙ ap (λ n. relocations_of before + n) (sym d.count) ∙ sym (relocations_of-one before p);
  notes = notes-one before p ∙ ap (λ n. n + cond (is_note p.step) 1 0) c.notes ∙ ap (λ s. cond old.noted 1 0 + cond (is_note s) 1 0) d.step ∙ sym notes;
  few = few;
}

fresh_among : (before : List Placed) (names : Names) (mark : Option (List ℕ × Target)) → ((q : List ℕ) → IsPlaceOf before q (place_at names q)) → IsFresh names mark → is_fresh (names_defined before) mark ≡ true
fresh_among before names None places fresh = refl
fresh_among before names (Some m) places fresh = rw ((places m.0).defined, fresh) refl

taken_among : (before : List Placed) (names : Names) (mark : Option (List ℕ × Target)) → ((q : List ℕ) → IsPlaceOf before q (place_at names q)) → IsTaken names mark → is_fresh (names_defined before) mark ≡ false
taken_among before names None places taken = absurd taken
taken_among before names (Some m) places taken = rw ((places m.0).defined, taken) refl

one_note : (a b : Bool) → (a && b) ≡ false → nat_le (cond a 1 0 + cond b 1 0) 1 ≡ true
one_note true true e = cc
one_note true false e = refl
one_note false true e = refl
one_note false false e = refl

two_notes : (a b : Bool) → (a && b) ≡ true → nat_le (cond a 1 0 + cond b 1 0) 1 ≡ false
two_notes true true e = refl
two_notes true false e = cc
two_notes false b e = cc

and_false : (b : Bool) → (b && false) ≡ false
and_false true = refl
and_false false = refl

pub anew-good : (before : List Placed) (p : Placed) (step : Step) (mark : Option (List ℕ × Target)) (uses : List Use) (old : Counts) → IsCounted before old → Describes p step mark uses → IsFresh old.names mark → (old.noted && is_note step) ≡ false → defines_anew before p ≡ true
anew-good before p step mark uses old c d fresh notes =
    defines_anew-of_mark before p ∙ rw (d.mark, d.step, c.notes, fresh_among before old.names mark c.places fresh) (one_note old.noted (is_note step) notes)

pub anew-taken : (before : List Placed) (p : Placed) (step : Step) (mark : Option (List ℕ × Target)) (uses : List Use) (old : Counts) → IsCounted before old → Describes p step mark uses → IsTaken old.names mark → defines_anew before p ≡ false
anew-taken before p step mark uses old c d taken =
    defines_anew-of_mark before p ∙ rw (d.mark, taken_among before old.names mark c.places taken) refl

pub anew-noted : (before : List Placed) (p : Placed) (step : Step) (mark : Option (List ℕ × Target)) (uses : List Use) (old : Counts) → IsCounted before old → Describes p step mark uses → (old.noted && is_note step) ≡ true → defines_anew before p ≡ false
anew-noted before p step mark uses old c d notes =
    defines_anew-of_mark before p ∙ rw (d.step, c.notes, two_notes old.noted (is_note step) notes) (and_false _)

-- the limits, by what was counted
pub keeps_limits-counted : (before : List Placed) (p : Placed) (step : Step) (mark : Option (List ℕ × Target)) (uses : List Use) (old : Counts) (mid new : Names) → IsCounted before old → Describes p step mark uses → DefinesMark old.names mid mark → MeetsNames mid new (short_names step ++ map (λ u. u.name) uses) → keeps_limits (before ++ p ∷ []) ≡ (nat_lt (count_of new) 65536 && nat_le (old.relocations + length uses) 1000000)
keeps_limits-counted before p step mark uses old mid new c d defines meets =
    let met = met_one before p step mark uses old.names mid new c.met d defines meets in
    let counted : length (names_met (before ++ p ∷ [])) ≡ count_of new = sym met.count in
    let relocated : relocations_of (before ++ p ∷ []) ≡ old.relocations + length uses = relocations_of-one before p ∙ ap (λ n. relocations_of before + n) d.count ∙ ap (λ n. n + length uses) (sym c.relocated) in
    rw (counted, relocated) refl

pub Admits-all : (step : Step) (mark : Option (List ℕ × Target)) (uses : List Use) (old new : Counts) (mid : Names) → DefinesMark old.names mid mark → IsFresh old.names mark → MeetsNames mid new.names (short_names step ++ map (λ u. u.name) uses) → (old.noted && is_note step) ≡ false → count_of new.names < 65536 → new.relocations ≡ old.relocations + length uses → (old.relocations ≤ 1000000 → new.relocations ≤ 1000000) → new.noted ≡ (old.noted || is_note step) → Admits old new step mark uses
Admits-all step mark uses old new mid defines fresh meets notes few_names relocations few noted = λ before p c d.
    let few' = few c.few in
    let within : old.relocations + length uses ≤ 1000000 = rw (← relocations) few' in
    let a : nat_lt (count_of new.names) 65536 ≡ true = grind (arith, nat_tests) in
    let b : nat_le (old.relocations + length uses) 1000000 ≡ true = grind (arith, nat_tests) in (
      anew-good before p step mark uses old c d fresh notes,
      keeps_limits-counted before p step mark uses old mid new.names c d defines meets ∙ rw (a, b) refl,
      IsCounted-one before p step mark uses old new mid c d defines fresh meets relocations few' (rw noted (once old.noted (is_note step) notes)),
    ) where
      once : (a b : Bool) → (a && b) ≡ false → cond (a || b) 1 0 ≡ cond a 1 0 + cond b 1 0
      once true true e = cc
      once true false e = refl
      once false true e = refl
      once false false e = refl

pub Refuses-taken : (kind : AsmKind) (step : Step) (mark : Option (List ℕ × Target)) (uses : List Use) (old : Counts) → kind ≡ fault.Twice → IsTaken old.names mark → Refuses old kind step mark uses
Refuses-taken kind step mark uses old e taken = λ before p c d. inl (e, anew-taken before p step mark uses old c d taken)

pub Refuses-noted : (step : Step) (mark : Option (List ℕ × Target)) (uses : List Use) (old : Counts) → (old.noted && is_note step) ≡ true → Refuses old fault.Twice step mark uses
Refuses-noted step mark uses old notes = λ before p c d. inl (refl, anew-noted before p step mark uses old c d notes)

pub Refuses-many : (step : Step) (mark : Option (List ℕ × Target)) (uses : List Use) (old : Counts) (mid new : Names) → DefinesMark old.names mid mark → IsFresh old.names mark → MeetsNames mid new (short_names step ++ map (λ u. u.name) uses) → (old.noted && is_note step) ≡ false → (old.relocations ≤ 1000000 → (nat_lt (count_of new) 65536 && nat_le (old.relocations + length uses) 1000000) ≡ false) → Refuses old fault.TooMany step mark uses
Refuses-many step mark uses old mid new defines fresh meets notes many = λ before p c d.
    inr (refl, anew-good before p step mark uses old c d fresh notes, keeps_limits-counted before p step mark uses old mid new c d defines meets ∙ many c.few)
