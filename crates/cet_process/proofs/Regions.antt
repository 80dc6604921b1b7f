-- What a new region leaves as it was.
use Rattle.std.proofs.Common.{◌≡◌, ℕ, ◌+◌, ◌<◌, ◌≤◌, ◌⊎◌, inl, inr, Bool, false, nat_lt, List, Option, Some, None, refl, sym, ap, ◌∙◌}
use Rattle.std.specs.Option.{option_and_then}
use Rattle.std.proofs.lemmas.Bool.{cases_Bool, ltb-true, ltb-false, cond-false}
use Rattle.cet_machine.specs.declared.memory.Kind.{Kind}
use Rattle.cet_machine.specs.declared.memory.Region.{Region}
use Rattle.cet_machine.specs.Memory.{region_holding, bytes_from, allowed_from, bytes_at, place}
use Rattle.cet_machine.proofs.MemoryReads.{held_parts}
use Rattle.cet_machine.proofs.MemoryPlace.{place_keeps_others, place_keeps_held, placed_is_zero}

-- what is read in the region that is found
read_of : (Kind → Bool) → ℕ → Option Region → Option (List ℕ)
read_of kinds b o = option_and_then (allowed_from kinds b) o

not_allowed : (kinds : Kind → Bool) (b : ℕ) (r : Region) (kind : Kind) → r.kind ≡ kind → kinds kind ≡ false → read_of kinds b (Some r) ≡ None
unfolding read_of
not_allowed kinds b r kind of_kind unread = cond-false (kinds r.kind) (Some (bytes_from r b)) None (ap kinds of_kind ∙ unread)

-- within the new region nothing was read, and nothing of these kinds is
within : (M N : List Region) (at len : ℕ) (kind : Kind) (kinds : Kind → Bool) (b k : ℕ) (r : Region) (o : Option Region)
    → place M at len kind ≡ Some N → kinds kind ≡ false → 0 < k → region_holding N b k ≡ Some r → r.kind ≡ kind → region_holding M b k ≡ o
    → read_of kinds b o ≡ None
unfolding read_of
within M N at len kind kinds b k r None e unread some now of_kind before = refl
within M N at len kind kinds b k r (Some q) e unread some now of_kind before =
    let same : Some r ≡ Some q = sym now ∙ place_keeps_held M N at len kind e b k q some before in
    let one : q ≡ r = cc in
    not_allowed kinds b q kind (ap (λ (p : Region). p.kind) one ∙ of_kind) unread

outside_or_within : (b k at len : ℕ) → ((b < at) ⊎ (at + len < b + k)) ⊎ ((at ≤ b) × (b + k ≤ at + len))
outside_or_within b k at len = elim (cases_Bool (nat_lt b at)) [
  | inl low ↦ inl (inl (ltb-true b at low))
  | inr from ↦ elim (cases_Bool (nat_lt (at + len) (b + k))) [
    | inl high ↦ inl (inr (ltb-true (at + len) (b + k) high))
    | inr below ↦ inr (ltb-false b at from, ltb-false (at + len) (b + k) below)
  ]
]

-- what is read of other kinds than the new region's is as before
pub place_keeps_reads : (M N : List Region) (at len : ℕ) (kind : Kind) → place M at len kind ≡ Some N → (kinds : Kind → Bool) → kinds kind ≡ false → (b k : ℕ) → 0 < k
    → bytes_at kinds N b k ≡ bytes_at kinds M b k
unfolding bytes_at read_of
place_keeps_reads M N at len kind e kinds unread b k some = elim (outside_or_within b k at len) [
  | inl outside ↦ ap (read_of kinds b) (place_keeps_others M N at len kind e b k outside)
  | inr inside ↦
      let new = held_parts N b k kind (placed_is_zero M N at len kind e b k some inside.0 inside.1).0 in
      ap (read_of kinds b) new.holder ∙ not_allowed kinds b new.region kind new.of_kind unread
      ∙ sym (within M N at len kind kinds b k new.region (region_holding M b k) e unread some new.holder new.of_kind refl)
]
