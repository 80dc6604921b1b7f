-- What is read before and after a store.
use Rattle.std.proofs.Common.{◌≡◌, ℕ, zero, suc, ◌+◌, ◌-◌, ◌%◌, ◌^◌, ◌<◌, ◌≤◌, inl, inr, Bool, true, false, not, cond, List, [], ◌∷◌, ◌++◌, length, take, drop, Option, Some, None, slice_get, refl, sym, ap, subst, ◌∙◌, arith}
use Rattle.std.specs.List.{find, filter}
use Rattle.std.specs.Option.{option_map, option_and_then, unwrap_or}
use Rattle.std.proofs.lemmas.Bool.{cases_Bool, cond-true, cond-false, cond_both, not_from_true, false_from_ne_true, true≢false}
use Rattle.std.proofs.lemmas.List.{take_all, length-take-le, length-drop}
use Rattle.cet_base.specs.Span.{Meets}
use Rattle.cet_base.specs.Field.{little_endian}
use Rattle.cet_machine.specs.declared.memory.Region.{Region}
use Rattle.cet_machine.specs.declared.memory.Kind.{Kind}
use Rattle.cet_machine.specs.declared.memory.Kind.TheVariants.{Code, Read, Write, Shadow}
use Rattle.cet_machine.specs.Memory.{span, holds, held, MeetsNone, AreDisjoint, is_any, is_code, is_write, is_shadow, allowed_from, bytes_from, bytes_at, loaded, code_at, written, with_bytes, stored, low_bytes}
use Rattle.cet_machine.specs.MemoryLaws.{IsByteList, HaveBytes, SameShape, IsApart, StoredKeepsShape, ReadWhereHeld, HeldWhereRead, StoredWhereHeld, HeldWhereStored, StoredKeepsOtherKinds, StoredKeepsReadsOfOtherKinds, StoredKeepsOtherRegions, StoredKeepsReadsElsewhere, StoredIsFetched, StoredIsRead, StoredIsReadWithin, LoadAfterStore, LoadElsewhereAfterStore, ShadowLoadAfterStore, CodeAfterStore, ShadowLoadAfterShadowStore, ShadowLoadElsewhereAfterShadowStore, LoadElsewhereAfterShadowStore, CodeAfterShadowStore, LoadOfOtherKindAfterStore, LoadOfOtherKindAfterShadowStore, OneHolder, HeldWithin, LoadFits, StoredKeepsBytes}
use Rattle.cet_machine.proofs.MemoryBytes.{overwritten-before, overwritten-after, overwritten-within, little_endian-low_bytes, length-low_bytes, little_endian-fits, IsByteList-take, IsByteList-drop, IsByteList-append}
use Rattle.cet_machine.proofs.MemoryRegions.{holds_parts, holds_from, holds_shape, same_shape_disjoint, written_shape, with_bytes_shape, found_after, found_holds, stored_parts, stored_is}

-- ---- what is read of the region that holds the interval

-- the number in the first k of these bytes, where they may be read
abbrev pub number_in : Bool → List ℕ → ℕ → Option ℕ
number_in may bytes k = option_map (λ x. little_endian (take k x)) (cond may (Some bytes) None)

number_in_same : (may : Bool) (xs ys : List ℕ) (k : ℕ) → take k xs ≡ take k ys → number_in may xs k ≡ number_in may ys k
number_in_same true xs ys k e = ap (λ (l : List ℕ). Some (little_endian l)) e
number_in_same false xs ys k e = refl

-- the number of the interval in this region, if there is one
abbrev pub number_of : (Kind → Bool) → ℕ → ℕ → Option Region → Option ℕ
number_of allowed b k o = option_map (λ x. little_endian (take k x)) (option_and_then (allowed_from allowed b) o)

pub loaded_is : (allowed : Kind → Bool) (M : List Region) (b k : ℕ) (o : Option Region) → find (holds b k) M ≡ o → loaded allowed M b k ≡ number_of allowed b k o
unfolding loaded bytes_at
loaded_is allowed M b k o e = ap (number_of allowed b k) e

pub loaded_at : (allowed : Kind → Bool) (M : List Region) (b k : ℕ) (r : Region) → find (holds b k) M ≡ Some r → allowed r.kind ≡ true
    → loaded allowed M b k ≡ Some (little_endian (take k (bytes_from r b)))
loaded_at allowed M b k r found may =
    loaded_is allowed M b k (Some r) found ∙ ap (λ (t : Bool). number_in t (bytes_from r b) k) may

pub loaded_none : (allowed : Kind → Bool) (M : List Region) (b k : ℕ) (r : Region) → find (holds b k) M ≡ Some r → allowed r.kind ≡ false
    → loaded allowed M b k ≡ None
loaded_none allowed M b k r found not_so =
    loaded_is allowed M b k (Some r) found ∙ ap (λ (t : Bool). number_in t (bytes_from r b) k) not_so

pub record Loaded (allowed : Kind → Bool) (M : List Region) (b k v : ℕ) : Type 0 where
  pub region : Region
  pub holder : find (holds b k) M ≡ Some region
  pub may : allowed region.kind ≡ true
  pub value : v ≡ little_endian (take k (bytes_from region b))

loaded_from : (allowed : Kind → Bool) (M : List Region) (b k v : ℕ) (o : Option Region) → find (holds b k) M ≡ o → number_of allowed b k o ≡ Some v → Loaded allowed M b k v
loaded_from allowed M b k v None found e = absurd (cc)
loaded_from allowed M b k v (Some r) found e = elim (cases_Bool (allowed r.kind)) [
  | inl may ↦
      let same : Some (little_endian (take k (bytes_from r b))) ≡ Some v = sym (ap (λ (t : Bool). number_in t (bytes_from r b) k) may) ∙ e in
      record { region = r; holder = found; may = may; value = cc }
  | inr refused ↦
      let none : None ≡ Some v = sym (ap (λ (t : Bool). number_in t (bytes_from r b) k) refused) ∙ e in
      absurd (cc)
]

pub loaded_parts : (allowed : Kind → Bool) (M : List Region) (b k v : ℕ) → loaded allowed M b k ≡ Some v → Loaded allowed M b k v
loaded_parts allowed M b k v e = loaded_from allowed M b k v (find (holds b k) M) refl (sym (loaded_is allowed M b k (find (holds b k) M) refl) ∙ e)

-- ---- what holds an interval

pub held_is : (M : List Region) (a n : ℕ) (r : Region) → find (holds a n) M ≡ Some r → held M a n ≡ Some r.kind
unfolding held
held_is M a n r e = ap (option_map (λ (q : Region). q.kind)) e

pub record Held (M : List Region) (a n : ℕ) (kind : Kind) : Type 0 where
  pub region : Region
  pub holder : find (holds a n) M ≡ Some region
  pub of_kind : region.kind ≡ kind

held_from : (M : List Region) (a n : ℕ) (kind : Kind) (o : Option Region) → find (holds a n) M ≡ o → option_map (λ r. r.kind) o ≡ Some kind → Held M a n kind
held_from M a n kind None found e = absurd (cc)
held_from M a n kind (Some r) found e = record { region = r; holder = found; of_kind = cc }

pub held_parts : (M : List Region) (a n : ℕ) (kind : Kind) → held M a n ≡ Some kind → Held M a n kind
unfolding held
held_parts M a n kind e = held_from M a n kind (find (holds a n) M) refl e

pub read_where_held : ReadWhereHeld
read_where_held allowed M a n kind e may =
    let h = held_parts M a n kind e in
    (little_endian (take n (bytes_from h.region a)), loaded_at allowed M a n h.region h.holder (ap allowed h.of_kind ∙ may))

pub held_where_read : HeldWhereRead
held_where_read allowed M a n v e = let r = loaded_parts allowed M a n v e in (r.region.kind, held_is M a n r.region r.holder, r.may)

pub stored_where_held : StoredWhereHeld
stored_where_held allowed M a new kind e may =
    let h = held_parts M a (length new) kind e in
    (with_bytes M a new, stored_is allowed M a new h.region h.holder (ap allowed h.of_kind ∙ may))

pub held_where_stored : HeldWhereStored
held_where_stored allowed M N a new e = let s = stored_parts allowed M N a new e in (s.region.kind, held_is M a (length new) s.region s.holder, s.may)

-- ---- shapes

pub stored_keeps_shape : StoredKeepsShape
stored_keeps_shape allowed M N a new e =
    let s = stored_parts allowed M N a new e in subst (SameShape M) (sym s.now) (with_bytes_shape M a new)

-- ---- disjoint regions

-- a region that meets none of M does not meet the one that is found there
pub apart_from_found : (q : Region) (M : List Region) (a n : ℕ) (r : Region) → MeetsNone q M → find (holds a n) M ≡ Some r → ¬ Meets (span q) (span r)
apart_from_found q [] a n r apart e = absurd (cc)
apart_from_found q (x ∷ M) a n r apart e = elim (cases_Bool (holds a n x)) [
  | inl inside ↦
      let same : Some x ≡ Some r = sym (cond-true (holds a n x) (Some x) (find (holds a n) M) inside) ∙ e in
      let is : x ≡ r = cc in
      subst (λ (y : Region). ¬ Meets (span q) (span y)) is apart.0
  | inr outside ↦ apart_from_found q M a n r apart.1 (sym (cond-false (holds a n x) (Some x) (find (holds a n) M) outside) ∙ e)
]

pub apart_from_item : (q : Region) (M : List Region) (i : ℕ) (r : Region) → MeetsNone q M → slice_get M i ≡ Some r → ¬ Meets (span q) (span r)
apart_from_item q [] i r apart e = absurd (cc)
apart_from_item q (x ∷ M) zero r apart e = let is : x ≡ r = cc in subst (λ (y : Region). ¬ Meets (span q) (span y)) is apart.0
apart_from_item q (x ∷ M) (suc i) r apart e = apart_from_item q M i r apart.1 e

-- two regions that do not meet do not hold one interval
pub holds_one : (q r : Region) (b k : ℕ) → ¬ Meets (span q) (span r) → 0 < k → holds b k r ≡ true → holds b k q ≡ false
holds_one q r b k apart some in_r = false_from_ne_true (holds b k q) (λ in_q.
    let x = holds_parts b k q in_q in
    let y = holds_parts b k r in_r in
    apart (b, (x.0, omega (arith, x.1)), (y.0, omega (arith, y.1))))

one_holder_at : (M : List Region) (i a n : ℕ) (r : Region) → AreDisjoint M → 0 < n → slice_get M i ≡ Some r → holds a n r ≡ true → find (holds a n) M ≡ Some r
one_holder_at [] i a n r apart some e inside = absurd (cc)
one_holder_at (q ∷ M) zero a n r apart some e inside =
    let is : q ≡ r = cc in
    cond-true (holds a n q) (Some q) (find (holds a n) M) (ap (holds a n) is ∙ inside) ∙ e
one_holder_at (q ∷ M) (suc i) a n r apart some e inside =
    cond-false (holds a n q) (Some q) (find (holds a n) M) (holds_one q r a n (apart_from_item q M i r apart.0 e) some inside)
    ∙ one_holder_at M i a n r apart.1 some e inside

pub one_holder : OneHolder
one_holder M i a n r apart some e inside = one_holder_at M i a n r apart some e inside

-- what is found for an interval is found for its parts
pub found_within : (M : List Region) (a n b k : ℕ) (r : Region) → AreDisjoint M → 0 < k → a ≤ b → b + k ≤ a + n → find (holds a n) M ≡ Some r → find (holds b k) M ≡ Some r
found_within [] a n b k r apart some low high e = absurd (cc)
found_within (q ∷ M) a n b k r apart some low high e =
    let whole = holds_parts a n r (found_holds (q ∷ M) a n r e) in
    let part : holds b k r ≡ true = holds_from b k r (omega (arith, whole.0)) (omega (arith, whole.1)) in
    elim (cases_Bool (holds a n q)) [
      | inl inside ↦
          let same : Some q ≡ Some r = sym (cond-true (holds a n q) (Some q) (find (holds a n) M) inside) ∙ e in
          let is : q ≡ r = cc in
          cond-true (holds b k q) (Some q) (find (holds b k) M) (ap (holds b k) is ∙ part) ∙ same
      | inr outside ↦
          let rest : find (holds a n) M ≡ Some r = sym (cond-false (holds a n q) (Some q) (find (holds a n) M) outside) ∙ e in
          cond-false (holds b k q) (Some q) (find (holds b k) M) (holds_one q r b k (apart_from_found q M a n r apart.0 rest) some part)
          ∙ found_within M a n b k r apart.1 some low high rest
    ]

pub held_within : HeldWithin
held_within M a n b k kind apart some low high e =
    let h = held_parts M a n kind e in
    held_is M b k h.region (found_within M a n b k h.region apart some low high h.holder) ∙ ap Some h.of_kind

-- ---- after a store

-- the region that was written is found again
pub found_written : (M : List Region) (a : ℕ) (new : List ℕ) (r : Region) → find (holds a (length new)) M ≡ Some r → find (holds a (length new)) (with_bytes M a new) ≡ Some (written a new r)
found_written [] a new r e = absurd (cc)
found_written (q ∷ M) a new r e = elim (cases_Bool (holds a (length new) q)) [
  | inl inside ↦
      let same : Some q ≡ Some r = sym (cond-true (holds a (length new) q) (Some q) (find (holds a (length new)) M) inside) ∙ e in
      let is : q ≡ r = cc in
      ap (find (holds a (length new))) (cond-true (holds a (length new) q) (written a new q ∷ M) (q ∷ with_bytes M a new) inside)
      ∙ cond-true (holds a (length new) (written a new q)) (Some (written a new q)) (find (holds a (length new)) M) (holds_shape a (length new) q (written a new q) (written_shape a new q inside) ∙ inside)
      ∙ ap (λ (x : Region). Some (written a new x)) is
  | inr outside ↦
      ap (find (holds a (length new))) (cond-false (holds a (length new) q) (written a new q ∷ M) (q ∷ with_bytes M a new) outside)
      ∙ cond-false (holds a (length new) q) (Some q) (find (holds a (length new)) (with_bytes M a new)) outside
      ∙ found_written M a new r (sym (cond-false (holds a (length new) q) (Some q) (find (holds a (length new)) M) outside) ∙ e)
]

kept_by : (allowed : Kind → Bool) (M : List Region) (a : ℕ) (new : List ℕ) (r : Region) → find (holds a (length new)) M ≡ Some r → allowed r.kind ≡ true
    → filter (λ x. not (allowed x.kind)) (with_bytes M a new) ≡ filter (λ x. not (allowed x.kind)) M
kept_by allowed [] a new r e may = refl
kept_by allowed (q ∷ M) a new r e may = elim (cases_Bool (holds a (length new) q)) [
  | inl inside ↦
      let same : Some q ≡ Some r = sym (cond-true (holds a (length new) q) (Some q) (find (holds a (length new)) M) inside) ∙ e in
      let is : q ≡ r = cc in
      let others : List Region = filter (λ x. not (allowed x.kind)) M in
      let left_out : not (allowed q.kind) ≡ false = not_from_true (allowed q.kind) (ap (λ (x : Region). allowed x.kind) is ∙ may) in
      ap (filter (λ x. not (allowed x.kind))) (cond-true (holds a (length new) q) (written a new q ∷ M) (q ∷ with_bytes M a new) inside)
      ∙ cond-false (not (allowed q.kind)) (written a new q ∷ others) others left_out
      ∙ sym (cond-false (not (allowed q.kind)) (q ∷ others) others left_out)
  | inr outside ↦
      ap (filter (λ x. not (allowed x.kind))) (cond-false (holds a (length new) q) (written a new q ∷ M) (q ∷ with_bytes M a new) outside)
      ∙ ap (λ (l : List Region). cond (not (allowed q.kind)) (q ∷ l) l)
      (kept_by allowed M a new r (sym (cond-false (holds a (length new) q) (Some q) (find (holds a (length new)) M) outside) ∙ e) may)
]

pub stored_keeps_other_kinds : StoredKeepsOtherKinds
stored_keeps_other_kinds allowed M N a new e =
    let s = stored_parts allowed M N a new e in
    ap (filter (λ x. not (allowed x.kind))) s.now ∙ kept_by allowed M a new s.region s.holder s.may

-- the bytes of an interval of another kind
pub bytes_is : (other : Kind → Bool) (M : List Region) (b k : ℕ) (o : Option Region) → find (holds b k) M ≡ o → bytes_at other M b k ≡ option_and_then (allowed_from other b) o
unfolding bytes_at
bytes_is other M b k o e = ap (option_and_then (allowed_from other b)) e

pub stored_keeps_reads_of_other_kinds : StoredKeepsReadsOfOtherKinds
stored_keeps_reads_of_other_kinds allowed other M N a new e differ b k =
    let s = stored_parts allowed M N a new e in
    ap (λ (L : List Region). bytes_at other L b k) s.now
    ∙ elim (found_after M a new b k) [
      | inl same ↦ bytes_is other (with_bytes M a new) b k (find (holds b k) M) same ∙ sym (bytes_is other M b k (find (holds b k) M) refl)
      | inr c ↦
          let both : Some s.region ≡ Some c.region = sym s.holder ∙ c.holder in
          let is : s.region ≡ c.region = cc in
          let refused : other c.region.kind ≡ false = differ c.region.kind (ap (λ (x : Region). allowed x.kind) (sym is) ∙ s.may) in
          bytes_is other (with_bytes M a new) b k (Some (written a new c.region)) c.after
          ∙ cond-false (other c.region.kind) (Some (bytes_from (written a new c.region) b)) None refused
          ∙ sym (cond-false (other c.region.kind) (Some (bytes_from c.region b)) None refused)
          ∙ sym (bytes_is other M b k (Some c.region) c.before)
    ]

pub stored_keeps_other_regions : StoredKeepsOtherRegions
stored_keeps_other_regions allowed M N a new e b k r there outside =
    let s = stored_parts allowed M N a new e in
    ap (find (holds b k)) s.now
    ∙ elim (found_after M a new b k) [
      | inl same ↦ same ∙ there
      | inr c ↦
          let both : Some c.region ≡ Some r = sym c.before ∙ there in
          let is : c.region ≡ r = cc in
          let clash : true ≡ false = sym c.writes ∙ ap (holds a (length new)) is ∙ outside in
          absurd (true≢false clash)
    ]

-- bytes apart from those written
bytes_apart : (a : ℕ) (new : List ℕ) (b k : ℕ) (r : Region) → IsApart a (length new) b k → holds a (length new) r ≡ true → holds b k r ≡ true
    → take k (bytes_from (written a new r) b) ≡ take k (bytes_from r b)
bytes_apart a new b k r (inl after) writes reads =
    let w = holds_parts a (length new) r writes in
    ap (take k) (overwritten-after r.bytes (a - r.start) new (b - r.start) (omega (arith, w.0, w.1)) (omega (arith, w.0, after)))
bytes_apart a new b k r (inr before) writes reads =
    let w = holds_parts a (length new) r writes in
    let x = holds_parts b k r reads in
    overwritten-before r.bytes (a - r.start) new (b - r.start) k (omega (arith, w.0, w.1)) (omega (arith, x.0, before))

pub stored_keeps_reads_elsewhere : StoredKeepsReadsElsewhere
stored_keeps_reads_elsewhere allowed other M N a new e b k apart =
    let s = stored_parts allowed M N a new e in
    ap (λ (L : List Region). loaded other L b k) s.now
    ∙ elim (found_after M a new b k) [
      | inl same ↦ loaded_is other (with_bytes M a new) b k (find (holds b k) M) same ∙ sym (loaded_is other M b k (find (holds b k) M) refl)
      | inr c ↦
          loaded_is other (with_bytes M a new) b k (Some (written a new c.region)) c.after
          ∙ number_in_same (other c.region.kind) (bytes_from (written a new c.region) b) (bytes_from c.region b) k (bytes_apart a new b k c.region apart c.writes c.reads)
          ∙ sym (loaded_is other M b k (Some c.region) c.before)
    ]

-- bytes of those written
bytes_written : (a : ℕ) (new : List ℕ) (r : Region) (i k : ℕ) → holds a (length new) r ≡ true → i + k ≤ length new
    → take k (bytes_from (written a new r) (a + i)) ≡ take k (drop i new)
bytes_written a new r i k writes within =
    let w = holds_parts a (length new) r writes in
    overwritten-within r.bytes (a - r.start) new (a + i - r.start) i k (omega (arith, w.0, w.1)) (omega (arith, w.0)) within

pub stored_is_read : StoredIsRead
stored_is_read allowed other M N a new e both =
    let s = stored_parts allowed M N a new e in
    let same : a + 0 ≡ a = omega arith in
    let bytes : take (length new) (bytes_from (written a new s.region) a) ≡ new =
    ap (λ (b : ℕ). take (length new) (bytes_from (written a new s.region) b)) (sym same)
    ∙ bytes_written a new s.region 0 (length new) (found_holds M a (length new) s.region s.holder) (omega arith) ∙ take_all (length new) new (omega arith) in
    ap (λ (L : List Region). loaded other L a (length new)) s.now
    ∙ loaded_at other (with_bytes M a new) a (length new) (written a new s.region) (found_written M a new s.region s.holder) (both s.region.kind s.may)
    ∙ ap (λ (l : List ℕ). Some (little_endian l)) bytes

pub stored_is_read_within : StoredIsReadWithin
stored_is_read_within allowed other M N a new apart e both i k some within =
    let s = stored_parts allowed M N a new e in
    let still : AreDisjoint (with_bytes M a new) = same_shape_disjoint M (with_bytes M a new) (with_bytes_shape M a new) apart in
    let found = found_within (with_bytes M a new) a (length new) (a + i) k (written a new s.region) still some (omega arith) (omega (arith, within)) (found_written M a new s.region s.holder) in
    ap (λ (L : List Region). loaded other L (a + i) k) s.now
    ∙ loaded_at other (with_bytes M a new) (a + i) k (written a new s.region) found (both s.region.kind s.may)
    ∙ ap (λ (l : List ℕ). Some (little_endian l)) (bytes_written a new s.region i k (found_holds M a (length new) s.region s.holder) within)

-- ---- stores by the processor and by the shadow stack

any_kind : (allowed : Kind → Bool) (kind : Kind) → allowed kind ≡ true → is_any kind ≡ true
any_kind allowed kind e = refl

write_no_shadow : (kind : Kind) → is_write kind ≡ true → is_shadow kind ≡ false
write_no_shadow Code e = refl
write_no_shadow Read e = refl
write_no_shadow Write e = refl
write_no_shadow Shadow e = sym e

write_no_code : (kind : Kind) → is_write kind ≡ true → is_code kind ≡ false
write_no_code Code e = sym e
write_no_code Read e = refl
write_no_code Write e = refl
write_no_code Shadow e = refl

shadow_no_code : (kind : Kind) → is_shadow kind ≡ true → is_code kind ≡ false
shadow_no_code Code e = sym e
shadow_no_code Read e = refl
shadow_no_code Write e = refl
shadow_no_code Shadow e = refl

same_kind : (allowed : Kind → Bool) (kind : Kind) → allowed kind ≡ true → allowed kind ≡ true
same_kind allowed kind e = e

-- a number of n bytes that was stored is read as its low n bytes
stored_number : (allowed other : Kind → Bool) (M N : List Region) (a n v : ℕ) → stored allowed M a (low_bytes n v) ≡ Some N
    → ((kind : Kind) → allowed kind ≡ true → other kind ≡ true) → loaded other N a n ≡ Some (v % 256 ^ n)
stored_number allowed other M N a n v e both =
    ap (loaded other N a) (sym (length-low_bytes n v)) ∙ stored_is_read allowed other M N a (low_bytes n v) e both ∙ ap Some (little_endian-low_bytes n v)

stored_number_elsewhere : (allowed other : Kind → Bool) (M N : List Region) (a n v b k : ℕ) → stored allowed M a (low_bytes n v) ≡ Some N
    → IsApart a n b k → loaded other N b k ≡ loaded other M b k
stored_number_elsewhere allowed other M N a n v b k e apart =
    stored_keeps_reads_elsewhere allowed other M N a (low_bytes n v) e b k (subst (λ (m : ℕ). IsApart a m b k) (sym (length-low_bytes n v)) apart)

-- a read of another kind is as before
loaded_of_other_kind : (allowed other : Kind → Bool) (M N : List Region) (a : ℕ) (new : List ℕ) → stored allowed M a new ≡ Some N
    → ((kind : Kind) → allowed kind ≡ true → other kind ≡ false) → (b k : ℕ) → loaded other N b k ≡ loaded other M b k
unfolding loaded
loaded_of_other_kind allowed other M N a new e differ b k =
    ap (option_map (λ (x : List ℕ). little_endian (take k x))) (stored_keeps_reads_of_other_kinds allowed other M N a new e differ b k)

code_kept : (allowed : Kind → Bool) (M N : List Region) (a : ℕ) (new : List ℕ) → stored allowed M a new ≡ Some N
    → ((kind : Kind) → allowed kind ≡ true → is_code kind ≡ false) → (b : ℕ) → code_at N b ≡ code_at M b
unfolding code_at
code_kept allowed M N a new e differ b =
    ap (λ (o : Option (List ℕ)). unwrap_or o []) (stored_keeps_reads_of_other_kinds allowed is_code M N a new e differ b 1)

pub load_after_store : LoadAfterStore
load_after_store M N a n v e = stored_number is_write is_any M N a n v e (any_kind is_write)

pub load_elsewhere_after_store : LoadElsewhereAfterStore
load_elsewhere_after_store M N a n v b k e apart = stored_number_elsewhere is_write is_any M N a n v b k e apart

pub shadow_load_after_store : ShadowLoadAfterStore
shadow_load_after_store M N a n v b e = loaded_of_other_kind is_write is_shadow M N a (low_bytes n v) e write_no_shadow b 8

pub code_after_store : CodeAfterStore
code_after_store M N a n v b e = code_kept is_write M N a (low_bytes n v) e write_no_code b

pub shadow_load_after_shadow_store : ShadowLoadAfterShadowStore
shadow_load_after_shadow_store M N a v e = stored_number is_shadow is_shadow M N a 8 v e (same_kind is_shadow)

pub shadow_load_elsewhere_after_shadow_store : ShadowLoadElsewhereAfterShadowStore
shadow_load_elsewhere_after_shadow_store M N a v b e apart = stored_number_elsewhere is_shadow is_shadow M N a 8 v b 8 e apart

pub load_elsewhere_after_shadow_store : LoadElsewhereAfterShadowStore
load_elsewhere_after_shadow_store M N a v b k e apart = stored_number_elsewhere is_shadow is_any M N a 8 v b k e apart

pub code_after_shadow_store : CodeAfterShadowStore
code_after_shadow_store M N a v b e = code_kept is_shadow M N a (low_bytes 8 v) e shadow_no_code b

-- a load from a region of a kind that was not written is as before
load_of_other_kind : (allowed : Kind → Bool) (M N : List Region) (a : ℕ) (new : List ℕ) (b k : ℕ) (kind : Kind) → stored allowed M a new ≡ Some N
    → held M b k ≡ Some kind → allowed kind ≡ false → loaded is_any N b k ≡ loaded is_any M b k
load_of_other_kind allowed M N a new b k kind e there refused =
    let s = stored_parts allowed M N a new e in
    let h = held_parts M b k kind there in
    ap (λ (L : List Region). loaded is_any L b k) s.now
    ∙ elim (found_after M a new b k) [
      | inl same ↦ loaded_is is_any (with_bytes M a new) b k (find (holds b k) M) same ∙ sym (loaded_is is_any M b k (find (holds b k) M) refl)
      | inr c ↦
          let one : Some s.region ≡ Some c.region = sym s.holder ∙ c.holder in
          let other : Some h.region ≡ Some c.region = sym h.holder ∙ c.before in
          let is : s.region ≡ h.region = cc in
          let clash : true ≡ false = sym s.may ∙ ap (λ (x : Region). allowed x.kind) is ∙ ap allowed h.of_kind ∙ refused in
          absurd (true≢false clash)
    ]

not_write : (kind : Kind) → (kind ≡ Write → ⊥) → is_write kind ≡ false
not_write Code differs = refl
not_write Read differs = refl
not_write Write differs = absurd (differs refl)
not_write Shadow differs = refl

not_shadow : (kind : Kind) → (kind ≡ Shadow → ⊥) → is_shadow kind ≡ false
not_shadow Code differs = refl
not_shadow Read differs = refl
not_shadow Write differs = refl
not_shadow Shadow differs = absurd (differs refl)

pub load_of_other_kind_after_store : LoadOfOtherKindAfterStore
load_of_other_kind_after_store M N a n v b k kind e there differs = load_of_other_kind is_write M N a (low_bytes n v) b k kind e there (not_write kind differs)

pub load_of_other_kind_after_shadow_store : LoadOfOtherKindAfterShadowStore
load_of_other_kind_after_shadow_store M N a v b k kind e there differs = load_of_other_kind is_shadow M N a (low_bytes 8 v) b k kind e there (not_shadow kind differs)

-- ---- bytes

found_bytes : (M : List Region) (a n : ℕ) (r : Region) → HaveBytes M → find (holds a n) M ≡ Some r → IsByteList r.bytes
found_bytes [] a n r all e = absurd (cc)
found_bytes (q ∷ M) a n r all e = elim (cases_Bool (holds a n q)) [
  | inl inside ↦
      let same : Some q ≡ Some r = sym (cond-true (holds a n q) (Some q) (find (holds a n) M) inside) ∙ e in
      let is : q ≡ r = cc in
      subst (λ (x : Region). IsByteList x.bytes) is all.0
  | inr outside ↦ found_bytes M a n r all.1 (sym (cond-false (holds a n q) (Some q) (find (holds a n) M) outside) ∙ e)
]

pub load_fits : LoadFits
load_fits allowed M a n v all e =
    let l = loaded_parts allowed M a n v e in
    let inside = holds_parts a n l.region (found_holds M a n l.region l.holder) in
    let bytes : IsByteList (take n (bytes_from l.region a)) =
    IsByteList-take n (bytes_from l.region a) (IsByteList-drop (a - l.region.start) l.region.bytes (found_bytes M a n l.region all l.holder)) in
    let size : length (take n (bytes_from l.region a)) ≡ n =
    length-take-le n (bytes_from l.region a) (simp length-drop (omega (arith, inside.0, inside.1))) in
    let below : little_endian (take n (bytes_from l.region a)) < 256 ^ length (take n (bytes_from l.region a)) = little_endian-fits (take n (bytes_from l.region a)) bytes in
    subst (λ (m : ℕ). m < 256 ^ n) (sym l.value) (subst (λ (m : ℕ). little_endian (take n (bytes_from l.region a)) < 256 ^ m) size below)

with_bytes_bytes : (M : List Region) (a : ℕ) (new : List ℕ) → IsByteList new → HaveBytes M → HaveBytes (with_bytes M a new)
with_bytes_bytes [] a new some all = tt
with_bytes_bytes (r ∷ M) a new some all =
    cond_both (holds a (length new) r) (written a new r ∷ M) (r ∷ with_bytes M a new) HaveBytes
    (λ inside. (
      IsByteList-append (take (a - r.start) r.bytes ++ new) (drop (a - r.start + length new) r.bytes)
          (IsByteList-append (take (a - r.start) r.bytes) new (IsByteList-take (a - r.start) r.bytes all.0) some)
          (IsByteList-drop (a - r.start + length new) r.bytes all.0),
      all.1,
    ))
    (λ outside. (all.0, with_bytes_bytes M a new some all.1))

pub stored_keeps_bytes : StoredKeepsBytes
stored_keeps_bytes allowed M N a new e some all =
    let s = stored_parts allowed M N a new e in subst HaveBytes (sym s.now) (with_bytes_bytes M a new some all)

-- ---- code that was written

code_of : (M : List Region) (b : ℕ) (r : Region) → find (holds b 1) M ≡ Some r → r.kind ≡ Code → code_at M b ≡ bytes_from r b
unfolding code_at
code_of M b r found code =
    ap (λ (o : Option (List ℕ)). unwrap_or o []) (bytes_is is_code M b 1 (Some r) found)
    ∙ ap (λ (kind : Kind). unwrap_or (cond (is_code kind) (Some (bytes_from r b)) None) []) code

pub stored_is_fetched : StoredIsFetched
stored_is_fetched allowed M N a new apart e code i within =
    let s = stored_parts allowed M N a new e in
    let h = held_parts M a (length new) Code code in
    let both : Some h.region ≡ Some s.region = sym h.holder ∙ s.holder in
    let is : h.region ≡ s.region = cc in
    let of_kind : s.region.kind ≡ Code = ap (λ (x : Region). x.kind) (sym is) ∙ h.of_kind in
    let still : AreDisjoint (with_bytes M a new) = same_shape_disjoint M (with_bytes M a new) (with_bytes_shape M a new) apart in
    let found : find (holds (a + i) 1) (with_bytes M a new) ≡ Some (written a new s.region) =
    found_within (with_bytes M a new) a (length new) (a + i) 1 (written a new s.region) still (omega arith) (omega arith) (omega arith) (found_written M a new s.region s.holder) in
    let left : length (drop i new) ≤ length new - i = simp length-drop (omega arith) in
    ap (λ (L : List Region). take (length new - i) (code_at L (a + i))) s.now
    ∙ ap (take (length new - i)) (code_of (with_bytes M a new) (a + i) (written a new s.region) found of_kind)
    ∙ bytes_written a new s.region i (length new - i) (found_holds M a (length new) s.region s.holder) (omega arith)
    ∙ take_all (length new - i) (drop i new) left
