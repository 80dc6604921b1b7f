-- The pages of a segment, as they are put into memory: first zeros, then its bytes.
use Rattle.std.specs.Prelude.{◌↔◌, IsTrue, OnOk, IfErr}
use Rattle.std.proofs.Common.{Result, Ok, Err, ◌≡◌, ℕ, zero, suc, ◌+◌, ◌-◌, ◌*◌, ◌/◌, ◌%◌, ◌<◌, ◌≤◌, lit<, Bool, true, false, inl, inr, not, nat_le, List, [], ◌∷◌, ◌++◌, length, take, drop, map, slice_get, replicate, Some, None, refl, sym, ap, subst, ◌∙◌, arith, append_assoc}
use Rattle.std.specs.List.{find, fold, insert, count_by}
use Rattle.std.proofs.Math.Nat.{div-mul-le_self, mod-add-div', mod-lt}
use Rattle.std.proofs.lemmas.Bool.{cases_Bool, cond-true, cond-false, le-leb, not-true, not-false}
use Rattle.std.proofs.lemmas.List.Sums.{fold-append}
use Rattle.std.proofs.lemmas.List.{length-replicate, take_all, take-replicate, drop-replicate, replicate-append-replicate}
use Rattle.cet_rules.specs.declared.segment.Segment.{Segment}
use Rattle.cet_rules.specs.Image.{contents_of}
use Rattle.cet_rules.specs.Regular.{IsSegment}
use Rattle.cet_machine.specs.declared.memory.Kind.{Kind}
use Rattle.cet_machine.specs.declared.memory.Region.{Region}
use Rattle.cet_machine.specs.Memory.{is_any, holds, zeros, with_region, written, overwritten, with_bytes, place, fill}
use Rattle.cet_machine.proofs.MemoryPlace.{find_insert_new, none_found, placed_parts}
use Rattle.cet_machine.proofs.MemoryRegions.{stored_is}
use Rattle.cet_isa.specs.declared.registers.Mode.{Mode}
use Rattle.cet_mem.specs.declared.memory.Pf.{Pf}
use Rattle.cet_machine.specs.declared.memory.Kind.TheVariants.{Write, Shadow}
use Rattle.cet_process.specs.Start.{first_page, end_of_pages, kind_of, region_of, stacks, stack_start, stack_size, shadow_stack_start, shadow_stack_size}
use Rattle.cet_kernel.proofs.Accesses.{written_none}

-- what is written to a new region, where none of the others holds the place
with_bytes_new : (M : List Region) (i : ℕ) (x : Region) (a : ℕ) (new : List ℕ) → find (holds a (length new)) M ≡ None → holds a (length new) x ≡ true
    → with_bytes (insert M i x) a new ≡ insert M i (written a new x)
with_bytes_new M zero x a new none inside = cond-true (holds a (length new) x) (written a new x ∷ M) (x ∷ with_bytes M a new) inside
with_bytes_new [] (suc i) x a new none inside = cond-true (holds a (length new) x) (written a new x ∷ []) (x ∷ []) inside
with_bytes_new (q ∷ M) (suc i) x a new none inside = elim (cases_Bool (holds a (length new) q)) [
  | inl is_q ↦ let clash : Some q ≡ None = sym (cond-true (holds a (length new) q) (Some q) (find (holds a (length new)) M) is_q) ∙ none in absurd (cc)
  | inr not_q ↦
      cond-false (holds a (length new) q) (written a new q ∷ insert M i x) (q ∷ with_bytes (insert M i x) a new) not_q
      ∙ ap (λ (N : List Region). q ∷ N)
      (with_bytes_new M i x a new (sym (cond-false (holds a (length new) q) (Some q) (find (holds a (length new)) M) not_q) ∙ none) inside)
]

-- ---- the bytes of the pages

abbrev pub pages_of : Segment → Region
pages_of s = zeros (first_page s) (end_of_pages s - first_page s) (kind_of s)

record Bounds (s : Segment) : Type 0 where
  low : first_page s ≤ s.start
  high : s.start + s.size ≤ end_of_pages s
  fits : length s.bytes ≤ s.size

bounds : (s : Segment) → IsSegment s → Bounds s
bounds s regular =
    let end = s.start + s.size + 4095 in
    let whole : end % 4096 + end / 4096 * 4096 ≡ end = mod-add-div' end 4096 in
    let rest : end % 4096 < 4096 = mod-lt end (lit< tt) in
    record { low = div-mul-le_self s.start 4096; high = omega (arith, whole, rest); fits = regular.bytes_fit }

-- zeros with bytes in place of those from place i on
in_zeros : (bytes : List ℕ) (i size end : ℕ) → length bytes ≤ size → i + size ≤ end
    → overwritten (replicate end 0) i bytes ≡ replicate i 0 ++ (bytes ++ replicate (size - length bytes) 0) ++ replicate (end - (i + size)) 0
in_zeros bytes i size end fits within =
    let rest : end - (i + length bytes) ≡ (size - length bytes) + (end - (i + size)) = omega (arith, fits, within) in
    let tail : drop (i + length bytes) (replicate end 0) ≡ replicate (size - length bytes) 0 ++ replicate (end - (i + size)) 0 =
    drop-replicate (i + length bytes) end 0 ∙ ap (λ (n : ℕ). replicate n 0) rest ∙ sym (replicate-append-replicate (size - length bytes) (end - (i + size)) 0) in
    ap (λ (l : List ℕ). l ++ bytes ++ drop (i + length bytes) (replicate end 0)) (take-replicate i end 0 (omega (arith, within)))
    ∙ ap (λ (l : List ℕ). replicate i 0 ++ bytes ++ l) tail
    ∙ sym (append_assoc (replicate i 0 ++ bytes) (replicate (size - length bytes) 0) (replicate (end - (i + size)) 0))
    ∙ ap (λ (l : List ℕ). l ++ replicate (end - (i + size)) 0) (append_assoc (replicate i 0) bytes (replicate (size - length bytes) 0))

pub region_is : (s : Segment) → IsSegment s → written s.start s.bytes (pages_of s) ≡ region_of s
region_is s regular =
    let b = bounds s regular in
    let left : (end_of_pages s - first_page s) - ((s.start - first_page s) + s.size) ≡ end_of_pages s - (s.start + s.size) = omega (arith, b.low, b.high) in
    ap (λ (l : List ℕ). record { start = first_page s; kind = kind_of s; bytes = l })
    (in_zeros s.bytes (s.start - first_page s) s.size (end_of_pages s - first_page s) b.fits (omega (arith, b.low, b.high))
    ∙ ap (λ (n : ℕ). replicate (s.start - first_page s) 0 ++ contents_of s ++ replicate n 0) left)

-- the pages hold the bytes
pages_hold : (s : Segment) → IsSegment s → holds s.start (length s.bytes) (pages_of s) ≡ true
pages_hold s regular =
    let b = bounds s regular in
    let size : length (pages_of s).bytes ≡ end_of_pages s - first_page s = length-replicate (end_of_pages s - first_page s) 0 in
    rw (le-leb (first_page s) s.start b.low) (le-leb (s.start + length s.bytes) (first_page s + length (pages_of s).bytes) (omega (arith, b.low, b.high, b.fits, size)))

-- ---- memory with the pages

pub filled : (M N : List Region) (s : Segment) → IsSegment s → place M (first_page s) (end_of_pages s - first_page s) (kind_of s) ≡ Some N → 0 < length s.bytes
    → fill N s.start s.bytes ≡ Some (with_region M (region_of s))
filled M N s regular placed some =
    let p = placed_parts M N (first_page s) (end_of_pages s - first_page s) (kind_of s) placed in
    let i = count_by (λ q. nat_le q.start (first_page s)) M in
    let inside = pages_hold s regular in
    let none = none_found M (pages_of s) s.start (length s.bytes) (find (holds s.start (length s.bytes)) M) refl p.apart some inside in
    let found : find (holds s.start (length s.bytes)) N ≡ Some (pages_of s) =
    ap (find (holds s.start (length s.bytes))) p.now ∙ find_insert_new (holds s.start (length s.bytes)) M i (pages_of s) inside none in
    stored_is is_any N s.start s.bytes (pages_of s) found refl
    ∙ ap Some (ap (λ (K : List Region). with_bytes K s.start s.bytes) p.now
    ∙ with_bytes_new M i (pages_of s) s.start s.bytes none inside
    ∙ ap (insert M i) (region_is s regular))

pub unfilled : (M N : List Region) (s : Segment) → IsSegment s → place M (first_page s) (end_of_pages s - first_page s) (kind_of s) ≡ Some N → s.bytes ≡ []
    → N ≡ with_region M (region_of s)
unfilled M N s regular placed empty =
    let p = placed_parts M N (first_page s) (end_of_pages s - first_page s) (kind_of s) placed in
    let i = count_by (λ q. nat_le q.start (first_page s)) M in
    p.now
    ∙ ap (insert M i) (sym (written_none s.start (pages_of s)) ∙ ap (λ (l : List ℕ). written s.start l (pages_of s)) (sym empty) ∙ region_is s regular)

-- the same, as they are computed

pub record ArePages (s : Segment) (a len : ℕ) (kind : Kind) : Type 0 where
  pub start : a ≡ first_page s
  pub size : len ≡ end_of_pages s - first_page s
  pub kind_is : kind ≡ kind_of s

placed_as : (M N : List Region) (s : Segment) (a len : ℕ) (kind : Kind) → ArePages s a len kind → place M a len kind ≡ Some N
    → place M (first_page s) (end_of_pages s - first_page s) (kind_of s) ≡ Some N
placed_as M N s a len kind are placed =
    ap (λ (b : ℕ). place M b (end_of_pages s - first_page s) (kind_of s)) (sym are.start)
    ∙ ap (λ (n : ℕ). place M a n (kind_of s)) (sym are.size) ∙ ap (place M a len) (sym are.kind_is) ∙ placed

some_bytes : (b : Bool) (l : List ℕ) → (IsTrue b ↔ (l ≡ [])) → b ≡ false → 0 < length l
some_bytes b [] iff e = let clash : b ≡ true = iff.1 refl in absurd (cc)
some_bytes b (x ∷ l) iff e = omega arith

filled_done : (M N P : List Region) (s : Segment) (r : Result (Unit {0}) Pf) → fill N s.start s.bytes ≡ Some (with_region M (region_of s))
    → OnOk r (fill N s.start s.bytes ≡ Some P) → IfErr r (λ e. (e.addr ≡ s.start) × (fill N s.start s.bytes ≡ None)) → P ≡ with_region M (region_of s)
filled_done M N P s (Ok x) done ok err = cc
filled_done M N P s (Err e) done ok err = let clash : Some (with_region M (region_of s)) ≡ None = sym done ∙ err.1 in absurd (cc)

pub filled_now : (M N P : List Region) (s : Segment) (a len : ℕ) (kind : Kind) (b : Bool) (bytes : List ℕ) (r : Result (Unit {0}) Pf) → IsSegment s → ArePages s a len kind
    → place M a len kind ≡ Some N → (IsTrue b ↔ (s.bytes ≡ [])) → b ≡ false → bytes ≡ s.bytes
    → OnOk r (fill N s.start bytes ≡ Some P) → IfErr r (λ e. (e.addr ≡ s.start) × (fill N s.start bytes ≡ None)) → P ≡ with_region M (region_of s)
filled_now M N P s a len kind b bytes r regular are placed empty full of_bytes ok err =
    let done = filled M N s regular (placed_as M N s a len kind are placed) (some_bytes b s.bytes empty full) in
    filled_done M N P s r done (subst (λ (l : List ℕ). OnOk r (fill N s.start l ≡ Some P)) of_bytes ok)
    (subst (λ (l : List ℕ). IfErr r (λ e. (e.addr ≡ s.start) × (fill N s.start l ≡ None))) of_bytes err)

pub unfilled_now : (M N : List Region) (s : Segment) (a len : ℕ) (kind : Kind) → IsSegment s → ArePages s a len kind → place M a len kind ≡ Some N → s.bytes ≡ []
    → N ≡ with_region M (region_of s)
unfilled_now M N s a len kind regular are placed empty = unfilled M N s regular (placed_as M N s a len kind are placed) empty

-- ---- the stacks

pub stack_placed : (mode : Mode) (M N : List Region) → not mode.shstk ≡ true → place M stack_start stack_size Write ≡ Some N → N ≡ fold with_region M (stacks mode)
stack_placed mode M N off placed = rw (not-true mode.shstk off) ((placed_parts M N stack_start stack_size Write placed).now)

pub stacks_placed : (mode : Mode) (M N P : List Region) → not mode.shstk ≡ false → place M stack_start stack_size Write ≡ Some N
    → place N shadow_stack_start shadow_stack_size Shadow ≡ Some P → P ≡ fold with_region M (stacks mode)
stacks_placed mode M N P on placed second =
    rw (not-false mode.shstk on) ((placed_parts N P shadow_stack_start shadow_stack_size Shadow second).now
    ∙ ap (λ (K : List Region). with_region K (zeros shadow_stack_start shadow_stack_size Shadow)) (placed_parts M N stack_start stack_size Write placed).now)

-- ---- one segment after another

placed_next_from : (segments : List Segment) (i : ℕ) (s : Segment) (M : List Region) → slice_get segments i ≡ Some s
    → with_region (fold with_region M (map region_of (take i segments))) (region_of s) ≡ fold with_region M (map region_of (take (suc i) segments))
placed_next_from [] i s M there = absurd (cc)
placed_next_from (t ∷ segments) zero s M there = let same : t ≡ s = cc in ap (λ (u : Segment). with_region M (region_of u)) (sym same)
placed_next_from (t ∷ segments) (suc i) s M there = placed_next_from segments i s (with_region M (region_of t)) there

pub placed_next : (segments : List Segment) (i : ℕ) (s : Segment) (M N : List Region) → slice_get segments i ≡ Some s
    → M ≡ fold with_region [] (map region_of (take i segments)) → N ≡ with_region M (region_of s) → N ≡ fold with_region [] (map region_of (take (i + 1) segments))
placed_next segments i s M N there before now =
    let one : suc i ≡ i + 1 = omega arith in
    now ∙ ap (λ (K : List Region). with_region K (region_of s)) before ∙ placed_next_from segments i s [] there
    ∙ ap (λ (n : ℕ). fold with_region [] (map region_of (take n segments))) one

pub all_placed : (segments : List Segment) (mode : Mode) (i : ℕ) (M N : List Region) → length segments ≤ i → M ≡ fold with_region [] (map region_of (take i segments))
    → N ≡ fold with_region M (stacks mode) → N ≡ fold with_region [] (map region_of segments ++ stacks mode)
all_placed segments mode i M N all before now =
    now ∙ ap (λ (K : List Region). fold with_region K (stacks mode)) (before ∙ ap (λ (l : List Segment). fold with_region [] (map region_of l)) (take_all i segments all))
    ∙ sym (fold-append with_region [] (map region_of segments) (stacks mode))
