-- Sections one behind another.
use Rattle.std.proofs.Common.{◌≡◌, ℕ, zero, suc, ◌+◌, ◌^◌, ◌<◌, ◌≤◌, Bool, true, false, cond, List, [], ◌∷◌, ◌++◌, length, get_or, take, drop, Option, Some, None, Vec, refl, sym, ap, ◌∙◌, subst, arith, All, below_more, ⊎_elim}
use Rattle.std.proofs.Math.Pow.{pow_mono}
use Rattle.std.proofs.lemmas.List.{take_more, take-append-drop, append-nil, get_or_append_left, get_or_push, length_push, get_or_past}
use Rattle.std.proofs.lemmas.Option.{slice_get_read, slice_get_past}
use Rattle.std.proofs.lemmas.Bool.{cases_lt}
use Rattle.std.proofs.lemmas.List.Concat.{flat_map-append}
use Rattle.std.proofs.lemmas.List.Elements.{All-get_or, All-weaker}
use Rattle.cet_elf.specs.declared.object.Class.{Class}
use Rattle.cet_elf.specs.declared.object.Class.TheVariants as classes
use Rattle.cet_elf.specs.declared.object.Object.{Object}
use Rattle.cet_elf.specs.declared.object.Section.{Section}
use Rattle.cet_elf.specs.Consistent.{IsAlignment, IsConsistent, IsConsistentSection}
use Rattle.std.specs.Global.{Global}
use Rattle.std.specs.List.{slice_get}
use Rattle.std.specs.Option.{option_map_or}
use Rattle.cet_link.specs.Places.{is_class, start_behind, end_behind, all_sections}
use Rattle.cet_link.specs.Laid.{end_after, end_in, place_among, place_in, cell, IsPlaceable, NoGroups}
use Rattle.cet_link.specs.declared.layout.Ends.{Ends}

-- an alignment is from 1 to 4,096
pub IsAlignment-bounds : (align : ℕ) → IsAlignment align → (0 < align) × (align ≤ 4096)
IsAlignment-bounds align (k, le, e) =
    let low : 2 ^ 0 ≤ 2 ^ k = pow_mono {i = 0} {j = k} (omega arith) in
    let high : 2 ^ k ≤ 2 ^ 12 = pow_mono {i = k} {j = 12} le in
    (omega arith, omega arith)

pub start_behind-grows : (end : ℕ) (s : Section) → end ≤ start_behind end s
start_behind-grows end s = omega arith

pub end_after-grows : (class : Class) (end : ℕ) (s : Section) → end ≤ end_after class end s
end_after-grows class end s = by (is_class class s.class) where
  by : (b : Bool) → end ≤ (cond b (start_behind end s + s.size) end)
  by true = omega arith
  by false = omega arith

pub end_behind-grows : (class : Class) (end : ℕ) (ss : List Section) → end ≤ end_behind class end ss
end_behind-grows class end [] = omega arith
end_behind-grows class end (s ∷ ss) =
    let one = end_after-grows class end s in
    let others = end_behind-grows class (end_after class end s) ss in
    omega (arith, one, others)

pub end_behind-append : (class : Class) (end : ℕ) (xs ys : List Section) → end_behind class end (xs ++ ys) ≡ end_behind class (end_behind class end xs) ys
end_behind-append class end [] ys = refl
end_behind-append class end (x ∷ xs) ys = end_behind-append class (end_after class end x) xs ys

-- one section more
pub end_behind-more : (class : Class) (end : ℕ) (xs : List Section) (i : ℕ) (s : Section) → i < length xs → s ≡ get_or xs i s
    → end_behind class end (take (i + 1) xs) ≡ end_after class (end_behind class end (take i xs)) s
end_behind-more class end xs i s lt is =
    ap (end_behind class end) (take_more xs i s lt) ∙ end_behind-append class end (take i xs) (get_or xs i s ∷ []) ∙ ap (end_after class (end_behind class end (take i xs))) (sym is)

-- a part does not end behind the whole
pub end_behind-front : (class : Class) (end : ℕ) (xs : List Section) (i : ℕ) → end_behind class end (take i xs) ≤ end_behind class end xs
end_behind-front class end xs i =
    subst (λ (zs : List Section). end_behind class end (take i xs) ≤ end_behind class end zs) (take-append-drop i xs)
    (subst (λ (n : ℕ). end_behind class end (take i xs) ≤ n) (sym (end_behind-append class end (take i xs) (drop i xs))) (end_behind-grows class _ (drop i xs)))

pub is_class-same : (a b : Class) → is_class a b ≡ true → a ≡ b
is_class-same classes.Code classes.Code h = refl
is_class-same classes.Read classes.Read h = refl
is_class-same classes.Write classes.Write h = refl
is_class-same classes.Zero classes.Zero h = refl
is_class-same classes.Group classes.Group h = refl
is_class-same _ _ h = absurd cc

pub is_class-itself : (a : Class) → is_class a a ≡ true
is_class-itself classes.Code = refl
is_class-itself classes.Read = refl
is_class-itself classes.Write = refl
is_class-itself classes.Zero = refl
is_class-itself classes.Group = refl

-- in its own class a section moves the end
pub end_after-own : (end : ℕ) (s : Section) → end_after s.class end s ≡ start_behind end s + s.size
end_after-own end s = ap (λ (b : Bool). cond b (start_behind end s + s.size) end) (is_class-itself s.class)

-- a section fits where the whole does
pub own-fits : (front : ℕ) (xs : List Section) (i : ℕ) (s : Section) → i < length xs → s ≡ get_or xs i s
    → start_behind (end_behind s.class front (take i xs)) s + s.size ≤ end_behind s.class front xs
own-fits front xs i s lt is =
    let own = end_after-own (end_behind s.class front (take i xs)) s in
    let more = end_behind-more s.class front xs i s lt is in
    let part = end_behind-front s.class front xs (i + 1) in
    omega (arith, own, more, part)

-- the ends of the classes behind a section more, by those before
pub ends-after : (old new : Ends) (s : Section) (start : ℕ) → start ≡ start_behind (end_in old s.class) s
    → ((other : Class) → end_in new other ≡ cond (is_class other s.class) (start + s.size) (end_in old other))
    → (class : Class) → end_in new class ≡ end_after class (end_in old class) s
ends-after old new s start at put class = put class ∙ by (is_class class s.class) (λ h. is_class-same class s.class h) where
  by : (b : Bool) → (b ≡ true → class ≡ s.class) → cond b (start + s.size) (end_in old class) ≡ cond b (start_behind (end_in old class) s + s.size) (end_in old class)
  by true same = ap (λ n. n + s.size) (at ∙ ap (λ c. start_behind (end_in old c) s) (sym (same refl)))
  by false same = refl

pub aligned-sections : (o : Object) → IsConsistent o → All (λ (s : Section). IsAlignment s.align) o.sections
aligned-sections o h = All-weaker (IsConsistentSection (length o.symbols)) (λ (s : Section). IsAlignment s.align) (λ s c. c.align) o.sections h.sections

pub all_sections-append : (xs ys : List Object) → all_sections (xs ++ ys) ≡ all_sections xs ++ all_sections ys
unfolding all_sections
all_sections-append xs ys = flat_map-append (λ (o : Object). o.sections) xs ys

pub all_sections-one : (o : Object) → all_sections (o ∷ []) ≡ o.sections
unfolding all_sections
all_sections-one o = append-nil o.sections

-- the sections of an input more
pub all_sections-more : (inputs : List Object) (i : ℕ) (o : Object) → i < length inputs → o ≡ get_or inputs i o
    → all_sections (take (i + 1) inputs) ≡ all_sections (take i inputs) ++ o.sections
all_sections-more inputs i o lt is =
    ap all_sections (take_more inputs i o lt) ∙ all_sections-append (take i inputs) (get_or inputs i o ∷ [])
    ∙ ap (λ (p : Object). all_sections (take i inputs) ++ all_sections (p ∷ [])) (sym is) ∙ ap (λ zs. all_sections (take i inputs) ++ zs) (all_sections-one o)

pub class-more : (class : Class) (end : ℕ) (inputs : List Object) (i : ℕ) (o : Object) → i < length inputs → o ≡ get_or inputs i o
    → end_behind class end (all_sections (take (i + 1) inputs)) ≡ end_behind class (end_behind class end (all_sections (take i inputs))) o.sections
class-more class end inputs i o lt is = ap (end_behind class end) (all_sections-more inputs i o lt is) ∙ end_behind-append class end (all_sections (take i inputs)) o.sections

-- the inputs so far do not end behind all of them
pub class-front : (class : Class) (end : ℕ) (inputs : List Object) (i : ℕ) → end_behind class end (all_sections (take i inputs)) ≤ end_behind class end (all_sections inputs)
class-front class end inputs i =
    subst (λ (zs : List Section). end_behind class end (all_sections (take i inputs)) ≤ end_behind class end zs)
    (sym (all_sections-append (take i inputs) (drop i inputs)) ∙ ap all_sections (take-append-drop i inputs))
    (subst (λ (n : ℕ). end_behind class end (all_sections (take i inputs)) ≤ n) (sym (end_behind-append class end (all_sections (take i inputs)) (all_sections (drop i inputs)))) (end_behind-grows class _ (all_sections (drop i inputs))))

-- the end so far is past the limit, and so is the end of the whole
pub past-all : (class : Class) (end limit : ℕ) (xs : List Section) (i : ℕ) (s : Section) (at : ℕ) → i < length xs → s ≡ get_or xs i s
    → at ≡ end_behind class end (take i xs) → limit < end_after class at s → limit < end_behind class end xs
past-all class end limit xs i s at lt is same h =
    let more = end_behind-more class end xs i s lt is in
    let part = end_behind-front class end xs (i + 1) in
    let here : limit < end_behind class end (take (i + 1) xs) = subst (λ (n : ℕ). limit < n) (ap (λ e. end_after class e s) same ∙ sym more) h in
    omega (arith, here, part)

pub class-past : (class : Class) (end limit : ℕ) (inputs : List Object) (i : ℕ) (o : Object) (at : ℕ) → i < length inputs → o ≡ get_or inputs i o
    → at ≡ end_behind class end (all_sections (take i inputs)) → limit < end_behind class at o.sections → limit < end_behind class end (all_sections inputs)
class-past class end limit inputs i o at lt is same h =
    let more = class-more class end inputs i o lt is in
    let part = class-front class end inputs (i + 1) in
    let here : limit < end_behind class end (all_sections (take (i + 1) inputs)) = subst (λ (n : ℕ). limit < n) (ap (λ e. end_behind class e o.sections) same ∙ sym more) h in
    omega (arith, here, part)

pub all_sections-none : all_sections [] ≡ []
unfolding all_sections
all_sections-none = refl

pub consistent-item : (inputs : List Object) (i : ℕ) (o : Object) → i < length inputs → o ≡ get_or inputs i o → All IsConsistent inputs → IsConsistent o
consistent-item inputs i o lt is h = subst IsConsistent (sym is) (All-get_or IsConsistent inputs i o lt h)

-- the room of a section
pub room-here : (front here : ℕ) (xs : List Section) (i : ℕ) (s : Section) → i < length xs → s ≡ get_or xs i s → here ≡ end_behind s.class front (take i xs)
    → end_behind s.class front xs < 2 ^ 48 → start_behind here s + s.size < 2 ^ 48
room-here front here xs i s lt is same h =
    let fits = own-fits front xs i s lt is in
    subst (λ (n : ℕ). start_behind n s + s.size < 2 ^ 48) (sym same) (omega (arith, fits, h))

pub class-room : (class : Class) (front here : ℕ) (inputs : List Object) (i : ℕ) (o : Object) → i < length inputs → o ≡ get_or inputs i o
    → here ≡ end_behind class front (all_sections (take i inputs)) → end_behind class front (all_sections inputs) < 2 ^ 48 → end_behind class here o.sections < 2 ^ 48
class-room class front here inputs i o lt is same h =
    let more = class-more class front inputs i o lt is in
    let part = class-front class front inputs (i + 1) in
    subst (λ (n : ℕ). end_behind class n o.sections < 2 ^ 48) (sym same) (omega (arith, more, part, h))

-- ---- rows of numbers

-- one number more
pub row-more : (F : ℕ → ℕ) (row new : List ℕ) (i x : ℕ) → new ≡ row ++ x ∷ [] → length row ≡ i → ((n : ℕ) → n < i → get_or row n 0 ≡ F n) → x ≡ F i
    → (n : ℕ) → n < i + 1 → get_or new n 0 ≡ F n
row-more F row new i x pushed len below here = below_more (λ n. get_or new n 0 ≡ F n) i
    (λ n h. ap (λ zs. get_or zs n 0) pushed ∙ get_or_append_left row (x ∷ []) 0 n (omega arith) ∙ below n h)
    (ap (λ zs. get_or zs i 0) pushed ∙ get_or_push row x 0 i len ∙ here)

pub row-length : (row new : List ℕ) (i x : ℕ) → new ≡ row ++ x ∷ [] → length row ≡ i → length new ≡ i + 1
row-length row new i x pushed len = ap length pushed ∙ length_push row x ∙ ap (λ n. n + 1) len

-- the whole row
pub row-all : (F : ℕ → ℕ) (row : List ℕ) (i : ℕ) → length row ≡ i → ((n : ℕ) → n < i → get_or row n 0 ≡ F n) → ((n : ℕ) → i ≤ n → F n ≡ 0)
    → (n : ℕ) → get_or row n 0 ≡ F n
row-all F row i len below past n = ⊎_elim (λ (lt : n < i). below n lt) (λ (ge : i ≤ n). get_or_past row n 0 (omega arith) ∙ sym (past n ge)) (cases_lt n i)

pub place_among-here : (front : Class → ℕ) (xs : List Section) (i : ℕ) (s : Section) → i < length xs → s ≡ get_or xs i s
    → place_among front xs i ≡ start_behind (end_behind s.class (front s.class) (take i xs)) s
place_among-here front xs i s lt is = rw (slice_get_read xs (length xs) i s refl lt is) refl

pub place_among-past : (front : Class → ℕ) (xs : List Section) (n : ℕ) → length xs ≤ n → place_among front xs n ≡ 0
place_among-past front xs n h = rw (slice_get_past xs n h) refl

-- ---- tables of numbers

pub slice_get-left : {X : Type 0} (xs ys : List X) (n : ℕ) → n < length xs → slice_get (xs ++ ys) n ≡ slice_get xs n
slice_get-left [] ys n h = absurd (omega arith)
slice_get-left (x ∷ xs) ys zero h = refl
slice_get-left (x ∷ xs) ys (suc n) h = slice_get-left xs ys n (omega arith)

pub slice_get-seam : {X : Type 0} (xs : List X) (y : X) (n : ℕ) → length xs ≡ n → slice_get (xs ++ y ∷ []) n ≡ Some y
slice_get-seam [] y zero h = refl
slice_get-seam [] y (suc n) h = absurd (omega arith)
slice_get-seam (x ∷ xs) y zero h = absurd (omega arith)
slice_get-seam (x ∷ xs) y (suc n) h = slice_get-seam xs y n (omega arith)

abbrev row_cell : ℕ → Option (Vec ℕ Global) → ℕ
row_cell column row = option_map_or (λ (r : Vec ℕ Global). get_or r.items column 0) row 0

-- one row more
pub table-more : (F : ℕ → ℕ → ℕ) (rows new : List (Vec ℕ Global)) (i : ℕ) (row : Vec ℕ Global) → new ≡ rows ++ row ∷ [] → length rows ≡ i
    → ((n k : ℕ) → n < i → cell rows n k ≡ F n k) → ((k : ℕ) → get_or row.items k 0 ≡ F i k) → (n k : ℕ) → n < i + 1 → cell new n k ≡ F n k
table-more F rows new i row pushed len below here n k lt = below_more (λ m. cell new m k ≡ F m k) i
    (λ m h. ap (λ zs. cell zs m k) pushed ∙ ap (row_cell k) (slice_get-left rows (row ∷ []) m (omega arith)) ∙ below m k h)
    (ap (λ zs. cell zs i k) pushed ∙ ap (row_cell k) (slice_get-seam rows row i len) ∙ here k) n lt

pub table-length : (rows new : List (Vec ℕ Global)) (i : ℕ) (row : Vec ℕ Global) → new ≡ rows ++ row ∷ [] → length rows ≡ i → length new ≡ i + 1
table-length rows new i row pushed len = ap length pushed ∙ length_push rows row ∙ ap (λ n. n + 1) len

-- the whole table
pub table-all : (F : ℕ → ℕ → ℕ) (rows : List (Vec ℕ Global)) (i : ℕ) → length rows ≡ i → ((n k : ℕ) → n < i → cell rows n k ≡ F n k) → ((n k : ℕ) → i ≤ n → F n k ≡ 0)
    → (n k : ℕ) → cell rows n k ≡ F n k
table-all F rows i len below past n k =
    ⊎_elim (λ (lt : n < i). below n k lt) (λ (ge : i ≤ n). ap (row_cell k) (slice_get_past rows n (omega arith)) ∙ sym (past n k ge)) (cases_lt n i)

-- ---- the places in a list of inputs

place_in-at : (front here : Class → ℕ) (before own : List Section) → ((class : Class) → here class ≡ end_behind class (front class) before) → (found : Option Section)
    → option_map_or (λ s. start_behind (end_behind s.class (here s.class) own) s) found 0 ≡ option_map_or (λ s. start_behind (end_behind s.class (front s.class) (before ++ own)) s) found 0
place_in-at front here before own h None = refl
place_in-at front here before own h (Some s) =
    ap (λ e. start_behind e s) (ap (λ e. end_behind s.class e own) (h s.class) ∙ sym (end_behind-append s.class (front s.class) before own))

abbrev placed_by : (Class → ℕ) → List Object → ℕ → ℕ → Option Object → ℕ
placed_by front inputs i k o =
    option_map_or (λ s. start_behind (end_behind s.class (front s.class) (all_sections (take i inputs) ++ take k (option_map_or (λ (p : Object). p.sections) o []))) s)
    (slice_get (option_map_or (λ (p : Object). p.sections) o []) k) 0

pub place_in-here : (front here : Class → ℕ) (inputs : List Object) (i : ℕ) (o : Object) → i < length inputs → o ≡ get_or inputs i o
    → ((class : Class) → here class ≡ end_behind class (front class) (all_sections (take i inputs))) → (k : ℕ) → place_among here o.sections k ≡ place_in front inputs i k
place_in-here front here inputs i o lt is h k =
    place_in-at front here (all_sections (take i inputs)) (take k o.sections) h (slice_get o.sections k)
    ∙ ap (placed_by front inputs i k) (sym (slice_get_read inputs (length inputs) i o refl lt is))

pub place_in-past : (front : Class → ℕ) (inputs : List Object) (i k : ℕ) → length inputs ≤ i → place_in front inputs i k ≡ 0
place_in-past front inputs i k h = ap (placed_by front inputs i k) (slice_get_past inputs i h)

pub placeable-sections : (inputs : List Object) (i : ℕ) (o : Object) → i < length inputs → o ≡ get_or inputs i o → All IsConsistent inputs → NoGroups inputs → All IsPlaceable o.sections
placeable-sections inputs i o lt is consistent groups =
    let NoGroup : Object → Type 0 = λ p. All (λ (s : Section). is_class classes.Group s.class ≡ false) p.sections in
    let c = consistent-item inputs i o lt is consistent in
    let g = subst NoGroup (sym is) (All-get_or NoGroup inputs i o lt groups) in
    λ k d h. record { align = (c.sections k d h).align; no_group = g k d h }
