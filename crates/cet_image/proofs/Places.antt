-- The place of a function among ascending ones.
use Rattle.std.proofs.Common.{◌≡◌, ◌≢◌, ℕ, ◌<◌, ◌≤◌, ◌==◌, ltb, ltb-true, ltb-false, Bool, true, false, List, length, get_or, slice_get, find, position, Some, None, inl, inr, refl, sym, ap, subst, ◌∙◌, arith}
use Rattle.std.specs.List.{Contains, position_or_len}
use Rattle.std.specs.List.Sorted.{IsNonDecreasingBy, IsPartitionPoint}
use Rattle.std.proofs.lemmas.Bool.{cases_lt}
use Rattle.std.proofs.lemmas.Bool.Decides.{nat_tests}
use Rattle.std.proofs.lemmas.Option.{slice_get-get_or, slice_get_within, get_or_from_slice_get, slice_get_past}
use Rattle.std.proofs.lemmas.List.Sums.{position_or_len_is}
use Rattle.std.proofs.lemmas.List.Folds.{find_at}
use Rattle.cet_rules.specs.declared.function.Function.{Function}
use Rattle.cet_rules.specs.Regular.{AreFunctions}
use Rattle.cet_image.specs.Lookup.{StartsSplitAt}

-- starts do not fall
pub rising : (fs : List Function) → AreFunctions fs → IsNonDecreasingBy (λ f. f.start) fs
rising fs up i j d ij within = elim (cases_lt i j) [
  | inl less ↦ (up.ascending i j (get_or fs i d) (get_or fs j d) less (slice_get-get_or fs i d (omega arith)) (slice_get-get_or fs j d within)).0
  | inr not_less ↦ let e : i ≡ j = omega arith in omega (arith, ap (λ (k : ℕ). (get_or fs k d).start) e)
]

pub split_at : (fs : List Function) (a i : ℕ) → IsPartitionPoint (λ f. ltb f.start a ≡ true) (λ f. ltb f.start a ≡ false) fs i → StartsSplitAt fs a i
split_at fs a i h = record {
  before = λ k f below e. subst (λ (g : Function). g.start < a) (get_or_from_slice_get fs k f f e) (ltb-true (get_or fs k f).start a (h.0 k f (omega arith) below));
  after = λ k f above e. subst (λ (g : Function). a ≤ g.start) (get_or_from_slice_get fs k f f e) (ltb-false (get_or fs k f).start a (h.1 k f above (slice_get_within fs k f e)));
}

abbrev starts_at : ℕ → Function → Bool
starts_at a f = f.start == a

not_before : (f : Function) (a : ℕ) → f.start < a → starts_at a f ≡ false
not_before f a less = grind (arith, nat_tests)

not_after : (f : Function) (a : ℕ) → a < f.start → starts_at a f ≡ false
not_after f a less = grind (arith, nat_tests)

is_at : (f : Function) (a : ℕ) → f.start ≡ a → starts_at a f ≡ true
is_at f a e = grind (arith, nat_tests)

-- ---- a function starts there

first_at : (fs : List Function) (a i : ℕ) (f : Function) → StartsSplitAt fs a i → slice_get fs i ≡ Some f → f.start ≡ a → position_or_len (starts_at a) fs ≡ i
first_at fs a i f split e is =
    let within : i < length fs = slice_get_within fs i f e in
    position_or_len_is (starts_at a) fs i f (omega arith)
    (λ k below. not_before (get_or fs k f) a (split.before k (get_or fs k f) below (slice_get-get_or fs k f (omega arith))))
    (λ _. is_at (get_or fs i f) a (ap (λ (g : Function). g.start) (get_or_from_slice_get fs i f f e) ∙ is))

pub place_found : (fs : List Function) (a i : ℕ) (f : Function) → StartsSplitAt fs a i → slice_get fs i ≡ Some f → f.start ≡ a → Some i ≡ position (λ f. f.start == a) fs
place_found fs a i f split e is =
    let within : i < length fs = slice_get_within fs i f e in
    let here : position_or_len (starts_at a) fs ≡ i = first_at fs a i f split e is in
    let inside : ltb i (length fs) ≡ true = grind (arith, nat_tests) in
    rw (here, inside) refl

pub function_found : (fs : List Function) (a i : ℕ) (f : Function) → StartsSplitAt fs a i → slice_get fs i ≡ Some f → f.start ≡ a → slice_get fs i ≡ find (λ f. f.start == a) fs
function_found fs a i f split e is = sym (find_at (starts_at a) fs ∙ ap (slice_get fs) (first_at fs a i f split e is))

-- of those that start there it is the shortest
pub shortest : (fs : List Function) (a i : ℕ) (f : Function) → AreFunctions fs → StartsSplitAt fs a i → slice_get fs i ≡ Some f → f.start ≡ a → (g h : Function) → slice_get fs i ≡ Some g → Contains fs h → h.start ≡ a
    → g.size ≤ h.size
shortest fs a i f up split e is g h eg (k, within, at_k) eh =
    let same : f ≡ g = cc in
    let there : slice_get fs k ≡ Some h = slice_get-get_or fs k h within ∙ ap Some at_k in
    let not_before : i ≤ k = no_less (λ less. split.before k h less there) in
    elim (cases_lt i k) [
      | inl less ↦ let h = (up.ascending i k g h less eg there).1 (omega (arith, ap (λ (f : Function). f.start) same)) in omega arith
      | inr not_less ↦
          let e2 : i ≡ k = omega arith in
          let same2 : Some g ≡ Some h = sym eg ∙ ap (slice_get fs) e2 ∙ there in
          let same3 : g ≡ h = cc in
          omega (arith, ap (λ (f : Function). f.size) same3)
    ]
  where
    no_less : (k < i → h.start < a) → i ≤ k
    no_less before = elim (cases_lt k i) [ inl less ↦ absurd (omega (arith, before less)) | inr not_less ↦ not_less ]

-- ---- no function starts there

-- at the place stands one that starts later, or none
abbrev NoneAt : List Function → ℕ → ℕ → Type 0
NoneAt fs a i = (f : Function) → slice_get fs i ≡ Some f → f.start ≢ a

nowhere : (fs : List Function) (a i : ℕ) → AreFunctions fs → StartsSplitAt fs a i → NoneAt fs a i → (k : ℕ) (f : Function) → slice_get fs k ≡ Some f → starts_at a f ≡ false
nowhere fs a i up split none k f e = elim (cases_lt k i) [
  | inl less ↦ not_before f a (split.before k f less e)
  | inr not_less ↦
      let within : k < length fs = slice_get_within fs k f e in
      let g : Function = get_or fs i f in
      let there : slice_get fs i ≡ Some g = slice_get-get_or fs i f (omega arith) in
      let later : a ≤ g.start = split.after i g (omega arith) there in
      let differs : g.start ≢ a = none g there in
      let rises : g.start ≤ (get_or fs k f).start = rising fs up i k f not_less within in
      not_after f a (omega (arith, differs, ap (λ (h : Function). h.start) (get_or_from_slice_get fs k f f e)))
]

none_at : (fs : List Function) (a i : ℕ) (d : Function) → AreFunctions fs → StartsSplitAt fs a i → NoneAt fs a i → position_or_len (starts_at a) fs ≡ length fs
none_at fs a i d up split none =
    position_or_len_is (starts_at a) fs (length fs) d (omega arith) (λ k below. nowhere fs a i up split none k (get_or fs k d) (slice_get-get_or fs k d below)) (λ less. absurd (omega arith))

any_function : Function
any_function = record { start = 0; size = 0 }

pub place_none : (fs : List Function) (a i : ℕ) → AreFunctions fs → StartsSplitAt fs a i → ((f : Function) → slice_get fs i ≡ Some f → f.start ≢ a) → None ≡ position (λ f. f.start == a) fs
place_none fs a i up split none =
    let here : position_or_len (starts_at a) fs ≡ length fs = none_at fs a i any_function up split none in
    let outside : ltb (length fs) (length fs) ≡ false = grind (arith, nat_tests) in
    rw (here, outside) refl

pub function_none : (fs : List Function) (a i : ℕ) → AreFunctions fs → StartsSplitAt fs a i → ((f : Function) → slice_get fs i ≡ Some f → f.start ≢ a) → None ≡ find (λ f. f.start == a) fs
function_none fs a i up split none =
    sym (find_at (starts_at a) fs ∙ (ap (slice_get fs) (none_at fs a i any_function up split none) ∙ slice_get_past fs (length fs) (omega arith)))

pub none_past : (fs : List Function) (a i : ℕ) → length fs ≤ i → (f : Function) → slice_get fs i ≡ Some f → f.start ≢ a
none_past fs a i past f e is = omega (arith, slice_get_within fs i f e)

pub none_there : (fs : List Function) (a i : ℕ) (g : Function) → slice_get fs i ≡ Some g → g.start ≢ a → (f : Function) → slice_get fs i ≡ Some f → f.start ≢ a
none_there fs a i g there differs f e is = differs (ap (λ (h : Function). h.start) (let same : g ≡ f = cc in same) ∙ is)
