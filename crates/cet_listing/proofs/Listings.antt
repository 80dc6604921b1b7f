-- Listings and stops: what a form at the head of the bytes leaves of them, and that there is one at most.
use Rattle.std.proofs.Common.{◌≡◌, ◌≢◌, ℕ, ◌+◌, ◌<◌, List, [], ◌++◌, length, take, drop, refl, sym, ap, subst, ◌∙◌, arith}
use Rattle.std.proofs.lemmas.List.{length-append, length-take-le, take-append-drop}
use Rattle.std.proofs.Math.Seq.{take-append_seam, drop-append_seam}
use Rattle.cet_isa.specs.declared.instruction.Insn.{Insn}
use Rattle.cet_isa.specs.declared.decode_error.DecodeError.{DecodeError}
use Rattle.cet_isa.specs.declared.decode_error.DecodeError.TheVariants.{Short, Outside}
use Rattle.cet_isa.specs.Form.{Form}
use Rattle.cet_isa.specs.Law.{Begins}
use Rattle.cet_isa.proofs.Heads.{one_head, begins_length, prefix_begins_not}
use Rattle.cet_listing.specs.Listing.{instruction_line, IsListing, nothing, instruction, IsReason, StopsAt, here, later}

-- bytes that go on behind a form begin with it
front_begins : (bytes form rest : List ℕ) (insn : Insn) → Form insn form → bytes ≡ form ++ rest → Begins bytes insn (length form)
front_begins bytes form rest insn is whole = record {
  within = omega (arith, ap length whole, length-append form rest);
  form = subst (λ (x : List ℕ). Form insn x) (sym (ap (λ (x : List ℕ). take (length form) x) whole ∙ take-append_seam form rest)) is;
}

-- the form at the head of the bytes is the one that they begin with, and the rest is what is left of them
pub record SameHead (bytes form rest : List ℕ) (insn i : Insn) (n : ℕ) : Type 0 where
  pub value : insn ≡ i
  pub form_is : form ≡ take n bytes
  pub size : length form ≡ n
  pub rest_is : rest ≡ drop n bytes

same_head : (bytes form rest : List ℕ) (insn i : Insn) (n : ℕ) → Begins bytes i n → Form insn form → bytes ≡ form ++ rest → SameHead bytes form rest insn i n
same_head bytes form rest insn i n begins is whole =
    let one = one_head bytes insn i (length form) n (front_begins bytes form rest insn is whole) begins in
    record {
      value = one.0;
      form_is = sym (ap (λ (x : List ℕ). take (length form) x) whole ∙ take-append_seam form rest) ∙ ap (λ (k : ℕ). take k bytes) one.1;
      size = one.1;
      rest_is = sym (ap (λ (x : List ℕ). drop (length form) x) whole ∙ drop-append_seam form rest) ∙ ap (λ (k : ℕ). drop k bytes) one.1;
    }

begins_some : (bytes : List ℕ) (i : Insn) (n : ℕ) → Begins bytes i n → bytes ≡ [] → ⊥
begins_some bytes i n begins none = let size = begins_length bytes i n begins in omega (arith, begins.within, ap length none)

reason_begins_not : (bytes : List ℕ) (why : DecodeError) (i : Insn) (n : ℕ) → IsReason why bytes → Begins bytes i n → ⊥
reason_begins_not bytes Short i n reason begins = prefix_begins_not bytes i n reason begins
reason_begins_not bytes Outside i n reason begins = reason.0 i n begins

one_reason : (bytes : List ℕ) (why other : DecodeError) → IsReason why bytes → IsReason other bytes → why ≡ other
one_reason bytes Short Short first second = refl
one_reason bytes Short Outside (i, more, some, is) second = absurd (second.1 i more is)
one_reason bytes Outside Short first (i, more, some, is) = absurd (first.1 i more is)
one_reason bytes Outside Outside first second = refl

-- ---- behind a form

-- a listing of the bytes is the line of the form that they begin with, and a listing of the rest
pub record GoesOn (at : ℕ) (bytes lines : List ℕ) (i : Insn) (n : ℕ) : Type 0 where
  pub more : List ℕ
  pub listing : IsListing (at + n) (drop n bytes) more
  pub lines_are : lines ≡ instruction_line at (take n bytes) i ++ more

pub listing_rest : (at : ℕ) (bytes lines : List ℕ) (i : Insn) (n : ℕ) → Begins bytes i n → IsListing at bytes lines → GoesOn at bytes lines i n
listing_rest at bytes lines i n begins (nothing no_byte no_line) = absurd (begins_some bytes i n begins no_byte)
listing_rest at bytes lines i n begins (instruction insn form rest more is listing whole lines_are) =
    let same = same_head bytes form rest insn i n begins is whole in
    record {
      more = more;
      listing = subst (λ (x : List ℕ). IsListing (at + n) x more) same.rest_is (subst (λ (k : ℕ). IsListing (at + k) rest more) same.size listing);
      lines_are = lines_are ∙ (ap (λ (x : List ℕ). instruction_line at x insn ++ more) same.form_is ∙ ap (λ (j : Insn). instruction_line at (take n bytes) j ++ more) same.value);
    }

pub listing_onto : (at : ℕ) (bytes more : List ℕ) (i : Insn) (n : ℕ) → Begins bytes i n → IsListing (at + n) (drop n bytes) more → IsListing at bytes (instruction_line at (take n bytes) i ++ more)
listing_onto at bytes more i n begins listing =
    instruction i (take n bytes) (drop n bytes) more begins.form
    (subst (λ (k : ℕ). IsListing (at + k) (drop n bytes) more) (sym (length-take-le n bytes begins.within)) listing) (sym (take-append-drop n bytes)) refl

pub stop_rest : (at : ℕ) (bytes : List ℕ) (stop : ℕ) (why : DecodeError) (i : Insn) (n : ℕ) → Begins bytes i n → StopsAt at bytes stop why → StopsAt (at + n) (drop n bytes) stop why
stop_rest at bytes stop why i n begins (here place some reason) = absurd (reason_begins_not bytes why i n reason begins)
stop_rest at bytes stop why i n begins (later insn form rest is stops whole) =
    let same = same_head bytes form rest insn i n begins is whole in
    subst (λ (x : List ℕ). StopsAt (at + n) x stop why) same.rest_is (subst (λ (k : ℕ). StopsAt (at + k) rest stop why) same.size stops)

pub stop_onto : (at : ℕ) (bytes : List ℕ) (stop : ℕ) (why : DecodeError) (i : Insn) (n : ℕ) → Begins bytes i n → StopsAt (at + n) (drop n bytes) stop why → StopsAt at bytes stop why
stop_onto at bytes stop why i n begins stops =
    later i (take n bytes) (drop n bytes) begins.form
    (subst (λ (k : ℕ). StopsAt (at + k) (drop n bytes) stop why) (sym (length-take-le n bytes begins.within)) stops) (sym (take-append-drop n bytes))

-- ---- at an end

pub no_line : (at : ℕ) (bytes lines : List ℕ) → bytes ≡ [] → IsListing at bytes lines → lines ≡ []
no_line at bytes lines none (nothing no_byte e) = e
no_line at bytes lines none (instruction insn form rest more is listing whole lines_are) =
    absurd (begins_some bytes insn (length form) (front_begins bytes form rest insn is whole) none)

pub no_stop : (at : ℕ) (bytes : List ℕ) (stop : ℕ) (why : DecodeError) → bytes ≡ [] → StopsAt at bytes stop why → ⊥
no_stop at bytes stop why none (here place some reason) = some none
no_stop at bytes stop why none (later insn form rest is stops whole) = begins_some bytes insn (length form) (front_begins bytes form rest insn is whole) none

-- bytes that have a listing and are not all read begin with a form
pub listed_begins : (at : ℕ) (bytes lines : List ℕ) → 0 < length bytes → IsListing at bytes lines → (i : Insn) × (n : ℕ) × Begins bytes i n
listed_begins at bytes lines some (nothing no_byte e) = absurd (omega (arith, ap length no_byte))
listed_begins at bytes lines some (instruction insn form rest more is listing whole lines_are) = (insn, length form, front_begins bytes form rest insn is whole)

pub reason_unlisted : (at : ℕ) (bytes lines : List ℕ) (why : DecodeError) → bytes ≢ [] → IsReason why bytes → IsListing at bytes lines → ⊥
reason_unlisted at bytes lines why some reason (nothing no_byte e) = some no_byte
reason_unlisted at bytes lines why some reason (instruction insn form rest more is listing whole lines_are) =
    reason_begins_not bytes why insn (length form) reason (front_begins bytes form rest insn is whole)

pub reason_stop : (at : ℕ) (bytes : List ℕ) (stop : ℕ) (why other : DecodeError) → IsReason why bytes → StopsAt at bytes stop other → (stop ≡ at) × (other ≡ why)
reason_stop at bytes stop why other reason (here place some r) = (place, one_reason bytes other why r reason)
reason_stop at bytes stop why other reason (later insn form rest is stops whole) =
    absurd (reason_begins_not bytes why insn (length form) reason (front_begins bytes form rest insn is whole))

-- ---- the laws

pub one_listing : (at : ℕ) (bytes first second : List ℕ) → IsListing at bytes first → IsListing at bytes second → first ≡ second
one_listing at bytes first second (nothing no_byte e) other = e ∙ sym (no_line at bytes second no_byte other)
one_listing at bytes first second (instruction insn form rest more is listing whole lines_are) other =
    let begins = front_begins bytes form rest insn is whole in
    let goes = listing_rest at bytes second insn (length form) begins other in
    let left : drop (length form) bytes ≡ rest = ap (λ (x : List ℕ). drop (length form) x) whole ∙ drop-append_seam form rest in
    let front : take (length form) bytes ≡ form = ap (λ (x : List ℕ). take (length form) x) whole ∙ take-append_seam form rest in
    let same : more ≡ goes.more = one_listing (at + length form) rest more goes.more listing (subst (λ (x : List ℕ). IsListing (at + length form) x goes.more) left goes.listing) in
    lines_are ∙ (ap (λ (x : List ℕ). instruction_line at form insn ++ x) same ∙ (sym (ap (λ (x : List ℕ). instruction_line at x insn ++ goes.more) front) ∙ sym goes.lines_are))

pub one_stop : (at : ℕ) (bytes : List ℕ) (stop other : ℕ) (why reason : DecodeError) → StopsAt at bytes stop why → StopsAt at bytes other reason → (stop ≡ other) × (why ≡ reason)
one_stop at bytes stop other why reason (here place some r) second =
    let same = reason_stop at bytes other why reason r second in (place ∙ sym same.0, sym same.1)
one_stop at bytes stop other why reason (later insn form rest is stops whole) second =
    let begins = front_begins bytes form rest insn is whole in
    let left : drop (length form) bytes ≡ rest = ap (λ (x : List ℕ). drop (length form) x) whole ∙ drop-append_seam form rest in
    one_stop (at + length form) rest stop other why reason stops
    (subst (λ (x : List ℕ). StopsAt (at + length form) x other reason) left (stop_rest at bytes other reason insn (length form) begins second))

pub listing_or_stop : (at : ℕ) (bytes lines : List ℕ) (stop : ℕ) (why : DecodeError) → IsListing at bytes lines → StopsAt at bytes stop why → ⊥
listing_or_stop at bytes lines stop why (nothing no_byte e) stops = no_stop at bytes stop why no_byte stops
listing_or_stop at bytes lines stop why (instruction insn form rest more is listing whole lines_are) stops =
    let begins = front_begins bytes form rest insn is whole in
    let left : drop (length form) bytes ≡ rest = ap (λ (x : List ℕ). drop (length form) x) whole ∙ drop-append_seam form rest in
    listing_or_stop (at + length form) rest more stop why listing
    (subst (λ (x : List ℕ). StopsAt (at + length form) x stop why) left (stop_rest at bytes stop why insn (length form) begins stops))
