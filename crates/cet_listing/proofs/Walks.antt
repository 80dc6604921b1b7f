-- What the loops over the forms keep.
use Rattle.std.proofs.Common.{◌≡◌, ◌≢◌, ℕ, ◌+◌, ◌-◌, ◌<◌, ◌≤◌, List, [], length, take, drop, Err, refl, sym, ap, subst, ◌↔◌, arith}
use Rattle.std.proofs.lemmas.List.{drop-drop, drop_all, length-drop, take_rest}
use Rattle.cet_isa.specs.declared.instruction.Insn.{Insn}
use Rattle.cet_isa.specs.declared.decode_error.DecodeError.{DecodeError}
use Rattle.cet_isa.specs.declared.decode_error.DecodeError.TheVariants.{Short, Outside}
use Rattle.cet_isa.specs.Decoded.{Decoding}
use Rattle.cet_isa.specs.Law.{Begins, IsProperPrefix, IsNoForm}
use Rattle.cet_isa.proofs.Heads.{begins_length}
use Rattle.cet_listing.specs.Listing.{IsListing, IsListed, nothing, IsReason, StopsAt, here}
use Rattle.cet_listing.proofs.Listings.{listing_rest, listing_onto, stop_rest, stop_onto, no_stop, reason_unlisted, reason_stop}

-- what holds behind the next form, at the sum of the offsets
module _ (P : ℕ → List ℕ → Type 0) (at : ℕ) (bytes : List ℕ) (offset n : ℕ) where
  place : at + offset + n ≡ at + (offset + n)
  place = omega arith

  pub ahead : P (at + offset + n) (drop n (drop offset bytes)) → P (at + (offset + n)) (drop (offset + n) bytes)
  ahead p = subst (λ (k : ℕ). P k (drop (offset + n) bytes)) place (subst (λ (x : List ℕ). P (at + offset + n) x) (drop-drop n offset bytes) p)

  pub back : P (at + (offset + n)) (drop (offset + n) bytes) → P (at + offset + n) (drop n (drop offset bytes))
  back p = subst (λ (x : List ℕ). P (at + offset + n) x) (sym (drop-drop n offset bytes)) (subst (λ (k : ℕ). P k (drop (offset + n) bytes)) (sym place) p)

-- the bytes are listed, and stop, as those from the offset on
pub record SameFrom (at : ℕ) (bytes : List ℕ) (offset : ℕ) : Type 0 where
  pub listed : IsListed (at + offset) (drop offset bytes) → IsListed at bytes
  pub lists : IsListed at bytes → IsListed (at + offset) (drop offset bytes)
  pub stopped : (stop : ℕ) (why : DecodeError) → StopsAt (at + offset) (drop offset bytes) stop why → StopsAt at bytes stop why
  pub stops : (stop : ℕ) (why : DecodeError) → StopsAt at bytes stop why → StopsAt (at + offset) (drop offset bytes) stop why

pub SameFrom-start : (at : ℕ) (bytes : List ℕ) → SameFrom at bytes 0
SameFrom-start at bytes =
    let same : at + 0 ≡ at = omega arith in
    record {
      listed = λ l. subst (λ (k : ℕ). IsListed k bytes) same l;
      lists = λ l. subst (λ (k : ℕ). IsListed k bytes) (sym same) l;
      stopped = λ stop why s. subst (λ (k : ℕ). StopsAt k bytes stop why) same s;
      stops = λ stop why s. subst (λ (k : ℕ). StopsAt k bytes stop why) (sym same) s;
    }

pub SameFrom-next : (at : ℕ) (bytes : List ℕ) (offset : ℕ) (i : Insn) (n : ℕ) → Begins (drop offset bytes) i n → SameFrom at bytes offset → SameFrom at bytes (offset + n)
SameFrom-next at bytes offset i n begins same = record {
  listed = λ (more, listing). same.listed (_, listing_onto (at + offset) (drop offset bytes) more i n begins (back (λ k x. IsListing k x more) at bytes offset n listing));
  lists = λ listed.
      let rest = same.lists listed in
      let goes = listing_rest (at + offset) (drop offset bytes) rest.0 i n begins rest.1 in
      (goes.more, ahead (λ k x. IsListing k x goes.more) at bytes offset n goes.listing);
  stopped = λ stop why s. same.stopped stop why (stop_onto (at + offset) (drop offset bytes) stop why i n begins (back (λ k x. StopsAt k x stop why) at bytes offset n s));
  stops = λ stop why s. ahead (λ k x. StopsAt k x stop why) at bytes offset n (stop_rest (at + offset) (drop offset bytes) stop why i n begins (same.stops stop why s));
}

-- all bytes are forms
module _ (at : ℕ) (bytes : List ℕ) (offset : ℕ) (end : length bytes ≤ offset) (same : SameFrom at bytes offset) where
  pub listed_at_end : IsListed at bytes
  listed_at_end = same.listed ([], nothing (drop_all offset bytes end) refl)

  pub no_stop_at_end : (stop : ℕ) (why : DecodeError) → StopsAt at bytes stop why → ⊥
  no_stop_at_end stop why stops = no_stop (at + offset) (drop offset bytes) stop why (drop_all offset bytes end) (same.stops stop why stops)

-- no form stands at the offset
module _ (at : ℕ) (bytes : List ℕ) (offset : ℕ) (why : DecodeError) (more : offset < length bytes) (same : SameFrom at bytes offset) (reason : IsReason why (drop offset bytes)) where
  some : drop offset bytes ≢ []
  some none = omega (arith, length-drop offset bytes, ap length none)

  pub stop_at : StopsAt at bytes (at + offset) why
  stop_at = same.stopped (at + offset) why (here refl some reason)

  pub unlisted_at : IsListed at bytes → ⊥
  unlisted_at listed = let rest = same.lists listed in reason_unlisted (at + offset) (drop offset bytes) rest.0 why some reason rest.1

  pub only_stop_at : (stop : ℕ) (other : DecodeError) → StopsAt at bytes stop other → (stop ≡ at + offset) × (other ≡ why)
  only_stop_at stop other stops = reason_stop (at + offset) (drop offset bytes) stop why other reason (same.stops stop other stops)

-- ---- what `decode` tells of the bytes from the offset on

-- the bytes from the offset on, as a slice has them
pub found : (bytes : List ℕ) (offset : ℕ) (i : Insn) (n : ℕ) → Begins (take (length bytes - offset) (drop offset bytes)) i n → Begins (drop offset bytes) i n
found bytes offset i n begins = subst (λ (x : List ℕ). Begins x i n) (take_rest bytes offset) begins

-- the form has a byte at least and ends with the bytes at the latest
pub record Step (bytes : List ℕ) (offset n : ℕ) : Type 0 where
  pub some : 0 < n
  pub short : n ≤ 15
  pub within : offset + n ≤ length bytes

pub step : (bytes : List ℕ) (offset : ℕ) (i : Insn) (n : ℕ) → offset < length bytes → Begins (drop offset bytes) i n → Step bytes offset n
step bytes offset i n more begins =
    let size = begins_length (drop offset bytes) i n begins in
    record { some = size.0; short = size.1; within = omega (arith, begins.within, length-drop offset bytes) }

reason_told : (why : DecodeError) (b : List ℕ) → (◌≡◌ {A = Decoding} (Err why) (Err Short) ↔ IsProperPrefix b) → (◌≡◌ {A = Decoding} (Err why) (Err Outside) ↔ IsNoForm b) → IsReason why b
reason_told Short b short outside = short.0 refl
reason_told Outside b short outside = outside.0 refl

pub reason : (bytes : List ℕ) (offset : ℕ) (why : DecodeError) → (◌≡◌ {A = Decoding} (Err why) (Err Short) ↔ IsProperPrefix (take (length bytes - offset) (drop offset bytes)))
    → (◌≡◌ {A = Decoding} (Err why) (Err Outside) ↔ IsNoForm (take (length bytes - offset) (drop offset bytes))) → IsReason why (drop offset bytes)
reason bytes offset why short outside = subst (λ (x : List ℕ). IsReason why x) (take_rest bytes offset) (reason_told why _ short outside)
