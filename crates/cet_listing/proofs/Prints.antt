-- What the writing of a listing keeps.
use Rattle.std.proofs.Common.{◌≡◌, ℕ, ◌+◌, ◌<◌, ◌≤◌, List, [], ◌++◌, length, take, drop, min, Option, sym, ap, subst, ◌∙◌, arith, append_assoc}
use Rattle.std.proofs.lemmas.List.{drop_all, append-nil, length-drop, take_min, take-append-le}
use Rattle.std.proofs.Math.Seq.{take-append-add}
use Rattle.std.proofs.Math.Nat.{min-le_right}
use Rattle.cet_base.specs.Sink.{Gains, GainsPart}
use Rattle.cet_base.proofs.SinkLemmas.{Gains-then, Gains-nothing}
use Rattle.cet_isa.specs.declared.instruction.Insn.{Insn}
use Rattle.cet_isa.specs.Law.{Begins}
use Rattle.cet_listing.specs.Listing.{instruction_line, IsListing, IsListed}
use Rattle.cet_listing.proofs.Listings.{listing_rest, no_line, listed_begins}
use Rattle.cet_listing.proofs.Walks.{ahead}

-- what is still to be printed of the lines, behind the text that was printed: a listing of the bytes from the offset on
pub record Left (at : ℕ) (bytes : List ℕ) (offset : ℕ) (printed lines : List ℕ) : Type 0 where
  pub more : List ℕ
  pub listing : IsListing (at + offset) (drop offset bytes) more
  pub lines_are : lines ≡ printed ++ more

-- The output and the page together have the lines of the forms before the offset: the output gained the first of that text,
-- and the page holds the rest.
pub record Printed (old now : Option (List ℕ)) (page : List ℕ) (at : ℕ) (bytes : List ℕ) (offset : ℕ) : Type 0 where
  pub written : List ℕ
  pub gained : Gains old now written
  pub left : (lines : List ℕ) → IsListing at bytes lines → Left at bytes offset (written ++ page) lines

pub Printed-start : (old : Option (List ℕ)) (page : List ℕ) (at : ℕ) (bytes : List ℕ) → page ≡ [] → Printed old old page at bytes 0
Printed-start old page at bytes none =
    let same : at + 0 ≡ at = omega arith in
    record {
      written = [];
      gained = Gains-nothing old [];
      left = λ lines listing. record {
        more = lines;
        listing = subst (λ (k : ℕ). IsListing k bytes lines) (sym same) listing;
        lines_are = ap (λ (x : List ℕ). x ++ lines) (sym none);
      };
    }

-- the line of the next form went to the page, which may have been written before
pub Printed-next : (old now new : Option (List ℕ)) (page after line written : List ℕ) (at : ℕ) (bytes : List ℕ) (offset : ℕ) (i : Insn) (n : ℕ)
    → Begins (drop offset bytes) i n → line ≡ instruction_line (at + offset) (take n (drop offset bytes)) i → Gains now new written → page ++ line ≡ written ++ after
    → Printed old now page at bytes offset → Printed old new after at bytes (offset + n)
Printed-next old now new page after line written at bytes offset i n begins line_is gains held printed = record {
  written = printed.written ++ written;
  gained = Gains-then old now new printed.written written printed.gained gains;
  left = λ lines listing.
      let left = printed.left lines listing in
      let goes = listing_rest (at + offset) (drop offset bytes) left.more i n begins left.listing in
      record {
        more = goes.more;
        listing = ahead (λ k x. IsListing k x goes.more) at bytes offset n goes.listing;
        lines_are =
            left.lines_are
            ∙ ap (λ (x : List ℕ). printed.written ++ page ++ x) (goes.lines_are ∙ ap (λ (x : List ℕ). x ++ goes.more) (sym line_is))
            ∙ (sym (append_assoc (printed.written ++ page) line goes.more)
            ∙ ap (λ (x : List ℕ). x ++ goes.more) (append_assoc printed.written page line ∙ ap (λ (x : List ℕ). printed.written ++ x) held ∙ sym (append_assoc printed.written written after)));
      };
}

-- some of what the page holds is some of the lines
pub Printed-part : (old now new : Option (List ℕ)) (page : List ℕ) (at : ℕ) (bytes : List ℕ) (offset : ℕ) → Printed old now page at bytes offset → GainsPart now new page
    → (lines : List ℕ) → IsListing at bytes lines → GainsPart old new lines
Printed-part old now new page at bytes offset printed (k, gains) lines listing =
    let left = printed.left lines listing in
    let m : ℕ = min k (length page) in
    let most : m ≤ length page = min-le_right k (length page) in
    let front : take (length printed.written + m) lines ≡ printed.written ++ take k page =
    ap (λ (x : List ℕ). take (length printed.written + m) x) (left.lines_are ∙ append_assoc printed.written page left.more)
    ∙ (take-append-add printed.written (page ++ left.more) m
    ∙ ap (λ (x : List ℕ). printed.written ++ x) (take-append-le m page left.more most ∙ take_min k page)) in
    (length printed.written + m, subst (λ (x : List ℕ). Gains old new x) (sym front) (Gains-then old now new printed.written (take k page) printed.gained gains))

-- behind the last form, the page holds the end of the lines
pub Printed-all : (old now new : Option (List ℕ)) (page : List ℕ) (at : ℕ) (bytes : List ℕ) (offset : ℕ) → length bytes ≤ offset → Printed old now page at bytes offset → Gains now new page
    → (lines : List ℕ) → IsListing at bytes lines → Gains old new lines
Printed-all old now new page at bytes offset end printed gains lines listing =
    let left = printed.left lines listing in
    let none : left.more ≡ [] = no_line (at + offset) (drop offset bytes) left.more (drop_all offset bytes end) left.listing in
    let all : lines ≡ printed.written ++ page = left.lines_are ∙ (ap (λ (x : List ℕ). printed.written ++ page ++ x) none ∙ append-nil (printed.written ++ page)) in
    subst (λ (x : List ℕ). Gains old new x) (sym all) (Gains-then old now new printed.written page printed.gained gains)

-- a form stands before the end
pub Printed-begins : (old now : Option (List ℕ)) (page : List ℕ) (at : ℕ) (bytes : List ℕ) (offset : ℕ) → Printed old now page at bytes offset → IsListed at bytes → offset < length bytes
    → (i : Insn) × (n : ℕ) × Begins (drop offset bytes) i n
Printed-begins old now page at bytes offset printed (lines, listing) more =
    let left = printed.left lines listing in
    listed_begins (at + offset) (drop offset bytes) left.more (omega (arith, length-drop offset bytes)) left.listing
