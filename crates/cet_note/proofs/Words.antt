-- The word of a type, in a list of properties and in a map.
use Rattle.std.proofs.Common.{◌≡◌, ℕ, ◌<◌, ◌^◌, [], ◌∷◌, Some, IsTrue, refl, sym, ◌∙◌, arith}
use Rattle.std.specs.Ordering.{nat_cmp}
use Rattle.std.specs.Map.{lookup}
use Rattle.std.specs.BTreeMap.{BTreeMap, is_at, insert_entry, IsOrdered, Updates}
use Rattle.std.proofs.lemmas.Bool.Decides.{nat_tests}
use Rattle.std.proofs.lemmas.Map.Keys.{IsStrictlyIncreasing-from_sorted}
use Rattle.std.proofs.lemmas.Map.Views.{All-keys-insert_entry, All-values-insert_entry}
use Rattle.cet_note.specs.Note.{Note, IsNote, Sets, is_word_type, word_of}

-- a map finds the word of a type
pub word_of-lookup : (note : Note) (kind : ℕ) → lookup (is_at (nat_cmp kind)) note ≡ word_of note kind
word_of-lookup [] kind = refl
word_of-lookup (p ∷ note) kind = let h = word_of-lookup note kind in grind (arith, nat_tests)

-- an insertion sets one word
pub Sets-from_updates : (old new : BTreeMap ℕ ℕ) (kind bits : ℕ) → Updates nat_cmp old new kind (Some bits) → Sets old.entries new.entries kind bits
Sets-from_updates old new kind bits h = record {
  this_type = sym (word_of-lookup new.entries kind) ∙ h.1;
  other_types = λ other differs.
      sym (word_of-lookup new.entries other) ∙ h.2 other (grind (arith, nat_tests)) ∙ word_of-lookup old.entries other;
}

-- and leaves a note a note
pub IsNote-insert_entry : (old new : BTreeMap ℕ ℕ) (kind bits : ℕ) → new.entries ≡ insert_entry nat_cmp old.entries kind bits → IsOrdered nat_cmp new → IsTrue (is_word_type kind) → bits < 2 ^ 32 → IsNote old.entries → IsNote new.entries
IsNote-insert_entry old new kind bits e ordered known fits note = record {
  ascending = IsStrictlyIncreasing-from_sorted _ ordered;
  types_known = rw e (All-keys-insert_entry nat_cmp kind bits (λ k. IsTrue (is_word_type k)) old.entries note.types_known known);
  words_fit = rw e (All-values-insert_entry nat_cmp kind bits (λ b. b < 2 ^ 32) old.entries note.words_fit fits);
}
