-- The frame of a signal as bytes, and the words of bytes.
use Rattle.std.proofs.Common.{◌≡◌, ℕ, zero, suc, ◌+◌, ◌-◌, ◌*◌, ◌<◌, ◌≤◌, Bool, not, ◌&&◌, ◌==◌, List, [], ◌∷◌, ◌++◌, length, take, drop, get_or, refl, sym, ap, ◌∙◌, arith, length-append, append_assoc, append-nil, drop-drop, drop-cons, drop_of_length-le, get_or-take, get_or-drop, ext_get_or, take-suc, take_at, length-take-le, length-drop}
use Rattle.std.specs.Int.{from_bool}
use Rattle.std.proofs.lemmas.List.{take_all}
use Rattle.cet_base.specs.Field.{little_endian}
use Rattle.cet_isa.specs.declared.registers.Regs.{Regs}
use Rattle.cet_isa.specs.declared.registers.Flags.{Flags}
use Rattle.cet_isa.specs.declared.registers.Mode.{Mode}
use Rattle.cet_machine.specs.declared.action.Action.{Action}
use Rattle.cet_machine.specs.Memory.{low_bytes}
use Rattle.cet_machine.specs.Arithmetic.{flags_word, flags_of_word}
use Rattle.cet_machine.specs.Signal.{frame, frame_mark, bytes_of_words, words_of_bytes, framed_regs}
use Rattle.cet_machine.proofs.MemoryBytes.{length-low_bytes}

-- ---- the words of bytes

pub word_is : (n i : ℕ) (bytes : List ℕ) → i < n → get_or (words_of_bytes n bytes) i 0 ≡ little_endian (take 8 (drop (8 * i) bytes))
word_is zero i bytes within = absurd (omega arith)
word_is (suc n) zero bytes within = refl
word_is (suc n) (suc i) bytes within =
    let next : 8 + 8 * i ≡ 8 * suc i = omega arith in
    word_is n i (drop 8 bytes) (omega arith)
    ∙ ap (λ (l : List ℕ). little_endian (take 8 l)) (drop-drop (8 * i) 8 bytes ∙ ap (λ (k : ℕ). drop k bytes) next)

-- the registers in a frame
pub registers_are : (bytes r : List ℕ) → length r ≡ 16 → ((k : ℕ) → k < 16 → get_or r k 0 ≡ little_endian (take 8 (drop (8 * (k + 1)) bytes)))
    → r ≡ take 16 (drop 1 (words_of_bytes 26 bytes))
registers_are bytes r size each =
    let words = words_of_bytes 26 bytes in
    ext_get_or 0 r (take 16 (drop 1 (words_of_bytes 26 bytes))) size (λ i within.
    let small : i < 16 = omega (arith, within, size) in
    let one : 1 + i ≡ i + 1 = omega arith in
    each i small
    ∙ sym (get_or-take 16 (drop 1 words) i 0 small
    ∙ get_or-drop 1 words i 0
    ∙ ap (λ (k : ℕ). get_or words k 0) one
    ∙ word_is 26 (i + 1) bytes (omega arith)))

-- ---- words as bytes

pub bytes_of_words_append : (words more : List ℕ) → bytes_of_words (words ++ more) ≡ bytes_of_words words ++ bytes_of_words more
bytes_of_words_append [] more = refl
bytes_of_words_append (word ∷ words) more =
    ap (λ (l : List ℕ). low_bytes 8 word ++ l) (bytes_of_words_append words more) ∙ sym (append_assoc (low_bytes 8 word) (bytes_of_words words) (bytes_of_words more))

pub bytes_of_words_next : (words : List ℕ) (i : ℕ) → i < length words → bytes_of_words (take (suc i) words) ≡ bytes_of_words (take i words) ++ low_bytes 8 (get_or words i 0)
bytes_of_words_next words i within =
    ap bytes_of_words (take-suc words i 0 within) ∙ bytes_of_words_append (take i words) (get_or words i 0 ∷ [])
    ∙ ap (λ (l : List ℕ). bytes_of_words (take i words) ++ l) (append-nil (low_bytes 8 (get_or words i 0)))

pub length-bytes_of_words : (words : List ℕ) → length (bytes_of_words words) ≡ 8 * length words
length-bytes_of_words [] = refl
length-bytes_of_words (word ∷ words) =
    let rest = length-bytes_of_words words in
    let eight = length-low_bytes 8 word in
    length-append (low_bytes 8 word) (bytes_of_words words) ∙ omega (arith, rest, eight)

-- ---- the frame

-- the n items from place k
items_from : List ℕ → ℕ → ℕ → List ℕ
items_from r zero k = []
items_from r (suc n) k = get_or r k 0 ∷ items_from r n (suc k)

listed : (r : List ℕ) (n k : ℕ) → k + n ≡ length r → drop k r ≡ items_from r n k
unfolding items_from
listed r zero k size = drop_of_length-le r (omega (arith, size))
listed r (suc n) k size = drop-cons r k 0 (omega (arith, size)) ∙ ap (λ (l : List ℕ). get_or r k 0 ∷ l) (listed r n (suc k) (omega (arith, size)))

pub sixteen : (r : List ℕ) → length r ≡ 16
    → r ≡ get_or r 0 0 ∷ get_or r 1 0 ∷ get_or r 2 0 ∷ get_or r 3 0 ∷ get_or r 4 0 ∷ get_or r 5 0 ∷ get_or r 6 0 ∷ get_or r 7 0
    ∷ get_or r 8 0 ∷ get_or r 9 0 ∷ get_or r 10 0 ∷ get_or r 11 0 ∷ get_or r 12 0 ∷ get_or r 13 0 ∷ get_or r 14 0 ∷ get_or r 15 0 ∷ []
unfolding items_from
sixteen r size = listed r 16 0 (sym size)

pub frame_count : (action : Action) (signo : ℕ) (R : Regs) → length R.r ≡ 16 → length (frame action signo R) ≡ 26
frame_count action signo R size = ap suc (length-append R.r _ ∙ ap (λ (n : ℕ). n + 9) size)

pub frame_length : (action : Action) (signo : ℕ) (R : Regs) → length R.r ≡ 16 → length (bytes_of_words (frame action signo R)) ≡ 208
frame_length action signo R size = length-bytes_of_words (frame action signo R) ∙ ap (λ (n : ℕ). 8 * n) (frame_count action signo R size)

pub frame_is : (action : Action) (signo : ℕ) (R : Regs) (flags waiting number : ℕ) → length R.r ≡ 16 → flags ≡ flags_word R.flags → waiting ≡ from_bool R.waiting → number ≡ signo
    → action.restorer ∷ get_or R.r 0 0 ∷ get_or R.r 1 0 ∷ get_or R.r 2 0 ∷ get_or R.r 3 0 ∷ get_or R.r 4 0 ∷ get_or R.r 5 0 ∷ get_or R.r 6 0 ∷ get_or R.r 7 0
    ∷ get_or R.r 8 0 ∷ get_or R.r 9 0 ∷ get_or R.r 10 0 ∷ get_or R.r 11 0 ∷ get_or R.r 12 0 ∷ get_or R.r 13 0 ∷ get_or R.r 14 0 ∷ get_or R.r 15 0
    ∷ R.rip ∷ flags ∷ waiting ∷ number ∷ R.mask ∷ frame_mark ∷ 0 ∷ 0 ∷ 0 ∷ [] ≡ frame action signo R
frame_is action signo R flags waiting number size of_flags of_waiting of_number =
    rw of_flags (rw of_waiting (rw of_number
    (ap (λ (r : List ℕ). action.restorer ∷ r ++ (R.rip ∷ flags_word R.flags ∷ from_bool R.waiting ∷ signo ∷ R.mask ∷ frame_mark ∷ 0 ∷ 0 ∷ 0 ∷ [])) (sym (sixteen R.r size)))))

-- ---- one word more in the bytes

pub word_put : (bytes new rest words : List ℕ) (i : ℕ) → length bytes ≡ 208 → i < 26 → length new ≡ 8 → take (8 * i) bytes ≡ bytes_of_words (take i words) → length words ≡ 26
    → new ≡ low_bytes 8 (get_or words i 0) → take (8 * (i + 1)) (take (8 * i) bytes ++ (new ++ rest)) ≡ bytes_of_words (take (i + 1) words)
word_put bytes new rest words i size small eight before count is =
    let first : length (take (8 * i) bytes) ≡ 8 * i = length-take-le (8 * i) bytes (omega (arith, size, small)) in
    let both : length (take (8 * i) bytes ++ new) ≡ 8 * (i + 1) = length-append (take (8 * i) bytes) new ∙ omega (arith, first, eight) in
    let one : suc i ≡ i + 1 = omega arith in
    ap (take (8 * (i + 1))) (sym (append_assoc (take (8 * i) bytes) new rest))
    ∙ take_at (take (8 * i) bytes ++ new) rest (8 * (i + 1)) both
    ∙ ap (λ (l : List ℕ). l ++ new) before
    ∙ ap (λ (l : List ℕ). bytes_of_words (take i words) ++ l) is
    ∙ sym (bytes_of_words_next words i (omega (arith, small, count)))
    ∙ ap (λ (n : ℕ). bytes_of_words (take n words)) one

pub put_length : (bytes new : List ℕ) (i : ℕ) → length bytes ≡ 208 → i < 26 → length new ≡ 8
    → length (take (8 * i) bytes ++ (new ++ drop (8 * i + 8 - 8 * i) (drop (8 * i) bytes))) ≡ 208
put_length bytes new i size small eight =
    let first : length (take (8 * i) bytes) ≡ 8 * i = length-take-le (8 * i) bytes (omega (arith, size, small)) in
    let rest : length (drop (8 * i + 8 - 8 * i) (drop (8 * i) bytes)) ≡ length bytes - 8 * i - (8 * i + 8 - 8 * i) =
    length-drop (8 * i + 8 - 8 * i) (drop (8 * i) bytes) ∙ ap (λ (n : ℕ). n - (8 * i + 8 - 8 * i)) (length-drop (8 * i) bytes) in
    let back : length (new ++ drop (8 * i + 8 - 8 * i) (drop (8 * i) bytes)) ≡ length new + length (drop (8 * i + 8 - 8 * i) (drop (8 * i) bytes)) =
    length-append new (drop (8 * i + 8 - 8 * i) (drop (8 * i) bytes)) in
    length-append (take (8 * i) bytes) (new ++ drop (8 * i + 8 - 8 * i) (drop (8 * i) bytes)) ∙ omega (arith, first, rest, back, size, small, eight)

pub all_put : (bytes words : List ℕ) (i : ℕ) → 26 ≤ i → length bytes ≡ 208 → length words ≡ 26 → take (8 * i) bytes ≡ bytes_of_words (take i words) → bytes ≡ bytes_of_words words
all_put bytes words i all size count done =
    sym (take_all (8 * i) bytes (omega (arith, all, size))) ∙ done ∙ ap bytes_of_words (take_all i words (omega (arith, all, count)))

-- ---- the registers of a frame

pub framed_is : (mode : Mode) (ssp : ℕ) (words r : List ℕ) (rip : ℕ) (flags : Flags) (waiting : Bool) (mask : ℕ) → r ≡ take 16 (drop 1 words) → rip ≡ get_or words 17 0
    → flags ≡ flags_of_word (get_or words 18 0) → waiting ≡ (mode.ibt && not (get_or words 19 0 == 0)) → mask ≡ get_or words 21 0
    → ◌≡◌ {A = Regs} (record { r = r; rip = rip; flags = flags; waiting = waiting; ssp = ssp; mask = mask }) (framed_regs mode ssp words)
framed_is mode ssp words r rip flags waiting mask of_r of_rip of_flags of_waiting of_mask = rw of_r (rw of_rip (rw of_flags (rw of_waiting (rw of_mask refl))))
