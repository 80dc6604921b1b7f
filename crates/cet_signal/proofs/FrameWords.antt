-- The words of a frame, as they are read from its bytes.
use Rattle.std.proofs.Common.{◌≡◌, ℕ, suc, ◌+◌, ◌-◌, ◌%◌, ◌^◌, ◌<◌, Bool, true, false, not, ◌&&◌, ◌==◌, List, [], ◌∷◌, ◌++◌, map, length, take, drop, get_or, All, refl, sym, ap, ◌∙◌, arith, append_assoc, length-append, take_at}
use Rattle.std.specs.Int.{from_bool}
use Rattle.std.proofs.Math.Nat.{mod-eq_of_lt}
use Rattle.std.proofs.Math.Seq.{drop-append-add}
use Rattle.std.proofs.lemmas.List.{map-append, get_or-append_right}
use Rattle.std.proofs.lemmas.List.Elements.{All-head, All-tail}
use Rattle.cet_base.specs.Field.{little_endian}
use Rattle.cet_isa.specs.declared.registers.Mode.{Mode}
use Rattle.cet_isa.specs.declared.registers.Regs.{Regs}
use Rattle.cet_machine.specs.declared.action.Action.{Action}
use Rattle.cet_machine.specs.Memory.{low_bytes}
use Rattle.cet_machine.specs.Arithmetic.{flags_word, flags_of_word}
use Rattle.cet_machine.specs.Signal.{frame_mark, frame, bytes_of_words, words_of_bytes, framed_regs}
use Rattle.cet_machine.proofs.MemoryBytes.{length-low_bytes, little_endian-low_bytes}
use Rattle.cet_signal.specs.Returned.{FitsFrame}
use Rattle.cet_signal.proofs.Frames.{framed_is}

-- the 64 bits of a number that a word has
abbrev pub word_of : ℕ → ℕ
word_of v = v % 2 ^ 64

-- what was written as words is read as words
words_back : (words rest : List ℕ) → words_of_bytes (length words) (bytes_of_words words ++ rest) ≡ map word_of words
words_back [] rest = refl
words_back (v ∷ words) rest =
    let first : List ℕ = low_bytes 8 v in
    let others : List ℕ = bytes_of_words words ++ rest in
    let n : ℕ = length words in
    let size : length (low_bytes 8 v) ≡ 8 = length-low_bytes 8 v in
    let eight : 8 ≡ length (low_bytes 8 v) + 0 = omega (arith, size) in
    let past : drop 8 (first ++ others) ≡ others = ap (λ (k : ℕ). drop k (first ++ others)) eight ∙ drop-append-add first others 0 in
    ap (words_of_bytes (suc n)) (append_assoc first (bytes_of_words words) rest)
    ∙ ap (λ (l : List ℕ). little_endian l ∷ words_of_bytes n (drop 8 (first ++ others))) (take_at first others 8 size)
    ∙ ap (λ (l : List ℕ). little_endian first ∷ words_of_bytes n l) past
    ∙ ap (λ (w : ℕ). w ∷ words_of_bytes n others) (little_endian-low_bytes 8 v)
    ∙ ap (λ (l : List ℕ). word_of v ∷ l) (words_back words rest)

words_stay : (words : List ℕ) → All (λ v. v < 2 ^ 64) words → map word_of words ≡ words
words_stay [] all = refl
words_stay (v ∷ words) all =
    ap (λ (w : ℕ). w ∷ map word_of words) (mod-eq_of_lt (All-head (λ w. w < 2 ^ 64) v words all))
    ∙ ap (λ (l : List ℕ). v ∷ l) (words_stay words (All-tail (λ w. w < 2 ^ 64) v words all))

flags_stay : (cf zf sf o : Bool)
    → flags_of_word (word_of (flags_word (record { cf = cf; zf = zf; sf = sf; of = o }))) ≡ record { cf = cf; zf = zf; sf = sf; of = o }
flags_stay false false false false = refl
flags_stay false false false true = refl
flags_stay false false true false = refl
flags_stay false false true true = refl
flags_stay false true false false = refl
flags_stay false true false true = refl
flags_stay false true true false = refl
flags_stay false true true true = refl
flags_stay true false false false = refl
flags_stay true false false true = refl
flags_stay true false true false = refl
flags_stay true false true true = refl
flags_stay true true false false = refl
flags_stay true true false true = refl
flags_stay true true true false = refl
flags_stay true true true true = refl

tracker_stays : (waiting : Bool) → waiting ≡ not (word_of (from_bool waiting) == 0)
tracker_stays false = refl
tracker_stays true = refl

-- the words of a frame behind its registers
behind : ℕ → Regs → List ℕ
behind signo R =
    word_of R.rip ∷ word_of (flags_word R.flags) ∷ word_of (from_bool R.waiting) ∷ word_of signo ∷ word_of R.mask ∷ frame_mark ∷ 0 ∷ 0 ∷ 0 ∷ []

words_are : (mode : Mode) (action : Action) (signo : ℕ) (R : Regs) (rest : List ℕ) → FitsFrame mode R
    → words_of_bytes 26 (bytes_of_words (frame action signo R) ++ rest) ≡ word_of action.restorer ∷ R.r ++ behind signo R
unfolding behind
words_are mode action signo R rest fits =
    let words : List ℕ = frame action signo R in
    let more : List ℕ = R.rip ∷ flags_word R.flags ∷ from_bool R.waiting ∷ signo ∷ R.mask ∷ frame_mark ∷ 0 ∷ 0 ∷ 0 ∷ [] in
    let count : length words ≡ 26 = ap suc (length-append R.r more ∙ ap (λ (n : ℕ). n + 9) fits.count) in
    ap (λ (n : ℕ). words_of_bytes n (bytes_of_words words ++ rest)) (sym count)
    ∙ words_back words rest
    ∙ ap (λ (l : List ℕ). word_of action.restorer ∷ l) (map-append word_of R.r more)
    ∙ ap (λ (l : List ℕ). word_of action.restorer ∷ l ++ map word_of more) (words_stay R.r fits.registers)

-- the word that stands so many places behind the registers
word_behind : (mode : Mode) (action : Action) (signo : ℕ) (R : Regs) (rest : List ℕ) (i : ℕ) → FitsFrame mode R
    → get_or (words_of_bytes 26 (bytes_of_words (frame action signo R) ++ rest)) (suc (16 + i)) 0 ≡ get_or (behind signo R) i 0
word_behind mode action signo R rest i fits =
    let past : 16 + i - 16 ≡ i = omega arith in
    ap (λ (l : List ℕ). get_or l (suc (16 + i)) 0) (words_are mode action signo R rest fits)
    ∙ get_or-append_right R.r (behind signo R) 16 (16 + i) 0 fits.count (omega arith)
    ∙ ap (λ (n : ℕ). get_or (behind signo R) n 0) past

pub mark_is : (mode : Mode) (action : Action) (signo : ℕ) (R : Regs) (rest : List ℕ) → FitsFrame mode R
    → get_or (words_of_bytes 26 (bytes_of_words (frame action signo R) ++ rest)) 22 0 ≡ frame_mark
unfolding behind
mark_is mode action signo R rest fits = word_behind mode action signo R rest 5 fits

-- the registers that a frame holds are those that it was made of
pub regs_are : (mode : Mode) (action : Action) (signo : ℕ) (R : Regs) (rest : List ℕ) (ssp : ℕ) → FitsFrame mode R
    → framed_regs mode ssp (words_of_bytes 26 (bytes_of_words (frame action signo R) ++ rest))
    ≡ record R { waiting = mode.ibt && R.waiting; ssp = ssp }
unfolding behind
regs_are mode action signo R rest ssp fits =
    let words : List ℕ = words_of_bytes 26 (bytes_of_words (frame action signo R) ++ rest) in
    let word_at : (i : ℕ) → get_or words (suc (16 + i)) 0 ≡ get_or (behind signo R) i 0 = λ i. word_behind mode action signo R rest i fits in
    let r : R.r ≡ take 16 (drop 1 words) =
    sym (ap (λ (l : List ℕ). take 16 (drop 1 l)) (words_are mode action signo R rest fits) ∙ take_at R.r (behind signo R) 16 fits.count) in
    let rip : R.rip ≡ get_or words 17 0 = sym (word_at 0 ∙ mod-eq_of_lt fits.rip) in
    let flags : R.flags ≡ flags_of_word (get_or words 18 0) =
    sym (ap flags_of_word (word_at 1) ∙ flags_stay R.flags.cf R.flags.zf R.flags.sf R.flags.of) in
    let waiting : (mode.ibt && R.waiting) ≡ (mode.ibt && not (get_or words 19 0 == 0)) =
    ap (λ (b : Bool). mode.ibt && b) (tracker_stays R.waiting ∙ ap (λ (w : ℕ). not (w == 0)) (sym (word_at 2))) in
    let mask : R.mask ≡ get_or words 21 0 = sym (word_at 4 ∙ mod-eq_of_lt fits.mask) in
    sym (framed_is mode ssp words R.r R.rip R.flags (mode.ibt && R.waiting) R.mask r rip flags waiting mask)
