-- The return to where a delivery began.
use Rattle.std.proofs.Common.{◌≡◌, ℕ, ◌/◌, ◌%◌, ◌^◌, ◌<◌, inl, inr, Bool, true, false, ◌&&◌, ◌==◌, List, ◌++◌, take, drop, get_or, Some, Ok, refl, sym, ap, ◌∙◌, arith, eq-eqb}
use Rattle.std.proofs.lemmas.Bool.{cases_Bool, and_from}
use Rattle.std.proofs.lemmas.List.{take-append-drop}
use Rattle.std.proofs.lemmas.Nat.{pow_pos}
use Rattle.std.proofs.Math.Nat.{mod-lt}
use Rattle.cet_isa.specs.declared.register.Reg.TheVariants.{Rsp}
use Rattle.cet_isa.specs.declared.registers.Mode.{Mode}
use Rattle.cet_isa.proofs.Places.{map_some}
use Rattle.cet_machine.specs.declared.action.Action.{Action}
use Rattle.cet_machine.specs.Memory.{is_any, bytes_at, shadow_load}
use Rattle.cet_machine.specs.Machine.{Machine, plus, minus}
use Rattle.cet_machine.specs.Operand.{value}
use Rattle.cet_machine.specs.Signal.{frame_mark, frame_address, frame, bytes_of_words, words_of_bytes, marked, is_marked, returned_ssp, framed_regs, sigreturn}
use Rattle.cet_signal.specs.Returned.{FitsFrame, frame_bytes, KeepsFrame, DeliveredIsReturned, ExactlyReturned}
use Rattle.cet_signal.proofs.FrameWords.{mark_is, regs_are}
use Rattle.cet_signal.proofs.Delivered.{Delivered, delivered}

-- ---- SSP

marked_is : (ssp : ℕ) → ssp % 8 ≡ 0 → is_marked (marked ssp) ≡ true
marked_is ssp aligned =
    let top : marked ssp / 2 ^ 63 % 2 ≡ 1 = omega arith in
    let low : marked ssp % 8 ≡ 0 = omega (arith, aligned) in
    and_from (marked ssp / 2 ^ 63 % 2 == 1) (marked ssp % 8 == 0) (eq-eqb (marked ssp / 2 ^ 63 % 2) 1 top) (eq-eqb (marked ssp % 8) 0 low)

unmarked : (ssp : ℕ) → ssp < 2 ^ 63 → marked ssp % 2 ^ 63 ≡ ssp
unmarked ssp below = omega (arith, below)

ssp_back : (mode : Mode) (action : Action) (signo : ℕ) (m n k : Machine) → FitsFrame mode m.regs → Delivered mode action signo m n
    → KeepsFrame mode n k → returned_ssp mode k ≡ Ok m.regs.ssp
ssp_back mode action signo m n k fits d kept = elim (cases_Bool mode.shstk) [
  | inl on ↦
      let word : shadow_load k.memory k.regs.ssp ≡ Some (marked m.regs.ssp) = ap (shadow_load k.memory) (kept.ssp on) ∙ kept.word on ∙ d.word on in
      let of_word : is_marked (marked m.regs.ssp) ≡ true = marked_is m.regs.ssp (fits.aligned on) in
      let taken : returned_ssp mode k ≡ Ok (marked m.regs.ssp % 2 ^ 63) = rw on (rw word (rw of_word refl)) in
      taken ∙ ap Ok (unmarked m.regs.ssp (fits.below_mark on))
  | inr off ↦
      let taken : returned_ssp mode k ≡ Ok k.regs.ssp = rw off refl in
      taken ∙ ap Ok (kept.unused off ∙ d.unused off)
]

-- ---- the frame

sigreturn_is : (mode : Mode) (k : Machine) (a : ℕ) (bytes : List ℕ) (ssp : ℕ) → minus (value k.regs Rsp) 8 ≡ a
    → bytes_at is_any k.memory a 208 ≡ Some bytes → get_or (words_of_bytes 26 bytes) 22 0 ≡ frame_mark → returned_ssp mode k ≡ Ok ssp
    → sigreturn mode k ≡ Ok (framed_regs mode ssp (words_of_bytes 26 bytes))
unfolding sigreturn
sigreturn_is mode k a bytes ssp place found mark of_ssp =
    let there : bytes_at is_any k.memory (minus (value k.regs Rsp) 8) 208 ≡ Some bytes =
    ap (λ (b : ℕ). bytes_at is_any k.memory b 208) place ∙ found in
    let yes : (get_or (words_of_bytes 26 bytes) 22 0 == frame_mark) ≡ true = eq-eqb (get_or (words_of_bytes 26 bytes) 22 0) frame_mark mark in
    rw there (rw yes (rw of_ssp refl))

-- where the frame's first word was popped
back_at : (a : ℕ) → a < 2 ^ 64 → minus (plus a 8) 8 ≡ a
back_at a below = omega (arith, below)

frame_kept : (mode : Mode) (action : Action) (signo : ℕ) (m n k : Machine) → Delivered mode action signo m n → KeepsFrame mode n k
    → frame_bytes k.memory (frame_address (value m.regs Rsp)) ≡ Some (bytes_of_words (frame action signo m.regs))
frame_kept mode action signo m n k d kept = ap (frame_bytes k.memory) (sym d.rsp) ∙ kept.frame ∙ ap (frame_bytes n.memory) d.rsp ∙ d.frame

returned_from : (mode : Mode) (action : Action) (signo : ℕ) (m n k : Machine) (bytes : List ℕ) → FitsFrame mode m.regs
    → Delivered mode action signo m n → KeepsFrame mode n k → bytes_at is_any k.memory (frame_address (value m.regs Rsp)) 208 ≡ Some bytes
    → take 208 bytes ≡ bytes_of_words (frame action signo m.regs) → sigreturn mode k ≡ Ok (record (m.regs) { waiting = mode.ibt && m.regs.waiting })
returned_from mode action signo m n k bytes fits d kept found front =
    let a : ℕ = frame_address (value m.regs Rsp) in
    let rest : List ℕ = drop 208 bytes in
    let whole : bytes ≡ bytes_of_words (frame action signo m.regs) ++ rest =
    sym (take-append-drop 208 bytes) ∙ ap (λ (l : List ℕ). l ++ rest) front in
    let below : a < 2 ^ 64 = mod-lt _ (pow_pos 64) in
    let place : minus (value k.regs Rsp) 8 ≡ a = ap (λ (v : ℕ). minus v 8) (kept.rsp ∙ ap (λ (v : ℕ). plus v 8) d.rsp) ∙ back_at a below in
    let mark : get_or (words_of_bytes 26 bytes) 22 0 ≡ frame_mark =
    ap (λ (l : List ℕ). get_or (words_of_bytes 26 l) 22 0) whole ∙ mark_is mode action signo m.regs rest fits in
    let regs : framed_regs mode m.regs.ssp (words_of_bytes 26 bytes) ≡ record (m.regs) { waiting = mode.ibt && m.regs.waiting } =
    ap (λ (l : List ℕ). framed_regs mode m.regs.ssp (words_of_bytes 26 l)) whole ∙ regs_are mode action signo m.regs rest m.regs.ssp fits in
    sigreturn_is mode k a bytes m.regs.ssp place found mark (ssp_back mode action signo m n k fits d kept) ∙ ap Ok regs

pub delivered_is_returned : DeliveredIsReturned
delivered_is_returned mode action signo m n k fits e kept =
    let a : ℕ = frame_address (value m.regs Rsp) in
    let old : List ℕ = bytes_of_words (frame action signo m.regs) in
    let d = delivered mode action signo m n fits.count e in
    let (bytes, found, front) = map_some (take 208) (bytes_at is_any k.memory a 208) old (frame_kept mode action signo m n k d kept) in
    returned_from mode action signo m n k bytes fits d kept found front

-- ---- with a tracker that waits with IBT alone

tracker_is : (ibt waiting : Bool) → (waiting ≡ true → ibt ≡ true) → (ibt && waiting) ≡ waiting
tracker_is true waiting h = refl
tracker_is false true h = h refl
tracker_is false false h = refl

pub exactly_returned : ExactlyReturned
exactly_returned mode action signo m n k fits e kept h =
    delivered_is_returned mode action signo m n k fits e kept
    ∙ ap (λ (waiting : Bool). Ok (record (m.regs) { waiting = waiting })) (tracker_is mode.ibt m.regs.waiting h)
