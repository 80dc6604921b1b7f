-- What a delivery leaves in memory, and in the registers that rt_sigreturn reads.
use Rattle.std.proofs.Common.{◌≡◌, ℕ, ◌+◌, ◌-◌, ◌%◌, ◌^◌, ◌<◌, ◌≤◌, inl, inr, true, false, List, length, take, nat_lt, Option, Some, None, Result, Ok, Err, ok_or, refl, sym, ap, subst, ◌∙◌, arith}
use Rattle.std.specs.List.{find}
use Rattle.std.specs.Option.{option_map}
use Rattle.std.proofs.lemmas.Bool.{cases_Bool, true≢false, ltb-true, ltb-false}
use Rattle.std.proofs.lemmas.List.{take_all}
use Rattle.std.proofs.lemmas.Nat.{pow_pos}
use Rattle.std.proofs.Math.Nat.{mod-lt}
use Rattle.cet_isa.specs.declared.fault.Fault.TheVariants.{Page}
use Rattle.cet_isa.specs.declared.register.Reg.TheVariants.{Rax, Rdx, Rsp, Rsi, Rdi}
use Rattle.cet_isa.specs.declared.registers.Regs.{Regs}
use Rattle.cet_isa.specs.declared.registers.Mode.{Mode}
use Rattle.cet_machine.specs.declared.action.Action.{Action}
use Rattle.cet_machine.specs.declared.memory.Region.{Region}
use Rattle.cet_machine.specs.Memory.{holds, is_any, is_write, is_shadow, bytes_from, stored, shadow_load, shadow_store, low_bytes, written, with_bytes}
use Rattle.cet_machine.specs.MemoryLaws.{IsApart}
use Rattle.cet_machine.specs.Machine.{Machine, ◌>>=◌, plus, minus}
use Rattle.cet_machine.specs.Operand.{value, with_value}
use Rattle.cet_machine.specs.Shadow.{push}
use Rattle.cet_machine.specs.ShadowEffect.{shadow_pushed, with_shadow}
use Rattle.cet_machine.specs.Signal.{frame_address, frame, bytes_of_words, marked, shadow_frame, at_handler, deliver}
use Rattle.cet_machine.proofs.MemoryBytes.{overwritten-within}
use Rattle.cet_machine.proofs.MemoryRegions.{holds_parts, found_after, found_holds, stored_parts}
use Rattle.cet_machine.proofs.MemoryReads.{found_written, bytes_is, shadow_load_after_shadow_store, shadow_load_elsewhere_after_shadow_store}
use Rattle.cet_machine.proofs.Registers.{written_is_read, others_stay}
use Rattle.cet_machine.proofs.Keeps.{other_than_write}
use Rattle.cet_signal.specs.Returned.{frame_bytes}
use Rattle.cet_signal.proofs.Frames.{frame_length}

-- ---- parts of an effect

bind_ok : {A B E : Type 0} (e : Result A E) (f : A → Result B E) (y : B) → (e >>= f) ≡ Ok y → (x : A) × (e ≡ Ok x) × (f x ≡ Ok y)
bind_ok (Ok x) f y is = (x, refl, is)
bind_ok (Err z) f y is = absurd (cc)

ok_or_ok : {A E : Type 0} (o : Option A) (e : E) (x : A) → ok_or o e ≡ Ok x → o ≡ Some x
ok_or_ok None e x is = absurd (cc)
ok_or_ok (Some y) e x is = let same : y ≡ x = cc in ap Some same

-- ---- the frame

-- these bytes of a frame stand at a, in a region that is no shadow stack
record Stands (M : List Region) (a : ℕ) (bytes : List ℕ) : Type 0 where
  region : Region
  holder : find (holds a 208) M ≡ Some region
  no_shadow : is_shadow region.kind ≡ false
  front : take 208 (bytes_from region a) ≡ bytes

stands_stored : (M N : List Region) (a : ℕ) (bytes : List ℕ) → length bytes ≡ 208 → stored is_write M a bytes ≡ Some N → Stands N a bytes
stands_stored M N a bytes size e =
    let s = stored_parts is_write M N a bytes e in
    let w = holds_parts a (length bytes) s.region (found_holds M a (length bytes) s.region s.holder) in
    let found : find (holds a (length bytes)) N ≡ Some (written a bytes s.region) =
    ap (find (holds a (length bytes))) s.now ∙ found_written M a bytes s.region s.holder in
    let whole : take (length bytes) (bytes_from (written a bytes s.region) a) ≡ bytes =
    overwritten-within s.region.bytes (a - s.region.start) bytes (a - s.region.start) 0 (length bytes)
    (omega (arith, w.0, w.1)) (omega arith) (omega arith)
    ∙ take_all (length bytes) bytes (omega arith) in
    record {
      region = written a bytes s.region;
      holder = ap (λ (n : ℕ). find (holds a n) N) (sym size) ∙ found;
      no_shadow = other_than_write is_shadow refl s.region.kind s.may;
      front = ap (λ (n : ℕ). take n (bytes_from (written a bytes s.region) a)) (sym size) ∙ whole;
    }

stands_pushed : (M N : List Region) (a : ℕ) (bytes : List ℕ) (b : ℕ) (new : List ℕ) → stored is_shadow M b new ≡ Some N
    → Stands M a bytes → Stands N a bytes
stands_pushed M N a bytes b new e f =
    let s = stored_parts is_shadow M N b new e in
    let found : find (holds a 208) (with_bytes M b new) ≡ Some f.region = elim (found_after M b new a 208) [
      | inl same ↦ same ∙ f.holder
      | inr c ↦
          let one : Some s.region ≡ Some c.region = sym s.holder ∙ c.holder in
          let other : Some f.region ≡ Some c.region = sym f.holder ∙ c.before in
          let is : s.region ≡ f.region = cc in
          let clash : true ≡ false = sym s.may ∙ ap (λ (r : Region). is_shadow r.kind) is ∙ f.no_shadow in
          absurd (true≢false clash)
    ] in
    record { region = f.region; holder = ap (find (holds a 208)) s.now ∙ found; no_shadow = f.no_shadow; front = f.front }

stands_read : (M : List Region) (a : ℕ) (bytes : List ℕ) → Stands M a bytes → frame_bytes M a ≡ Some bytes
stands_read M a bytes f = ap (option_map (take 208)) (bytes_is is_any M a 208 (Some f.region) f.holder) ∙ ap Some f.front

-- ---- the words of the shadow stack

record Pushed (word : ℕ) (m n : Machine) : Type 0 where
  memory : List Region
  stores : shadow_store m.memory (minus m.regs.ssp 8) word ≡ Some memory
  is : n ≡ with_shadow memory (minus m.regs.ssp 8) m

pushed : (word : ℕ) (m n : Machine) → shadow_pushed word m ≡ Ok n → Pushed word m n
unfolding push
pushed word m n e = from (shadow_store m.memory (minus m.regs.ssp 8) word) refl
  where
    from : (o : Option (List Region)) → shadow_store m.memory (minus m.regs.ssp 8) word ≡ o → Pushed word m n
    from None stores =
        let refused : shadow_pushed word m ≡ Err (Page (minus m.regs.ssp 8)) = rw stores refl in
        absurd (cc)
    from (Some K) stores =
        let taken : shadow_pushed word m ≡ Ok (with_shadow K (minus m.regs.ssp 8) m) = rw stores refl in
        record { memory = K; stores = stores; is = cc }

marked_fits : (ssp : ℕ) → marked ssp % 256 ^ 8 ≡ marked ssp
marked_fits ssp = omega arith

-- a word, and the one below it
words_apart : (a : ℕ) → a < 2 ^ 64 → IsApart (minus a 8) 8 a 8
words_apart a below = elim (cases_Bool (nat_lt a 8)) [
  | inl low ↦ let small : a < 8 = ltb-true a 8 low in inr (omega (arith, small))
  | inr high ↦ let large : 8 ≤ a = ltb-false a 8 high in inl (omega (arith, large, below))
]

above : (a : ℕ) → a < 2 ^ 64 → plus (minus a 8) 8 ≡ a
above a below = omega (arith, below)

-- what the shadow stack's part leaves
record Framed (mode : Mode) (m n : Machine) : Type 0 where
  r : n.regs.r ≡ m.regs.r
  stands : (a : ℕ) (bytes : List ℕ) → Stands m.memory a bytes → Stands n.memory a bytes
  word : mode.shstk ≡ true → shadow_load n.memory (plus n.regs.ssp 8) ≡ Some (marked m.regs.ssp)
  unused : mode.shstk ≡ false → n.regs.ssp ≡ m.regs.ssp

framed_on : (mode : Mode) (action : Action) (m x n : Machine) → mode.shstk ≡ true
    → Pushed (marked m.regs.ssp) m x → Pushed action.restorer x n → Framed mode m n
framed_on mode action m x n on p q =
    let x_memory : x.memory ≡ p.memory = ap (λ (y : Machine). y.memory) p.is in
    let n_memory : n.memory ≡ q.memory = ap (λ (y : Machine). y.memory) q.is in
    let x_ssp : x.regs.ssp ≡ minus m.regs.ssp 8 = ap (λ (y : Machine). y.regs.ssp) p.is in
    let n_ssp : n.regs.ssp ≡ minus x.regs.ssp 8 = ap (λ (y : Machine). y.regs.ssp) q.is in
    let below : x.regs.ssp < 2 ^ 64 = subst (λ (a : ℕ). a < 2 ^ 64) (sym x_ssp) (mod-lt (m.regs.ssp + (2 ^ 64 - 8)) (pow_pos 64)) in
    let top : plus n.regs.ssp 8 ≡ x.regs.ssp = ap (λ (a : ℕ). plus a 8) n_ssp ∙ above x.regs.ssp below in
    let of_second : shadow_load n.memory (plus n.regs.ssp 8) ≡ shadow_load q.memory x.regs.ssp =
    ap (λ (M : List Region). shadow_load M (plus n.regs.ssp 8)) n_memory ∙ ap (shadow_load q.memory) top in
    let elsewhere : shadow_load q.memory x.regs.ssp ≡ shadow_load x.memory x.regs.ssp =
    shadow_load_elsewhere_after_shadow_store x.memory q.memory (minus x.regs.ssp 8) action.restorer x.regs.ssp q.stores
    (words_apart x.regs.ssp below) in
    let of_first : shadow_load x.memory x.regs.ssp ≡ shadow_load p.memory (minus m.regs.ssp 8) =
    ap (λ (M : List Region). shadow_load M x.regs.ssp) x_memory ∙ ap (shadow_load p.memory) x_ssp in
    let first : shadow_load p.memory (minus m.regs.ssp 8) ≡ Some (marked m.regs.ssp) =
    shadow_load_after_shadow_store m.memory p.memory (minus m.regs.ssp 8) (marked m.regs.ssp) p.stores ∙ ap Some (marked_fits m.regs.ssp) in
    record {
      r = ap (λ (y : Machine). y.regs.r) q.is ∙ ap (λ (y : Machine). y.regs.r) p.is;
      stands = λ a bytes f.
          subst (λ (M : List Region). Stands M a bytes) (sym n_memory)
          (stands_pushed x.memory q.memory a bytes (minus x.regs.ssp 8) (low_bytes 8 action.restorer) q.stores
          (subst (λ (M : List Region). Stands M a bytes) (sym x_memory)
          (stands_pushed m.memory p.memory a bytes (minus m.regs.ssp 8) (low_bytes 8 (marked m.regs.ssp)) p.stores f)));
      word = λ h. of_second ∙ elsewhere ∙ of_first ∙ first;
      unused = λ off. absurd (true≢false (sym on ∙ off));
    }

framed_off : (mode : Mode) (action : Action) (m n : Machine) → mode.shstk ≡ false → shadow_frame mode action m ≡ Ok n → Framed mode m n
framed_off mode action m n off e =
    let same : shadow_frame mode action m ≡ Ok m = rw off refl in
    let is : n ≡ m = cc in
    record {
      r = ap (λ (y : Machine). y.regs.r) is;
      stands = λ a bytes f. subst (λ (y : Machine). Stands y.memory a bytes) (sym is) f;
      word = λ on. absurd (true≢false (sym on ∙ off));
      unused = λ h. ap (λ (y : Machine). y.regs.ssp) is;
    }

framed : (mode : Mode) (action : Action) (m n : Machine) → shadow_frame mode action m ≡ Ok n → Framed mode m n
framed mode action m n e = elim (cases_Bool mode.shstk) [
  | inl on ↦
      let both : shadow_frame mode action m ≡ (shadow_pushed (marked m.regs.ssp) m >>= λ x. shadow_pushed action.restorer x) = rw on refl in
      let (x, first, second) = bind_ok (shadow_pushed (marked m.regs.ssp) m) (λ x. shadow_pushed action.restorer x) n (sym both ∙ e) in
      framed_on mode action m x n on (pushed (marked m.regs.ssp) m x first) (pushed action.restorer x n second)
  | inr off ↦ framed_off mode action m n off e
]

-- ---- delivery

rsp_at : (mode : Mode) (action : Action) (signo a : ℕ) (R : Regs) → length R.r ≡ 16 → value (at_handler mode action signo a R) Rsp ≡ a
rsp_at mode action signo a R size =
    let with_rsp : Regs = with_value R Rsp a in
    let with_rax : Regs = with_value with_rsp Rax 0 in
    let with_rdx : Regs = with_value with_rax Rdx 0 in
    let with_rsi : Regs = with_value with_rdx Rsi 0 in
    others_stay with_rsi Rdi Rsp signo (λ e. cc) ∙ others_stay with_rdx Rsi Rsp 0 (λ e. cc) ∙ others_stay with_rax Rdx Rsp 0 (λ e. cc)
    ∙ others_stay with_rsp Rax Rsp 0 (λ e. cc) ∙ written_is_read R Rsp a size

pub record Delivered (mode : Mode) (action : Action) (signo : ℕ) (m n : Machine) : Type 0 where
  pub rsp : value n.regs Rsp ≡ frame_address (value m.regs Rsp)
  pub frame : frame_bytes n.memory (frame_address (value m.regs Rsp)) ≡ Some (bytes_of_words (frame action signo m.regs))
  pub word : mode.shstk ≡ true → shadow_load n.memory (plus n.regs.ssp 8) ≡ Some (marked m.regs.ssp)
  pub unused : mode.shstk ≡ false → n.regs.ssp ≡ m.regs.ssp

-- of the machines between: with the frame in memory, and with the words of the shadow stack too
delivered_from : (mode : Mode) (action : Action) (signo : ℕ) (m x : Machine) (N : List Region) → length m.regs.r ≡ 16
    → stored is_write m.memory (frame_address (value m.regs Rsp)) (bytes_of_words (frame action signo m.regs)) ≡ Some N
    → Framed mode (record m { memory = N }) x
    → Delivered mode action signo m (record x { regs = at_handler mode action signo (frame_address (value m.regs Rsp)) x.regs })
delivered_from mode action signo m x N size stores f =
    let a : ℕ = frame_address (value m.regs Rsp) in
    let bytes : List ℕ = bytes_of_words (frame action signo m.regs) in
    record {
      rsp = rsp_at mode action signo a x.regs (ap length f.r ∙ size);
      frame = stands_read x.memory a bytes (f.stands a bytes (stands_stored m.memory N a bytes (frame_length action signo m.regs size) stores));
      word = f.word;
      unused = f.unused;
    }

pub delivered : (mode : Mode) (action : Action) (signo : ℕ) (m n : Machine) → length m.regs.r ≡ 16 → deliver mode action signo m ≡ Ok n
    → Delivered mode action signo m n
unfolding deliver
delivered mode action signo m n size e =
    let a : ℕ = frame_address (value m.regs Rsp) in
    let bytes : List ℕ = bytes_of_words (frame action signo m.regs) in
    let (N, first, rest) = bind_ok (ok_or (stored is_write m.memory a bytes) (Page a))
    (λ N. shadow_frame mode action (record m { memory = N }) >>= λ x. Ok (record x { regs = at_handler mode action signo a x.regs })) n e in
    let (x, second, last) = bind_ok (shadow_frame mode action (record m { memory = N }))
    (λ x. Ok (record x { regs = at_handler mode action signo a x.regs })) n rest in
    let is : record x { regs = at_handler mode action signo a x.regs } ≡ n = cc in
    let stores : stored is_write m.memory a bytes ≡ Some N = ok_or_ok (stored is_write m.memory a bytes) (Page a) N first in
    subst (λ (y : Machine). Delivered mode action signo m y) is
    (delivered_from mode action signo m x N size stores (framed mode action (record m { memory = N }) x second))
