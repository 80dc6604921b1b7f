-- What holds of a reader and the relation that says which bytes spell a value, and how the two go through joins.
use Rattle.std.proofs.Common.{◌≡◌, ◌≢◌, ℕ, zero, suc, ◌-◌, ◌<◌, ◌≤◌, ℤ, replicate, Bool, true, false, cond, ltb, List, [], ◌∷◌, ◌++◌, length, take, drop, Result, Ok, Err, refl, sym, ap, ◌∙◌, append_assoc, arith, inl, inr, ◌⊎◌}
use Rattle.std.specs.Int.{Width, byte_len, from_le_bytes, cast_signed}
use Rattle.std.proofs.lemmas.Bool.{ltb-false, ltb-true, le-ltb}
use Rattle.std.proofs.lemmas.List.{take_at, drop_at, take-append-drop, length-append, length-take, length-replicate}
use Rattle.std.proofs.lemmas.List.Elements.{All-append}
use Rattle.cet_isa.specs.declared.decode_error.DecodeError.{DecodeError}
use Rattle.cet_isa.specs.declared.decode_error.DecodeError.TheVariants.{Short, Outside}
use Rattle.cet_isa.specs.Reader.{Read, ◌>>=◌, byte_at, unsigned_at, signed_at}
use Rattle.cet_isa.specs.Operand.{Unsigned, Signed}
use Rattle.cet_isa.specs.Form.{IsBytes}

-- What is spelled is read back, whatever follows; what is read is spelled so; Outside stays.
pub record Reads {A : Type 0} (R : List ℕ → Read A) (P : A → List ℕ → Type 0) : Type 0 where
  pub again : (x : A) (a more : List ℕ) → P x a → R (a ++ more) ≡ Ok (x, more)
  pub spelled : (b : List ℕ) (x : A) (rest : List ℕ) → R b ≡ Ok (x, rest) → (a : List ℕ) × P x a × (b ≡ a ++ rest)
  pub stays : (b more : List ℕ) → R b ≡ Err Outside → R (b ++ more) ≡ Err Outside

-- what completes b
pub record Completes {A : Type 0} (P : A → List ℕ → Type 0) (b : List ℕ) : Type 0 where
  pub value : A
  pub more : List ℕ
  pub some : more ≢ []
  pub is_bytes : IsBytes more
  pub spells : P value (b ++ more)

-- Short bytes can be completed.
abbrev pub Extends : {A : Type 0} (R : List ℕ → Read A) (P : A → List ℕ → Type 0) → Type 0
Extends R P = (b : List ℕ) → R b ≡ Err Short → Completes P b

pub record Inhabited {A : Type 0} (P : A → List ℕ → Type 0) : Type 0 where
  pub value : A
  pub bytes : List ℕ
  pub is_bytes : IsBytes bytes
  pub spells : P value bytes

pub bind_cases : {A B : Type 0} (r : Result A DecodeError) (f : A → Result B DecodeError) (y : Result B DecodeError) → (r >>= f) ≡ y
    → ((x : A) × (r ≡ Ok x) × (f x ≡ y)) ⊎ ((e : DecodeError) × (r ≡ Err e) × (y ≡ Err e))
bind_cases (Ok x) f y h = inl (x, refl, h)
bind_cases (Err e) f y h = inr (e, refl, sym h)

pub bind_ok : {A B : Type 0} (r : Result A DecodeError) (f : A → Result B DecodeError) (y : B) → (r >>= f) ≡ Ok y → (x : A) × (r ≡ Ok x) × (f x ≡ Ok y)
bind_ok (Ok x) f y h = (x, refl, h)
bind_ok (Err e) f y h = absurd cc

pub bind_err : {A B : Type 0} (r : Result A DecodeError) (f : A → Result B DecodeError) (e : DecodeError) → (r >>= f) ≡ Err e
    → ((x : A) × (r ≡ Ok x) × (f x ≡ Err e)) ⊎ (r ≡ Err e)
bind_err (Ok x) f e h = inl (x, refl, h)
bind_err (Err d) f e h = let k : d ≡ e = cc in inr (ap Err k)

abbrev done : {A : Type 0} → A → Result A DecodeError
done x = Ok x

pub ok_is : {A : Type 0} (x y : A) → done x ≡ done y → x ≡ y
ok_is x y e = cc

pub nil_bytes : IsBytes []
nil_bytes k d lt = omega arith

pub cons_bytes : (x : ℕ) (b : List ℕ) → x < 256 → IsBytes b → IsBytes (x ∷ b)
cons_bytes x b lt h zero d p = lt
cons_bytes x b lt h (suc k) d p = h k d (omega arith)

pub zeros_bytes : (n : ℕ) → IsBytes (replicate n 0)
zeros_bytes zero = nil_bytes
zeros_bytes (suc n) = cons_bytes 0 (replicate n 0) (omega arith) (zeros_bytes n)

append_some : (a b : List ℕ) → a ≢ [] → a ++ b ≢ []
append_some [] b h e = h refl
append_some (x ∷ a) b h e = absurd cc

-- ---- one part, then what it leads to

abbrev pub Joined : {A B : Type 0} → (A → List ℕ → Type 0) → (A → B → List ℕ → Type 0) → B → List ℕ → Type 0
Joined {A} P Q y a = (x : A) × (front : List ℕ) × (back : List ℕ) × P x front × Q x y back × (a ≡ front ++ back)

abbrev pub joined : {A B : Type 0} → (List ℕ → Read A) → (A → List ℕ → Read B) → List ℕ → Read B
joined R F b = R b >>= λ x. F x.0 x.1

module _ {A B : Type 0} (R : List ℕ → Read A) (P : A → List ℕ → Type 0) (F : A → List ℕ → Read B) (Q : A → B → List ℕ → Type 0) (r : Reads R P) (f : (x : A) → Reads (F x) (Q x)) where
  joined_again : (y : B) (a more : List ℕ) → Joined P Q y a → joined R F (a ++ more) ≡ Ok (y, more)
  joined_again y a more (x, front, back, p, q, e) =
      let parts : a ++ more ≡ front ++ (back ++ more) = rw e (append_assoc front back more) in
      rw (parts, r.again x front (back ++ more) p) ((f x).again y back more q)

  joined_spelled : (b : List ℕ) (y : B) (rest : List ℕ) → joined R F b ≡ Ok (y, rest) → (a : List ℕ) × Joined P Q y a × (b ≡ a ++ rest)
  joined_spelled b y rest h =
      let one = bind_ok (R b) (λ x. F x.0 x.1) (y, rest) h in
      let s = r.spelled b one.0.0 one.0.1 one.1 in
      let t = (f one.0.0).spelled one.0.1 y rest one.2 in
      (s.0 ++ t.0, (one.0.0, s.0, t.0, s.1, t.1, refl), s.2 ∙ ap (λ (l : List ℕ). s.0 ++ l) t.2 ∙ sym (append_assoc s.0 t.0 rest))

  joined_stays : (b more : List ℕ) → joined R F b ≡ Err Outside → joined R F (b ++ more) ≡ Err Outside
  joined_stays b more h =
      elim (bind_err (R b) (λ x. F x.0 x.1) Outside h) [
        | inl one ↦
            let s = r.spelled b one.0.0 one.0.1 one.1 in
            let parts : b ++ more ≡ s.0 ++ (one.0.1 ++ more) = ap (λ (l : List ℕ). l ++ more) s.2 ∙ append_assoc s.0 one.0.1 more in
            rw (parts, r.again one.0.0 s.0 (one.0.1 ++ more) s.1) ((f one.0.0).stays one.0.1 more one.2)
        | inr out ↦ rw (r.stays b more out) refl
      ]

  pub reads_joined : Reads (joined R F) (Joined P Q)
  reads_joined = record { again = joined_again; spelled = joined_spelled; stays = joined_stays }

  pub extends_joined : Extends R P → ((x : A) → Extends (F x) (Q x)) → ((x : A) → Inhabited (Q x)) → Extends (joined R F) (Joined P Q)
  extends_joined er ef full b h =
      elim (bind_err (R b) (λ x. F x.0 x.1) Short h) [
        | inl one ↦
            let s = r.spelled b one.0.0 one.0.1 one.1 in
            let c = ef one.0.0 one.0.1 one.2 in
            record { value = c.value; more = c.more; some = c.some; is_bytes = c.is_bytes; spells = (one.0.0, s.0, one.0.1 ++ c.more, s.1, c.spells, ap (λ (l : List ℕ). l ++ c.more) s.2 ∙ append_assoc s.0 one.0.1 c.more) }
        | inr short ↦
            let c = er b short in
            let i = full c.value in
            record {
              value = i.value;
              more = c.more ++ i.bytes;
              some = append_some c.more i.bytes c.some;
              is_bytes = All-append (λ x. x < 256) c.more i.bytes c.is_bytes i.is_bytes;
              spells = (c.value, b ++ c.more, i.bytes, c.spells, i.spells, sym (append_assoc b c.more i.bytes));
            }
      ]

pub inhabited_joined : {A B : Type 0} (P : A → List ℕ → Type 0) (Q : A → B → List ℕ → Type 0) → Inhabited P → ((x : A) → Inhabited (Q x)) → Inhabited (Joined P Q)
inhabited_joined P Q i full =
    let j = full i.value in
    record { value = j.value; bytes = i.bytes ++ j.bytes; is_bytes = All-append (λ x. x < 256) i.bytes j.bytes i.is_bytes j.is_bytes; spells = (i.value, i.bytes, j.bytes, i.spells, j.spells, refl) }

-- ---- a value seen otherwise

abbrev pub Mapped : {A B : Type 0} → (A → List ℕ → Type 0) → (A → B) → B → List ℕ → Type 0
Mapped {A} P g y a = (x : A) × P x a × (y ≡ g x)

abbrev pub mapped : {A B : Type 0} → (List ℕ → Read A) → (A → B) → List ℕ → Read B
mapped R g b = R b >>= λ x. Ok (g x.0, x.1)

module _ {A B : Type 0} (R : List ℕ → Read A) (P : A → List ℕ → Type 0) (g : A → B) (r : Reads R P) where
  mapped_again : (y : B) (a more : List ℕ) → Mapped P g y a → mapped R g (a ++ more) ≡ Ok (y, more)
  mapped_again y a more (x, p, e) = rw (r.again x a more p, e) refl

  mapped_spelled : (b : List ℕ) (y : B) (rest : List ℕ) → mapped R g b ≡ Ok (y, rest) → (a : List ℕ) × Mapped P g y a × (b ≡ a ++ rest)
  mapped_spelled b y rest h =
      let one = bind_ok (R b) (λ x. Ok (g x.0, x.1)) (y, rest) h in
      let s = r.spelled b one.0.0 one.0.1 one.1 in
      let e = ok_is (g one.0.0, one.0.1) (y, rest) one.2 in
      (s.0, (one.0.0, s.1, sym (ap (λ (p : B × List ℕ). p.0) e)), s.2 ∙ ap (λ (p : B × List ℕ). s.0 ++ p.1) e)

  mapped_stays : (b more : List ℕ) → mapped R g b ≡ Err Outside → mapped R g (b ++ more) ≡ Err Outside
  mapped_stays b more h =
      elim (bind_err (R b) (λ x. Ok (g x.0, x.1)) Outside h) [
        | inl one ↦ absurd (let k = one.2 in cc)
        | inr out ↦ rw (r.stays b more out) refl
      ]

  pub reads_mapped : Reads (mapped R g) (Mapped P g)
  reads_mapped = record { again = mapped_again; spelled = mapped_spelled; stays = mapped_stays }

  pub extends_mapped : Extends R P → Extends (mapped R g) (Mapped P g)
  extends_mapped er b h =
      elim (bind_err (R b) (λ x. Ok (g x.0, x.1)) Short h) [
        | inl one ↦ absurd (let k = one.2 in cc)
        | inr short ↦ let c = er b short in record { value = g c.value; more = c.more; some = c.some; is_bytes = c.is_bytes; spells = (c.value, c.spells, refl) }
      ]

  pub inhabited_mapped : Inhabited P → Inhabited (Mapped P g)
  inhabited_mapped i = record { value = g i.value; bytes = i.bytes; is_bytes = i.is_bytes; spells = (i.value, i.spells, refl) }

-- ---- one byte, then what it leads to

abbrev pub Behind : {B : Type 0} → (ℕ → B → List ℕ → Type 0) → B → List ℕ → Type 0
Behind Q y a = (x : ℕ) × (rest : List ℕ) × Q x y rest × (a ≡ x ∷ rest)

abbrev pub behind : {B : Type 0} → (ℕ → List ℕ → Read B) → List ℕ → Read B
behind F b = byte_at b >>= λ x. F x.0 x.1

module _ {B : Type 0} (F : ℕ → List ℕ → Read B) (Q : ℕ → B → List ℕ → Type 0) where
  behind_again : ((x : ℕ) → Reads (F x) (Q x)) → (y : B) (a more : List ℕ) → Behind Q y a → behind F (a ++ more) ≡ Ok (y, more)
  behind_again f y a more (x, rest, q, e) = rw e ((f x).again y rest more q)

  behind_spelled : ((x : ℕ) → Reads (F x) (Q x)) → (b : List ℕ) (y : B) (rest : List ℕ) → behind F b ≡ Ok (y, rest) → (a : List ℕ) × Behind Q y a × (b ≡ a ++ rest)
  behind_spelled f [] y rest h = absurd cc
  behind_spelled f (x ∷ b) y rest h =
      let s = (f x).spelled b y rest h in
      (x ∷ s.0, (x, s.0, s.1, refl), ap (λ (l : List ℕ). x ∷ l) s.2)

  behind_stays : ((x : ℕ) → Reads (F x) (Q x)) → (b more : List ℕ) → behind F b ≡ Err Outside → behind F (b ++ more) ≡ Err Outside
  behind_stays f [] more h = absurd cc
  behind_stays f (x ∷ b) more h = (f x).stays b more h

  pub reads_behind : ((x : ℕ) → Reads (F x) (Q x)) → Reads (behind F) (Behind Q)
  reads_behind f = record { again = behind_again f; spelled = behind_spelled f; stays = behind_stays f }

  pub inhabited_behind : (x : ℕ) → x < 256 → Inhabited (Q x) → Inhabited (Behind Q)
  inhabited_behind x lt i = record { value = i.value; bytes = x ∷ i.bytes; is_bytes = cons_bytes x i.bytes lt i.is_bytes; spells = (x, i.bytes, i.spells, refl) }

  pub extends_behind : ((x : ℕ) → Extends (F x) (Q x)) → (x : ℕ) → x < 256 → Inhabited (Q x) → Extends (behind F) (Behind Q)
  extends_behind f x lt i [] h = record { value = i.value; more = x ∷ i.bytes; some = λ e. absurd cc; is_bytes = cons_bytes x i.bytes lt i.is_bytes; spells = (x, i.bytes, i.spells, refl) }
  extends_behind f x lt i (y ∷ b) h =
      let c = f y b h in record { value = c.value; more = c.more; some = c.some; is_bytes = c.is_bytes; spells = (y, b ++ c.more, c.spells, refl) }

-- ---- nothing, and nothing more

abbrev pub Fixed : {A : Type 0} → A → A → List ℕ → Type 0
Fixed x y a = (y ≡ x) × (a ≡ [])

abbrev pub fixed : {A : Type 0} → A → List ℕ → Read A
fixed x b = Ok (x, b)

pub reads_fixed : {A : Type 0} (x : A) → Reads (fixed x) (Fixed x)
reads_fixed {A} x = record {
  again = λ y a more p. rw (p.0, p.1) refl;
  spelled = λ b y rest h. let e = ok_is (x, b) (y, rest) h in ([], (sym (ap (λ (p : A × List ℕ). p.0) e), refl), ap (λ (p : A × List ℕ). p.1) e);
  stays = λ b more h. absurd cc;
}

pub extends_fixed : {A : Type 0} (x : A) → Extends (fixed x) (Fixed x)
extends_fixed x b h = absurd cc

pub inhabited_fixed : {A : Type 0} (x : A) → Inhabited (Fixed x)
inhabited_fixed x = record { value = x; bytes = []; is_bytes = nil_bytes; spells = (refl, refl) }

abbrev pub Never : {A : Type 0} → A → List ℕ → Type 0
Never x a = ⊥

abbrev pub never : {A : Type 0} → List ℕ → Read A
never b = Err Outside

pub reads_never : {A : Type 0} → Reads (never {A = A}) (Never {A = A})
reads_never = record { again = λ x a more p. absurd p; spelled = λ b x rest h. absurd cc; stays = λ b more h. refl }

pub extends_never : {A : Type 0} → Extends (never {A = A}) (Never {A = A})
extends_never b h = absurd cc

-- ---- numbers

guard_ok : {A : Type 0} (b : Bool) (d : DecodeError) (x y : A) → cond b (Err d) (done x) ≡ Ok y → (b ≡ false) × (x ≡ y)
guard_ok true d x y e = absurd cc
guard_ok false d x y e = (refl, ok_is x y e)

guard_err : {A : Type 0} (b : Bool) (d e : DecodeError) (x : A) → cond b (Err d) (done x) ≡ Err e → (b ≡ true) × (d ≡ e)
guard_err true d e x h = (refl, cc)
guard_err false d e x h = absurd cc

enough : (w : Width) (a more : List ℕ) → length a ≡ byte_len w → ltb (length (a ++ more)) (byte_len w) ≡ false
enough w a more e = le-ltb _ _ (omega (arith, length-append a more))

pub reads_unsigned : (w : Width) → Reads (unsigned_at w) (Unsigned w)
reads_unsigned w = record {
  again = λ n a more p. rw (enough w a more p.0, take_at a more (byte_len w) p.0, drop_at a more (byte_len w) p.0, p.1) refl;
  spelled = λ b n rest h.
      let g = guard_ok (ltb (length b) (byte_len w)) Short (from_le_bytes w (take (byte_len w) b), drop (byte_len w) b) (n, rest) h in
      let long : byte_len w ≤ length b = ltb-false _ _ g.0 in (
        take (byte_len w) b,
        (omega (arith, length-take (byte_len w) b), sym (ap (λ (p : ℕ × List ℕ). p.0) g.1)),
        sym (take-append-drop (byte_len w) b) ∙ ap (λ (p : ℕ × List ℕ). take (byte_len w) b ++ p.1) g.1,
      );
  stays = λ b more h. absurd (let g = guard_err (ltb (length b) (byte_len w)) Short Outside (from_le_bytes w (take (byte_len w) b), drop (byte_len w) b) h in let k = g.1 in cc);
}

some_from_length : (b : List ℕ) → 0 < length b → b ≢ []
some_from_length b lt e = let k : length b ≡ 0 = ap length e in omega arith

pub extends_unsigned : (w : Width) → Extends (unsigned_at w) (Unsigned w)
extends_unsigned w b h =
    let g = guard_err (ltb (length b) (byte_len w)) Short Short (from_le_bytes w (take (byte_len w) b), drop (byte_len w) b) h in
    let lt : length b < byte_len w = ltb-true _ _ g.0 in
    let more = replicate (byte_len w - length b) 0 in
    let len : length more ≡ byte_len w - length b = length-replicate (byte_len w - length b) 0 in
    record {
      value = from_le_bytes w (b ++ more);
      more = more;
      some = some_from_length more (omega arith);
      is_bytes = zeros_bytes (byte_len w - length b);
      spells = (omega (arith, length-append b more), refl);
    }

pub inhabited_unsigned : (w : Width) → Inhabited (Unsigned w)
inhabited_unsigned w = record { value = from_le_bytes w (replicate (byte_len w) 0); bytes = replicate (byte_len w) 0; is_bytes = zeros_bytes (byte_len w); spells = (length-replicate (byte_len w) 0, refl) }

abbrev pub SignedMapped : Width → ℤ → List ℕ → Type 0
SignedMapped w = Mapped (Unsigned w) (cast_signed w)

to_mapped : (w : Width) (z : ℤ) (a : List ℕ) → Signed w z a → SignedMapped w z a
to_mapped w z a p = (from_le_bytes w a, (p.0, refl), p.1)

from_mapped : (w : Width) (z : ℤ) (a : List ℕ) → SignedMapped w z a → Signed w z a
from_mapped w z a (n, p, e) = (p.0, e ∙ ap (cast_signed w) p.1)

-- ---- a relation that says the same

pub reads_as : {A : Type 0} (R : List ℕ → Read A) (P Q : A → List ℕ → Type 0) → ((x : A) (a : List ℕ) → P x a → Q x a) → ((x : A) (a : List ℕ) → Q x a → P x a) → Reads R P → Reads R Q
reads_as R P Q to from r = record {
  again = λ x a more q. r.again x a more (from x a q);
  spelled = λ b x rest h. let s = r.spelled b x rest h in (s.0, to x s.0 s.1, s.2);
  stays = r.stays;
}

pub extends_as : {A : Type 0} (R : List ℕ → Read A) (P Q : A → List ℕ → Type 0) → ((x : A) (a : List ℕ) → P x a → Q x a) → Extends R P → Extends R Q
extends_as R P Q to er b h = let c = er b h in record { value = c.value; more = c.more; some = c.some; is_bytes = c.is_bytes; spells = to c.value (b ++ c.more) c.spells }

pub inhabited_as : {A : Type 0} (P Q : A → List ℕ → Type 0) → ((x : A) (a : List ℕ) → P x a → Q x a) → Inhabited P → Inhabited Q
inhabited_as P Q to i = record { value = i.value; bytes = i.bytes; is_bytes = i.is_bytes; spells = to i.value i.bytes i.spells }

pub reads_signed : (w : Width) → Reads (signed_at w) (Signed w)
reads_signed w = reads_as (signed_at w) (SignedMapped w) (Signed w) (from_mapped w) (to_mapped w) (reads_mapped (unsigned_at w) (Unsigned w) (cast_signed w) (reads_unsigned w))

pub extends_signed : (w : Width) → Extends (signed_at w) (Signed w)
extends_signed w = extends_as (signed_at w) (SignedMapped w) (Signed w) (from_mapped w) (extends_mapped (unsigned_at w) (Unsigned w) (cast_signed w) (reads_unsigned w) (extends_unsigned w))

pub inhabited_signed : (w : Width) → Inhabited (Signed w)
inhabited_signed w = inhabited_as (SignedMapped w) (Signed w) (from_mapped w) (inhabited_mapped (unsigned_at w) (Unsigned w) (cast_signed w) (reads_unsigned w) (inhabited_unsigned w))
