-- What a typed getter reads.
use Rattle.std.proofs.Common.{◌≡◌, ℕ, List, Option, Some, None, Result, sym, refl}
use Rattle.std.specs.Prelude.{IfSome, IfNone}
use Rattle.std.specs.Str.Parse.{ParsesUnsigned, ExplainsUnsignedError, HasUnsignedDigitsIfOk}
use Rattle.std.specs.declared.num.ParseIntError.{ParseIntError}
use Rattle.clap.specs.Words.{ReadsOne}
use Rattle.cet.specs.Words.{IsNumber, IsPlain}

-- how a text is read as a `u32`
abbrev Gives : List ℕ → Result ℕ ParseIntError → Type 0
Gives bs r = ParsesUnsigned 32 10 bs r × ExplainsUnsignedError 10 bs r × HasUnsignedDigitsIfOk bs r

pub number_read : (text value : Option (List ℕ)) (r : Option ℕ) → text ≡ value → (text ≡ None → r ≡ None) → ((t : List ℕ) → text ≡ Some t → ReadsOne Gives t r) → IfSome r (IsNumber value)
number_read text value None is none some = tt
number_read None value (Some n) is none some = absurd (cc (none refl))
number_read (Some t) value (Some n) is none some =
    let parsed = (some t refl).0 in
    (t, sym is, parsed.0.0, sym parsed.1, rw parsed.1 parsed.0.1)

pub no_number_read : (text value : Option (List ℕ)) (r : Option ℕ) → text ≡ value → (text ≡ None → r ≡ None) → ((t : List ℕ) → text ≡ Some t → ReadsOne Gives t r) → IfNone r ((n : ℕ) → IsNumber value n → ⊥)
no_number_read text value (Some n) is none some = tt
no_number_read None value None is none some = λ n number. absurd (cc (is, number.1))
no_number_read (Some s) value None is none some = λ n number.
    let error = some s refl in
    let one : s ≡ number.0 = cc (is, number.1) in
    error.1.0 (rw one number.2, rw (one, number.3) number.4)

-- where there is no number, there is none with a plain text
pub none_plain : (r : Option ℕ) (value shown : Option (List ℕ)) → IfNone r ((n : ℕ) → IsNumber value n → ⊥) → IfNone r ((n : ℕ) → IsNumber value n → IsPlain shown → ⊥)
none_plain (Some n) value shown none = tt
none_plain None value shown none = λ n number plain. none n number
