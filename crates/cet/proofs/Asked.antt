-- Words ask for one command at most, that of their verb.
use Rattle.std.proofs.Common.{◌≡◌, ◌∙◌, ℕ, List, [], Option, Some, codes, get_or, sym, ap, arith, length, ◌<◌, ◌^◌, refl, Bool, true, false, IsTrue, ◌↔◌}
use Rattle.std.specs.Prelude.{slice_get}
use Rattle.std.proofs.lemmas.Option.{get_or_from_slice_get}
use Rattle.cet_verbs.specs.Command.{Command, CheckRaw, Asm, Dis, Notes, Run, Link}
use Rattle.cet.specs.Command.{Asks, AreRefused}
use Rattle.cet.specs.Words.{IsNumber}

-- the first letter of the first word
abbrev letter_in : List (List ℕ) → ℕ
letter_in words = get_or (get_or words 0 []) 0 0

-- that of the command's verb
abbrev letter_of : Command → ℕ
letter_of (CheckRaw file) = 99
letter_of (Asm out file) = 97
letter_of (Dis file) = 100
letter_of (Notes files) = 110
letter_of (Run raw schedule input limit file) = 114
letter_of (Link out start files) = 108

begins : (words : List (List ℕ)) (verb : List ℕ) → slice_get words 0 ≡ Some verb → letter_in words ≡ get_or verb 0 0
begins words verb is = ap (λ (w : List ℕ). get_or w 0 0) (get_or_from_slice_get words 0 verb [] is)

-- the words begin as the command's verb does
asks_letter : (words : List (List ℕ)) (command : Command) → Asks words command → letter_in words ≡ letter_of command
asks_letter words (CheckRaw file) asks = begins words (codes "check") asks.0.1
asks_letter words (Asm out file) asks = begins words (codes "asm") asks.0.1
asks_letter words (Dis file) asks = begins words (codes "dis") asks.0.1
asks_letter words (Notes files) asks = begins words (codes "notes") asks.0.1
asks_letter words (Run raw schedule input limit file) asks = begins words (codes "run") asks.0.1
asks_letter words (Link out start files) asks = begins words (codes "link") asks.0.1

-- words with another letter do not ask for the command
other : (words : List (List ℕ)) (verb : List ℕ) (command : Command) → slice_get words 0 ≡ Some verb → (get_or verb 0 0 ≡ letter_of command → ⊥) → Asks words command → ⊥
other words verb command is differs asks = differs (sym (begins words verb is) ∙ asks_letter words command asks)

-- words that begin with `check` and do not ask for what it does ask for nothing
pub none_but_check : (words : List (List ℕ)) → slice_get words 0 ≡ Some (codes "check") → ((file : List ℕ) → Asks words (CheckRaw file) → ⊥) → AreRefused words
none_but_check words is none (CheckRaw file) asks = none file asks
none_but_check words is none (Asm out file) asks = other words _ (Asm out file) is (λ e. let l : ◌≡◌ {A = ℕ} 99 97 = e in omega arith) asks
none_but_check words is none (Dis file) asks = other words _ (Dis file) is (λ e. let l : ◌≡◌ {A = ℕ} 99 100 = e in omega arith) asks
none_but_check words is none (Notes files) asks = other words _ (Notes files) is (λ e. let l : ◌≡◌ {A = ℕ} 99 110 = e in omega arith) asks
none_but_check words is none (Run raw schedule input limit run_file) asks = other words _ (Run raw schedule input limit run_file) is (λ e. let l : ◌≡◌ {A = ℕ} 99 114 = e in omega arith) asks
none_but_check words is none (Link to start names) asks = other words _ (Link to start names) is (λ e. let l : ◌≡◌ {A = ℕ} 99 108 = e in omega arith) asks

-- words that begin with `asm` and do not ask for what it does ask for nothing
pub none_but_asm : (words : List (List ℕ)) → slice_get words 0 ≡ Some (codes "asm") → ((out : List ℕ) (file : List ℕ) → Asks words (Asm out file) → ⊥) → AreRefused words
none_but_asm words is none (CheckRaw file) asks = other words _ (CheckRaw file) is (λ e. let l : ◌≡◌ {A = ℕ} 97 99 = e in omega arith) asks
none_but_asm words is none (Asm out file) asks = none out file asks
none_but_asm words is none (Dis file) asks = other words _ (Dis file) is (λ e. let l : ◌≡◌ {A = ℕ} 97 100 = e in omega arith) asks
none_but_asm words is none (Notes files) asks = other words _ (Notes files) is (λ e. let l : ◌≡◌ {A = ℕ} 97 110 = e in omega arith) asks
none_but_asm words is none (Run raw schedule input limit run_file) asks = other words _ (Run raw schedule input limit run_file) is (λ e. let l : ◌≡◌ {A = ℕ} 97 114 = e in omega arith) asks
none_but_asm words is none (Link to start names) asks = other words _ (Link to start names) is (λ e. let l : ◌≡◌ {A = ℕ} 97 108 = e in omega arith) asks

-- words that begin with `dis` and do not ask for what it does ask for nothing
pub none_but_dis : (words : List (List ℕ)) → slice_get words 0 ≡ Some (codes "dis") → ((file : List ℕ) → Asks words (Dis file) → ⊥) → AreRefused words
none_but_dis words is none (CheckRaw file) asks = other words _ (CheckRaw file) is (λ e. let l : ◌≡◌ {A = ℕ} 100 99 = e in omega arith) asks
none_but_dis words is none (Asm out file) asks = other words _ (Asm out file) is (λ e. let l : ◌≡◌ {A = ℕ} 100 97 = e in omega arith) asks
none_but_dis words is none (Dis file) asks = none file asks
none_but_dis words is none (Notes files) asks = other words _ (Notes files) is (λ e. let l : ◌≡◌ {A = ℕ} 100 110 = e in omega arith) asks
none_but_dis words is none (Run raw schedule input limit run_file) asks = other words _ (Run raw schedule input limit run_file) is (λ e. let l : ◌≡◌ {A = ℕ} 100 114 = e in omega arith) asks
none_but_dis words is none (Link to start names) asks = other words _ (Link to start names) is (λ e. let l : ◌≡◌ {A = ℕ} 100 108 = e in omega arith) asks

-- words that begin with `notes` and do not ask for what it does ask for nothing
pub none_but_notes : (words : List (List ℕ)) → slice_get words 0 ≡ Some (codes "notes") → ((files : List (List ℕ)) → Asks words (Notes files) → ⊥) → AreRefused words
none_but_notes words is none (CheckRaw file) asks = other words _ (CheckRaw file) is (λ e. let l : ◌≡◌ {A = ℕ} 110 99 = e in omega arith) asks
none_but_notes words is none (Asm out file) asks = other words _ (Asm out file) is (λ e. let l : ◌≡◌ {A = ℕ} 110 97 = e in omega arith) asks
none_but_notes words is none (Dis file) asks = other words _ (Dis file) is (λ e. let l : ◌≡◌ {A = ℕ} 110 100 = e in omega arith) asks
none_but_notes words is none (Notes files) asks = none files asks
none_but_notes words is none (Run raw schedule input limit run_file) asks = other words _ (Run raw schedule input limit run_file) is (λ e. let l : ◌≡◌ {A = ℕ} 110 114 = e in omega arith) asks
none_but_notes words is none (Link to start names) asks = other words _ (Link to start names) is (λ e. let l : ◌≡◌ {A = ℕ} 110 108 = e in omega arith) asks

-- words that begin with `run` and do not ask for what it does ask for nothing
pub none_but_run : (words : List (List ℕ)) → slice_get words 0 ≡ Some (codes "run")
    → ((raw : Bool) (schedule input : Option (List ℕ)) (limit : ℕ) (file : List ℕ) → Asks words (Run raw schedule input limit file) → ⊥) → AreRefused words
none_but_run words is none (CheckRaw file) asks = other words _ (CheckRaw file) is (λ e. let l : ◌≡◌ {A = ℕ} 114 99 = e in omega arith) asks
none_but_run words is none (Asm out file) asks = other words _ (Asm out file) is (λ e. let l : ◌≡◌ {A = ℕ} 114 97 = e in omega arith) asks
none_but_run words is none (Dis file) asks = other words _ (Dis file) is (λ e. let l : ◌≡◌ {A = ℕ} 114 100 = e in omega arith) asks
none_but_run words is none (Notes files) asks = other words _ (Notes files) is (λ e. let l : ◌≡◌ {A = ℕ} 114 110 = e in omega arith) asks
none_but_run words is none (Run raw schedule input limit file) asks = none raw schedule input limit file asks
none_but_run words is none (Link to start names) asks = other words _ (Link to start names) is (λ e. let l : ◌≡◌ {A = ℕ} 114 108 = e in omega arith) asks

-- words that begin with `link` and do not ask for what it does ask for nothing
pub none_but_link : (words : List (List ℕ)) → slice_get words 0 ≡ Some (codes "link") → ((to start : List ℕ) (files : List (List ℕ)) → Asks words (Link to start files) → ⊥) → AreRefused words
none_but_link words is none (CheckRaw file) asks = other words _ (CheckRaw file) is (λ e. let l : ◌≡◌ {A = ℕ} 108 99 = e in omega arith) asks
none_but_link words is none (Asm out file) asks = other words _ (Asm out file) is (λ e. let l : ◌≡◌ {A = ℕ} 108 97 = e in omega arith) asks
none_but_link words is none (Dis file) asks = other words _ (Dis file) is (λ e. let l : ◌≡◌ {A = ℕ} 108 100 = e in omega arith) asks
none_but_link words is none (Notes files) asks = other words _ (Notes files) is (λ e. let l : ◌≡◌ {A = ℕ} 108 110 = e in omega arith) asks
none_but_link words is none (Run raw schedule input limit run_file) asks = other words _ (Run raw schedule input limit run_file) is (λ e. let l : ◌≡◌ {A = ℕ} 108 114 = e in omega arith) asks
none_but_link words is none (Link to start files) asks = none to start files asks

named_by : (words : List (List ℕ)) (verb name : List ℕ) → slice_get words 0 ≡ Some verb → slice_get words 0 ≡ Some name → verb ≡ name
named_by words verb name first second = cc (sym first ∙ second)

-- and so do words that begin with none of the verbs
pub no_verb : (words : List (List ℕ)) (verb : List ℕ) → slice_get words 0 ≡ Some verb → (verb ≡ codes "check" → ⊥) → (verb ≡ codes "asm" → ⊥) → (verb ≡ codes "dis" → ⊥) → (verb ≡ codes "notes" → ⊥) → (verb ≡ codes "run" → ⊥) → (verb ≡ codes "link" → ⊥) → AreRefused words
no_verb words verb is not_check not_asm not_dis not_notes not_run not_link (CheckRaw file) asks = not_check (named_by words verb _ is asks.0.1)
no_verb words verb is not_check not_asm not_dis not_notes not_run not_link (Asm out file) asks = not_asm (named_by words verb _ is asks.0.1)
no_verb words verb is not_check not_asm not_dis not_notes not_run not_link (Dis file) asks = not_dis (named_by words verb _ is asks.0.1)
no_verb words verb is not_check not_asm not_dis not_notes not_run not_link (Notes files) asks = not_notes (named_by words verb _ is asks.0.1)
no_verb words verb is not_check not_asm not_dis not_notes not_run not_link (Run raw schedule input limit file) asks = not_run (named_by words verb _ is asks.0.1)
no_verb words verb is not_check not_asm not_dis not_notes not_run not_link (Link to start files) asks = not_link (named_by words verb _ is asks.0.1)

-- 2^32 words or more, or none, ask for nothing
pub too_many : (words : List (List ℕ)) → (length words < 2 ^ 32 → ⊥) → AreRefused words
too_many words many (CheckRaw file) asks = many asks.0.0
too_many words many (Asm out file) asks = many asks.0.0
too_many words many (Dis file) asks = many asks.0.0
too_many words many (Notes files) asks = many asks.0.0
too_many words many (Run raw schedule input limit file) asks = many asks.0.0
too_many words many (Link to start files) asks = many asks.0.0

pub no_words : AreRefused []
no_words (CheckRaw file) asks = absurd (cc asks.0.1)
no_words (Asm out file) asks = absurd (cc asks.0.1)
no_words (Dis file) asks = absurd (cc asks.0.1)
no_words (Notes files) asks = absurd (cc asks.0.1)
no_words (Run raw schedule input limit file) asks = absurd (cc asks.0.1)
no_words (Link to start files) asks = absurd (cc asks.0.1)

differ : (words : List (List ℕ)) (c d : Command) → Asks words c → Asks words d → letter_of c ≡ letter_of d
differ words c d first second = sym (asks_letter words c first) ∙ asks_letter words d second

-- a flag is given or not
same_flag : (r s : Bool) (G : Type 0) → (IsTrue r ↔ G) → (IsTrue s ↔ G) → r ≡ s
same_flag true true G first second = refl
same_flag true false G first second = absurd (cc (second.1 (first.0 refl)))
same_flag false true G first second = absurd (cc (first.1 (second.0 refl)))
same_flag false false G first second = refl

-- a value is decimal for one number
same_number : (value : Option (List ℕ)) (n m : ℕ) → IsNumber value n → IsNumber value m → n ≡ m
same_number value n m first second =
    let one : first.0 ≡ second.0 = cc (first.1, second.1) in
    cc (one, first.3, second.3)

-- words ask for one command at most
pub asks_one : (words : List (List ℕ)) (c d : Command) → Asks words c → Asks words d → c ≡ d
asks_one words (CheckRaw file) (CheckRaw other) first second = cc (first.2, second.2)
asks_one words (CheckRaw file) (Asm to other) first second = let l : ◌≡◌ {A = ℕ} 99 97 = differ words (CheckRaw file) (Asm to other) first second in absurd (omega arith)
asks_one words (CheckRaw file) (Dis other) first second = let l : ◌≡◌ {A = ℕ} 99 100 = differ words (CheckRaw file) (Dis other) first second in absurd (omega arith)
asks_one words (CheckRaw file) (Notes others) first second = let l : ◌≡◌ {A = ℕ} 99 110 = differ words (CheckRaw file) (Notes others) first second in absurd (omega arith)
asks_one words (Asm out file) (CheckRaw other) first second = let l : ◌≡◌ {A = ℕ} 97 99 = differ words (Asm out file) (CheckRaw other) first second in absurd (omega arith)
asks_one words (Asm out file) (Asm to other) first second = cc (first.1, second.1, first.2, second.2)
asks_one words (Asm out file) (Dis other) first second = let l : ◌≡◌ {A = ℕ} 97 100 = differ words (Asm out file) (Dis other) first second in absurd (omega arith)
asks_one words (Asm out file) (Notes others) first second = let l : ◌≡◌ {A = ℕ} 97 110 = differ words (Asm out file) (Notes others) first second in absurd (omega arith)
asks_one words (Dis file) (CheckRaw other) first second = let l : ◌≡◌ {A = ℕ} 100 99 = differ words (Dis file) (CheckRaw other) first second in absurd (omega arith)
asks_one words (Dis file) (Asm to other) first second = let l : ◌≡◌ {A = ℕ} 100 97 = differ words (Dis file) (Asm to other) first second in absurd (omega arith)
asks_one words (Dis file) (Dis other) first second = cc (first.1, second.1)
asks_one words (Dis file) (Notes others) first second = let l : ◌≡◌ {A = ℕ} 100 110 = differ words (Dis file) (Notes others) first second in absurd (omega arith)
asks_one words (Notes files) (CheckRaw other) first second = let l : ◌≡◌ {A = ℕ} 110 99 = differ words (Notes files) (CheckRaw other) first second in absurd (omega arith)
asks_one words (Notes files) (Asm to other) first second = let l : ◌≡◌ {A = ℕ} 110 97 = differ words (Notes files) (Asm to other) first second in absurd (omega arith)
asks_one words (Notes files) (Dis other) first second = let l : ◌≡◌ {A = ℕ} 110 100 = differ words (Notes files) (Dis other) first second in absurd (omega arith)
asks_one words (Notes files) (Notes others) first second = cc (first.1, second.1)
asks_one words (CheckRaw file) (Run raw schedule input limit run_file) first second = let l : ◌≡◌ {A = ℕ} 99 114 = differ words (CheckRaw file) (Run raw schedule input limit run_file) first second in absurd (omega arith)
asks_one words (Asm out file) (Run raw schedule input limit run_file) first second = let l : ◌≡◌ {A = ℕ} 97 114 = differ words (Asm out file) (Run raw schedule input limit run_file) first second in absurd (omega arith)
asks_one words (Dis file) (Run raw schedule input limit run_file) first second = let l : ◌≡◌ {A = ℕ} 100 114 = differ words (Dis file) (Run raw schedule input limit run_file) first second in absurd (omega arith)
asks_one words (Notes files) (Run raw schedule input limit run_file) first second = let l : ◌≡◌ {A = ℕ} 110 114 = differ words (Notes files) (Run raw schedule input limit run_file) first second in absurd (omega arith)
asks_one words (Run raw schedule input limit file) (CheckRaw other) first second = let l : ◌≡◌ {A = ℕ} 114 99 = differ words (Run raw schedule input limit file) (CheckRaw other) first second in absurd (omega arith)
asks_one words (Run raw schedule input limit file) (Asm to other) first second = let l : ◌≡◌ {A = ℕ} 114 97 = differ words (Run raw schedule input limit file) (Asm to other) first second in absurd (omega arith)
asks_one words (Run raw schedule input limit file) (Dis other) first second = let l : ◌≡◌ {A = ℕ} 114 100 = differ words (Run raw schedule input limit file) (Dis other) first second in absurd (omega arith)
asks_one words (Run raw schedule input limit file) (Notes others) first second = let l : ◌≡◌ {A = ℕ} 114 110 = differ words (Run raw schedule input limit file) (Notes others) first second in absurd (omega arith)
asks_one words (Run raw schedule input limit file) (Run r s i l f) first second =
    let flags = same_flag raw r _ first.1 second.1 in
    let numbers = same_number _ limit l first.4 second.4 in
    cc (flags, first.2, second.2, first.3, second.3, numbers, first.5, second.5)
asks_one words (CheckRaw file) (Link to start names) first second = let l : ◌≡◌ {A = ℕ} 99 108 = differ words (CheckRaw file) (Link to start names) first second in absurd (omega arith)
asks_one words (Asm out file) (Link to start names) first second = let l : ◌≡◌ {A = ℕ} 97 108 = differ words (Asm out file) (Link to start names) first second in absurd (omega arith)
asks_one words (Dis file) (Link to start names) first second = let l : ◌≡◌ {A = ℕ} 100 108 = differ words (Dis file) (Link to start names) first second in absurd (omega arith)
asks_one words (Notes files) (Link to start names) first second = let l : ◌≡◌ {A = ℕ} 110 108 = differ words (Notes files) (Link to start names) first second in absurd (omega arith)
asks_one words (Run raw schedule input limit run_file) (Link to start names) first second = let l : ◌≡◌ {A = ℕ} 114 108 = differ words (Run raw schedule input limit run_file) (Link to start names) first second in absurd (omega arith)
asks_one words (Link to start names) (CheckRaw file) first second = let l : ◌≡◌ {A = ℕ} 108 99 = differ words (Link to start names) (CheckRaw file) first second in absurd (omega arith)
asks_one words (Link to start names) (Asm out file) first second = let l : ◌≡◌ {A = ℕ} 108 97 = differ words (Link to start names) (Asm out file) first second in absurd (omega arith)
asks_one words (Link to start names) (Dis file) first second = let l : ◌≡◌ {A = ℕ} 108 100 = differ words (Link to start names) (Dis file) first second in absurd (omega arith)
asks_one words (Link to start names) (Notes files) first second = let l : ◌≡◌ {A = ℕ} 108 110 = differ words (Link to start names) (Notes files) first second in absurd (omega arith)
asks_one words (Link to start names) (Run raw schedule input limit run_file) first second = let l : ◌≡◌ {A = ℕ} 108 114 = differ words (Link to start names) (Run raw schedule input limit run_file) first second in absurd (omega arith)
asks_one words (Link to start names) (Link t s ns) first second = cc (first.1, second.1, first.2, second.2, first.3, second.3)
