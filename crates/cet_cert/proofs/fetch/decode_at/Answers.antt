use Rattle.std.proofs.Common.{◌≡◌, ℕ, ◌+◌, ◌-◌, ◌≤◌, List, take, drop, get_or, ap, sym, ◌∙◌, subst, arith}
use Rattle.std.proofs.lemmas.List.{length-drop, get_or-drop}
use Rattle.cet_isa.specs.Decoded.{decoded}
use Rattle.cet_isa.specs.Form.{IsBytes}
use Rattle.cet_rules.specs.Image.{bytes_from, end_of, code_from}
use Rattle.cet_cert.proofs.Bytes.{window_filled}
use Rattle.cet_isa.proofs.Heads.{window_same}
use Rattle.cet_cert.proofs.Windows.{no_code}
use Rattle.cet_cert.proofs.fetch.decode_at.Goals as goal

pub returns-in_default : goal.returns-in_default
returns-in_default c = sym (no_code (bytes_from c.args.image.now.segments c.args.at) (end_of c.args.function.now - c.args.at) (c.in_default.ensures {u = tt}))

-- a window is decoded as the code is
of_window : (code window : List ℕ) → window ≡ take 15 code → IsBytes window → decoded window ≡ decoded code
of_window code window same bytes = ap decoded same ∙ window_same code 15 (subst (λ (b : List ℕ). IsBytes b) same bytes) (omega arith)

pub returns-then-offset-count : goal.returns-then-offset-count
returns-then-offset-count c =
    let s = c.in-Some.segment.now in
    let code = code_from c.args.image.now c.args.function.now c.args.at in
    let offset : ℕ = c.args.at - s.start in
    let count : ℕ = c.min-count.result in
    let rest : List ℕ = drop offset c.as_slice-stored.result.now in
    let window : List ℕ = take ((offset + count) - offset) rest in
    let count_is : (offset + count) - offset ≡ count = omega arith in
    let above : s.start ≤ c.args.at = c.in-Some.ensures.above in
    let filled : take count rest ≡ take 15 code =
    window_filled c.args.image.now c.args.at (end_of c.args.function.now - c.args.at) count s rest c.in-Some.ensures (omega (arith, above)) (omega (arith, length-drop offset c.as_slice-stored.result.now))
    (λ k h. get_or-drop offset c.as_slice-stored.result.now k 0 ∙ ap (λ (xs : List ℕ). get_or xs (offset + k) 0) c.as_slice-stored.ensures) in
    c.decode_window.ensures.decoded ∙ of_window code window (ap (λ (k : ℕ). take k rest) count_is ∙ filled) c.decode_window.ensures.bytes

pub returns : goal.returns
returns c =
    let s = c.in-Some.segment.now in
    let code = code_from c.args.image.now c.args.function.now c.args.at in
    let offset : ℕ = c.args.at - s.start in
    let count : ℕ = c.min-count.result in
    let above : s.start ≤ c.args.at = c.in-Some.ensures.above in
    let filled : take count c.padded-window.result ≡ take 15 code =
    window_filled c.args.image.now c.args.at (end_of c.args.function.now - c.args.at) count s c.padded-window.result c.in-Some.ensures (omega (arith, above)) (omega (arith, c.padded-window.ensures.long))
    (λ k h. c.padded-window.ensures.filled k h ∙ ap (λ (xs : List ℕ). get_or xs (offset + k) 0) c.as_slice-stored.ensures) in
    c.decode_window-2.ensures.decoded ∙ of_window code (take count c.padded-window.result) filled c.decode_window-2.ensures.bytes
