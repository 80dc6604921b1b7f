use Rattle.std.proofs.Common.{◌≡◌, ◌+◌, ◌≤◌, List, length, get_or, Option, Some, slice_get, sym, ap, ◌∙◌, subst, arith}
use Rattle.std.proofs.lemmas.Option.{slice_get-get_or}
use Rattle.cet_rules.specs.declared.function.Function.{Function}
use Rattle.cet_rules.specs.Rule.{BrokenIn, Broken}
use Rattle.cet_cert.specs.declared.breach.Breach.{Breach}
use Rattle.cet_cert.specs.Breach.{BrokenBelow, IsFirstOf}
use Rattle.cet_cert.proofs.Broken.{below_more, below_earlier, below_itself, to_broken, from_broken}
use Rattle.cet_cert.proofs.Firsts.{first_both, first_same}
use Rattle.cet_cert.proofs.certifier.certify.Goals as goal

pub loop-function-preserved : goal.loop-function-preserved
loop-function-preserved c =
    let image = c.args.image.now in
    let n = c.loop-function.function-index in
    let f : Function = get_or c.as_slice-function-items.result.now n (record { start = 0; size = 0 }) in
    let at : slice_get image.functions n ≡ Some f =
    ap (λ (xs : List Function). slice_get xs n) (sym c.as_slice-function-items.ensures) ∙ slice_get-get_or c.as_slice-function-items.result.now n (record { start = 0; size = 0 }) c.loop-function-test.true in
    first_both (BrokenBelow image n) (BrokenIn image f) (BrokenBelow image (n + 1)) c.loop-function.first c.in_ok-found.found c.first_of-first.result
    c.loop-function.invariant (c.in_ok-found.ensures {u = tt}) c.first_of-first.ensures
    (below_earlier image n) (λ rule a. below_itself image n f rule a at) (λ rule a. below_more image n f rule a at)

pub returns-in-None : goal.returns-in-None
returns-in-None c =
    let image = c.args.image.now in
    let n = c.loop-function.function-index in
    let all : length image.functions ≤ n = omega (arith, c.loop-function-test.false, ap (λ (xs : List Function). length xs) c.as_slice-function-items.ensures) in
    let whole : IsFirstOf (Broken image) c.loop-function.first =
    first_same (BrokenBelow image n) (Broken image) c.loop-function.first c.loop-function.invariant (to_broken image n) (λ rule a. from_broken image n rule a all) in
    subst (λ (o : Option Breach). IsFirstOf (Broken image) o) c.in-None.is whole

pub returns-in-Some : goal.returns-in-Some
returns-in-Some c =
    let image = c.args.image.now in
    let n = c.loop-function.function-index in
    let all : length image.functions ≤ n = omega (arith, c.loop-function-test.false, ap (λ (xs : List Function). length xs) c.as_slice-function-items.ensures) in
    let whole : IsFirstOf (Broken image) c.loop-function.first =
    first_same (BrokenBelow image n) (Broken image) c.loop-function.first c.loop-function.invariant (to_broken image n) (λ rule a. from_broken image n rule a all) in
    subst (λ (o : Option Breach). IsFirstOf (Broken image) o) c.in-Some.is whole
