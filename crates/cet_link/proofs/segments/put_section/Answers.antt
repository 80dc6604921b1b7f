use Rattle.std.proofs.Common.{◌≡◌, ◌∙◌, ◌+◌, ◌-◌, ◌++◌, ap, replicate, append_assoc, length, arith}
use Rattle.cet_link.specs.Inputs.{Part}
use Rattle.cet_link.specs.Patched.{patched}
use Rattle.cet_link.specs.Places.{start_behind}
use Rattle.cet_link.proofs.SegmentLemmas.{Gains-one, stored-size}
use Rattle.cet_link.proofs.segments.put_section.Goals as goal

pub returns-clause-bytes : goal.returns-clause-bytes
returns-clause-bytes c = λ inputs note are.
    let s = c.args.section.now in
    let old = c.args.out.now.items in
    let p : Part = record { input = c.args.input; number = c.args.number; section = s } in
    let own = patched inputs note p in
    let end : c.args.start + c.len.result ≡ c.args.start + length old = omega (arith, c.len.ensures, c.args.out.now.ok) in
    Gains-one inputs note c.args.start old c.put_patched.new.out.items p (stored-size s.class s.size s.bytes c.requires.stored c.requires.consistent.1.bytes)
    (c.in_ok-put_patched.ensures.bytes inputs note are ∙ ap (λ zs. zs ++ own) c.in_ok-put_zeros.ensures.bytes
    ∙ append_assoc old (replicate (c.start_of.result - (c.args.start + c.len.result)) 0) own
    ∙ ap (λ n. old ++ (replicate (n - (c.args.start + c.len.result)) 0 ++ own)) c.start_of.ensures.start
    ∙ ap (λ n. old ++ (replicate (start_behind n s - n) 0 ++ own)) end)
