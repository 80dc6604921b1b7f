use Rattle.std.proofs.Common.{ℕ, ◌+◌, List, take, drop, ap, sym, subst, ◌∙◌, arith}
use Rattle.std.proofs.lemmas.List.{take_rest, length-take}
use Rattle.std.proofs.lemmas.Result.{MatchResult-from_err, on_ok_weaker, on_err_weaker}
use Rattle.cet_isa.specs.Law.{Begins}
use Rattle.cet_listing.specs.Listing.{instruction_line}
use Rattle.cet_listing.proofs.Prints.{Printed-start, Printed-next, Printed-part, Printed-all, Printed-begins}
use Rattle.cet_listing.proofs.Walks.{found, step}
use Rattle.cet_listing.proofs.write.write_listing.Goals as goal

pub loop-offset-init : goal.loop-offset-init
loop-offset-init g c = record {
  within = omega arith;
  count = omega arith;
  printed = Printed-start (g.O.Sink.bytes c.args.out.now) c.clear.new.self c.args.at c.args.bytes.now c.clear.ensures;
}

pub unreachable-requires : goal.unreachable-requires
unreachable-requires g c =
    let form = Printed-begins _ _ _ c.args.at c.args.bytes.now c.loop-offset.offset c.loop-offset.invariant.printed c.requires.listed c.loop-offset-test.true in
    c.in_default.not-Ok (form.0, form.1) (c.decode.ensures.only form.0 form.1 (rw take_rest form.2))

pub instruction_line-line-requires : goal.instruction_line-line-requires
instruction_line-line-requires g c =
    let begins = found c.args.bytes.now c.loop-offset.offset _ _ c.in-Ok.ensures.found in
    let next = step c.args.bytes.now c.loop-offset.offset _ _ c.loop-offset-test.true begins in
    omega (arith, next.short, c.from-length.ensures, length-take {A = ℕ})

pub returns-in_err-put-clause-part : goal.returns-in_err-put-clause-part
returns-in_err-put-clause-part g c = λ lines listing.
    MatchResult-from_err _ _ _ c.from_residual.ensures.0 (λ _. Printed-part _ _ _ _ c.args.at c.args.bytes.now c.loop-offset.offset c.loop-offset.invariant.printed c.in_err-put.ensures.part lines listing)

pub loop-offset-smaller : goal.loop-offset-smaller
loop-offset-smaller g c =
    let begins = found c.args.bytes.now c.loop-offset.offset _ _ c.in-Ok.ensures.found in
    let next = step c.args.bytes.now c.loop-offset.offset _ _ c.loop-offset-test.true begins in
    omega (arith, next.some, next.within, c.from-length.ensures)

pub loop-offset-preserved : goal.loop-offset-preserved
loop-offset-preserved g c =
    let bytes : List ℕ = c.args.bytes.now in
    let offset : ℕ = c.loop-offset.offset in
    let begins = found bytes offset _ _ c.in-Ok.ensures.found in
    let next = step bytes offset _ _ c.loop-offset-test.true begins in
    let line = c.as_bytes.ensures ∙ (c.instruction_line-line.ensures.text ∙ ap (λ (x : List ℕ). instruction_line (c.args.at + offset) (take c.from-length.result x) c.in-Ok.insn) (take_rest bytes offset)) in
    record {
      within = omega (arith, next.within, c.from-length.ensures);
      count = omega (arith, c.loop-offset.invariant.count, c.in_ok-put.ensures.faults);
      printed = Printed-next _ _ _ _ _ _ c.in_ok-put.ensures.taken.0 c.args.at bytes offset c.in-Ok.insn c.from-length.result
          (subst (λ (n : ℕ). Begins (drop offset bytes) c.in-Ok.insn n) (sym c.from-length.ensures) begins) line c.in_ok-put.ensures.taken.1 c.in_ok-put.ensures.taken.2
          c.loop-offset.invariant.printed;
    }

pub returns-clause-taken : goal.returns-clause-taken
returns-clause-taken g c = λ lines listing.
    on_ok_weaker c.flush.result
    (λ gains. Printed-all _ _ _ _ c.args.at c.args.bytes.now c.loop-offset.offset c.loop-offset-test.false c.loop-offset.invariant.printed gains lines listing) c.flush.ensures.taken

pub returns-clause-part : goal.returns-clause-part
returns-clause-part g c = λ lines listing.
    on_err_weaker c.flush.result
    (λ gains. Printed-part _ _ _ _ c.args.at c.args.bytes.now c.loop-offset.offset c.loop-offset.invariant.printed gains lines listing) c.flush.ensures.part
