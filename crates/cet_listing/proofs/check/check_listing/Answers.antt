use Rattle.std.proofs.Common.{refl, arith}
use Rattle.cet_listing.proofs.Walks.{SameFrom-start, SameFrom-next, listed_at_end, no_stop_at_end, stop_at, unlisted_at, only_stop_at, found, step, reason}
use Rattle.cet_listing.proofs.check.check_listing.Goals as goal

pub loop-offset-init : goal.loop-offset-init
loop-offset-init c = record { within = omega arith; same = SameFrom-start c.args.at c.args.bytes.now }

pub loop-offset-smaller : goal.loop-offset-smaller
loop-offset-smaller c =
    let begins = found c.args.bytes.now c.loop-offset.offset _ _ c.in-Ok.ensures.found in
    let next = step c.args.bytes.now c.loop-offset.offset _ _ c.loop-offset-test.true begins in
    omega (arith, next.some, next.within, c.from-offset.ensures)

pub loop-offset-preserved : goal.loop-offset-preserved
loop-offset-preserved c =
    let begins = found c.args.bytes.now c.loop-offset.offset _ _ c.in-Ok.ensures.found in
    let next = step c.args.bytes.now c.loop-offset.offset _ _ c.loop-offset-test.true begins in
    rw c.from-offset.ensures record { within = next.within; same = SameFrom-next c.args.at c.args.bytes.now c.loop-offset.offset _ _ begins c.loop-offset.invariant.same }

pub returns-in-Err-clause-listed : goal.returns-in-Err-clause-listed
returns-in-Err-clause-listed c =
    let why = reason c.args.bytes.now c.loop-offset.offset c.in-Err.why c.in-Err.ensures.short c.in-Err.ensures.outside in
    ((λ no. absurd cc), λ listed. absurd (unlisted_at c.args.at c.args.bytes.now c.loop-offset.offset c.in-Err.why c.loop-offset-test.true c.loop-offset.invariant.same why listed))

pub returns-in-Err-clause-stops : goal.returns-in-Err-clause-stops
returns-in-Err-clause-stops c =
    let why = reason c.args.bytes.now c.loop-offset.offset c.in-Err.why c.in-Err.ensures.short c.in-Err.ensures.outside in
    stop_at c.args.at c.args.bytes.now c.loop-offset.offset c.in-Err.why c.loop-offset-test.true c.loop-offset.invariant.same why

pub returns-in-Err-clause-only : goal.returns-in-Err-clause-only
returns-in-Err-clause-only c =
    let why = reason c.args.bytes.now c.loop-offset.offset c.in-Err.why c.in-Err.ensures.short c.in-Err.ensures.outside in
    λ stop other stops.
    let same = only_stop_at c.args.at c.args.bytes.now c.loop-offset.offset c.in-Err.why c.loop-offset-test.true c.loop-offset.invariant.same why stop other stops in
    rw (same.0, same.1) refl

pub returns-clause-listed : goal.returns-clause-listed
returns-clause-listed c = ((λ ok. listed_at_end c.args.at c.args.bytes.now c.loop-offset.offset c.loop-offset-test.false c.loop-offset.invariant.same), λ listed. refl)

pub returns-clause-only : goal.returns-clause-only
returns-clause-only c = λ stop why stops.
    absurd (no_stop_at_end c.args.at c.args.bytes.now c.loop-offset.offset c.loop-offset-test.false c.loop-offset.invariant.same stop why stops)
