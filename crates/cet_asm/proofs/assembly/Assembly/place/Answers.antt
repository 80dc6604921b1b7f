use Rattle.cet_asm.proofs.Next.{IsPlacedNext-admitted, IsKept-admitted, placed_of-refused}
use Rattle.cet_asm.proofs.Sized.{AreSizes-next}
use Rattle.cet_asm.proofs.assembly.Assembly.place.Goals as goal

pub returns-in-Err-clause-fault : goal.returns-in-Err-clause-fault
returns-in-Err-clause-fault c = λ n.
    let refuses = rw (c.definition-mark.ensures, c.deref.ensures.value) at (c.in-Err.ensures.fault n) in
    placed_of-refused c.args.self.now (record { line = c.args.line; item = c.args.item }) c.in_ok-reading.reading c.in-Err.kind c.requires.kept c.in_ok-reading.ensures.ok refuses

pub returns-clause-placed : goal.returns-clause-placed
returns-clause-placed c =
    let admits = rw (c.definition-mark.ensures, c.deref.ensures.value) at c.in_default.ensures.ok in
    IsPlacedNext-admitted c.args.self.now (record { alloc = c.args.self.now.alloc; placed = c.push.new.self; cursor = c.step.new.self; counts = c.admit.new.self }) (record { line = c.args.line; item = c.args.item }) c.in_ok-reading.reading c.requires.kept c.in_ok-reading.ensures.ok admits (rw c.spot-spot.ensures at c.in_ok-push.ensures.items) c.step.ensures

pub returns-clause-kept : goal.returns-clause-kept
returns-clause-kept c =
    let admits = rw (c.definition-mark.ensures, c.deref.ensures.value) at c.in_default.ensures.ok in
    IsKept-admitted c.args.self.now (record { alloc = c.args.self.now.alloc; placed = c.push.new.self; cursor = c.step.new.self; counts = c.admit.new.self }) (record { line = c.args.line; item = c.args.item }) c.in_ok-reading.reading c.requires.kept c.in_ok-reading.ensures.ok admits (rw c.spot-spot.ensures at c.in_ok-push.ensures.items)

pub returns-clause-sized : goal.returns-clause-sized
returns-clause-sized c =
    AreSizes-next c.args.self.now (record { alloc = c.args.self.now.alloc; placed = c.push.new.self; cursor = c.step.new.self; counts = c.admit.new.self }) c.args.line c.in_ok-reading.reading.step c.requires.sized (rw c.spot-spot.ensures at c.in_ok-push.ensures.items) c.step.ensures
