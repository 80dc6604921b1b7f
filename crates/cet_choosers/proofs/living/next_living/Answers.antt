use Rattle.std.proofs.Common.{sym}
use Rattle.cet_choosers.proofs.Threads.{living_bits, found, turned}
use Rattle.cet_choosers.proofs.living.next_living.Goals as goal

pub returns-in-Some-clause-thread : goal.returns-in-Some-clause-thread
returns-in-Some-clause-thread c = sym (found c.args.view c.bits_below-living.result c.args.from c.in-Some.thread (living_bits c.args.view _ c.bits_below-living.ensures) c.in-Some.ensures.place)

pub returns-in-None-clause-thread : goal.returns-in-None-clause-thread
returns-in-None-clause-thread c =
    sym (turned c.args.view c.bits_below-living.result c.args.from c.lowest_from-in-None.result (living_bits c.args.view _ c.bits_below-living.ensures) c.in-None.ensures.place c.lowest_from-in-None.ensures.place)
