use Rattle.std.proofs.Common.{subst}
use Rattle.cet_machine.specs.Memory.{AreDisjoint}
use Rattle.cet_mem.proofs.Orders.{in_order_disjoint}
use Rattle.cet_mem.proofs.memory.Memory.regions_are_disjoint.Goals as goal

pub returns : goal.returns
returns c = subst AreDisjoint c.self.view_is (in_order_disjoint c.self.inside.blocks.items c.self.invariant)
