-- A region as it is kept, seen as a region of the machine.
use Rattle.cet_machine.specs.declared.memory.Region.{Region}
use Rattle.cet_mem.specs.declared.block.Block.TheInside.{Inside}

abbrev pub region_of : Inside → Region
region_of b = record { start = b.start; kind = b.kind; bytes = b.bytes.items }
