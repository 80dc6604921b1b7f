use Rattle.std.proofs.Common.{◌≡◌, ℕ, ◌+◌, ◌-◌, ◌<◌, ◌≤◌, true, length, Some, None, refl, sym, ap, ◌∙◌, arith, MatchOption, length-drop}
use Rattle.std.proofs.lemmas.Bool.{le-leb}
use Rattle.cet_machine.specs.declared.memory.Region.{Region}
use Rattle.cet_machine.specs.Memory.{is_any, holds, bytes_from, bytes_at}
use Rattle.cet_machine.proofs.MemoryRegions.{holds_parts}
use Rattle.cet_machine.proofs.MemoryReads.{bytes_is}
use Rattle.cet_mem.proofs.Accesses.{at_holder, none_there, holds_first, enough_bytes}
use Rattle.cet_mem.proofs.memory.Memory.bytes_at.Goals as goal

pub returns-in_err-i-clause-bytes : goal.returns-in_err-i-clause-bytes
returns-in_err-i-clause-bytes c =
    rw c.from_residual.ensures (bytes_is is_any c.args.self.now c.args.a c.args.n None
    (none_there c.as_slice.result.now c.args.self.now c.args.a c.args.n c.args.n (c.as_slice.ensures.value ∙ c.self.view_is) refl c.in_err-i.ensures))

pub bytes_from-requires : goal.bytes_from-requires
bytes_from-requires c =
    holds_first c.args.a c.args.n c.index-block.result.now c.requires
    (at_holder c.as_slice.result.now c.self.inside.blocks.items c.args.self.now c.args.a c.args.n c.args.n c.in_ok-i.i c.index-block.result.now
    (c.as_slice.ensures.value ∙ c.self.view_is) c.self.view_is refl c.in_ok-i.ensures c.index-block.ensures).inside

pub returns-clause-bytes : goal.returns-clause-bytes
returns-clause-bytes c =
    bytes_is is_any c.args.self.now c.args.a c.args.n (Some c.index-block.result.now)
    (at_holder c.as_slice.result.now c.self.inside.blocks.items c.args.self.now c.args.a c.args.n c.args.n c.in_ok-i.i c.index-block.result.now
    (c.as_slice.ensures.value ∙ c.self.view_is) c.self.view_is refl c.in_ok-i.ensures c.index-block.ensures).found
    ∙ ap Some (sym c.bytes_from.ensures)

pub returns-clause-enough : goal.returns-clause-enough
returns-clause-enough c =
    enough_bytes c.args.a c.args.n c.index-block.result.now c.bytes_from.result.now
    (at_holder c.as_slice.result.now c.self.inside.blocks.items c.args.self.now c.args.a c.args.n c.args.n c.in_ok-i.i c.index-block.result.now
    (c.as_slice.ensures.value ∙ c.self.view_is) c.self.view_is refl c.in_ok-i.ensures c.index-block.ensures).inside c.bytes_from.ensures
