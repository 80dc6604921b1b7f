use Rattle.std.proofs.Common.{sym}
use Rattle.cet_machine.specs.Memory.{is_write}
use Rattle.cet_machine.proofs.MemoryReads.{stored_keeps_shape}
use Rattle.cet_signal.proofs.Room.{frame_takes}
use Rattle.cet_signal.proofs.delivery.deliver.Goals as goal

pub returns-in-Err-shadow_frame-clause-fault_keeps_memory : goal.returns-in-Err-shadow_frame-clause-fault_keeps_memory
returns-in-Err-shadow_frame-clause-fault_keeps_memory c =
    absurd (frame_takes c.args.mode c.args.mem.now c.store_bytes.new.self c.args.regs.now c.args.action c.in-Err-shadow_frame.fault
    (stored_keeps_shape is_write c.args.mem.now c.store_bytes.new.self c.frame_address-a.result c.bytes_of_words-bytes.result c.in-Ok.ensures.ok)
    c.in_ok-find_room.ensures.room (sym c.in-Err-shadow_frame.ensures.does))
