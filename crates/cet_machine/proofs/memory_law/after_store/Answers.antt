use Rattle.cet_machine.proofs.MemoryReads.{load_after_store, load_elsewhere_after_store, load_of_other_kind_after_store, shadow_load_after_store, code_after_store}
use Rattle.cet_machine.proofs.memory_law.after_store.Goals as goal

pub returns : goal.returns
returns c = record { load = load_after_store; load_elsewhere = load_elsewhere_after_store; load_of_other_kind = load_of_other_kind_after_store; shadow_load = shadow_load_after_store; code = code_after_store }
