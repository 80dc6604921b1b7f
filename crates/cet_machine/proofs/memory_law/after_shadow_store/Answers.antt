use Rattle.cet_machine.proofs.MemoryReads.{shadow_load_after_shadow_store, shadow_load_elsewhere_after_shadow_store, load_elsewhere_after_shadow_store, load_of_other_kind_after_shadow_store, code_after_shadow_store}
use Rattle.cet_machine.proofs.memory_law.after_shadow_store.Goals as goal

pub returns : goal.returns
returns c = record { shadow_load = shadow_load_after_shadow_store; shadow_load_elsewhere = shadow_load_elsewhere_after_shadow_store; load_elsewhere = load_elsewhere_after_shadow_store; load_of_other_kind = load_of_other_kind_after_shadow_store; code = code_after_shadow_store }
