use Rattle.cet_process.proofs.Started.{start_is_well_formed, segments_are_loaded, stacks_are_loaded}
use Rattle.cet_process.proofs.law.start.Goals as goal

pub returns : goal.returns
returns c = record { well_formed = start_is_well_formed; segments = segments_are_loaded; stacks = stacks_are_loaded }
