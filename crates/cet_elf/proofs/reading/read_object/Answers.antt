use Rattle.cet_elf.proofs.ConsistentObjects.{names-of-read}
use Rattle.cet_elf.proofs.reading.read_object.Goals as goal

pub returns-clause-section_names : goal.returns-clause-section_names
returns-clause-section_names c = names-of-read c.args.bytes.now c.read_whole.result c.read_whole.ensures
