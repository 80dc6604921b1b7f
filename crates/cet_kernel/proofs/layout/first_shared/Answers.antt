use Rattle.std.proofs.Common.{◌+◌, ◌-◌, length, refl}
use Rattle.std.proofs.lemmas.Option.{slice_get_read}
use Rattle.cet_kernel.proofs.Shared.{each_later}
use Rattle.cet_kernel.proofs.layout.first_shared.Goals as goal

pub shared_with-error-requires-clause-first : goal.shared_with-error-requires-clause-first
shared_with-error-requires-clause-first c =
    c.requires c.loop-i.i c.index-segments-i.result (slice_get_read c.args.segments.now (length c.args.segments.now) c.loop-i.i c.index-segments-i.result refl c.loop-i-test.true c.index-segments-i.is)

pub shared_with-error-requires-clause-later : goal.shared_with-error-requires-clause-later
shared_with-error-requires-clause-later c = each_later c.args.segments.now (c.loop-i.i + 1) (length c.args.segments.now - (c.loop-i.i + 1)) c.requires
