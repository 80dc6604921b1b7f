use Rattle.cet_listing.proofs.Listings.{one_stop as law}
use Rattle.cet_listing.proofs.law.one_stop.Goals as goal

pub returns : goal.returns
returns c = law
