use Rattle.cet_listing.proofs.Listings.{one_listing as law}
use Rattle.cet_listing.proofs.law.one_listing.Goals as goal

pub returns : goal.returns
returns c = law
