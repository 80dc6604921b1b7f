use Rattle.cet_listing.proofs.Listings.{listing_or_stop as law}
use Rattle.cet_listing.proofs.law.listing_or_stop.Goals as goal

pub returns : goal.returns
returns c = law
