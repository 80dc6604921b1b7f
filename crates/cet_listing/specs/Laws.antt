-- What holds of listings.
use Rattle.std.specs.Prelude.{◌≡◌, ℕ, List}
use Rattle.cet_isa.specs.declared.decode_error.DecodeError.{DecodeError}
use Rattle.cet_listing.specs.Listing.{IsListing, StopsAt}

abbrev pub OneListing : Type 0
OneListing = (at : ℕ) (bytes first second : List ℕ) → IsListing at bytes first → IsListing at bytes second → first ≡ second

abbrev pub OneStop : Type 0
OneStop = (at : ℕ) (bytes : List ℕ) (stop other : ℕ) (why reason : DecodeError) → StopsAt at bytes stop why → StopsAt at bytes other reason → (stop ≡ other) × (why ≡ reason)

abbrev pub ListingOrStop : Type 0
ListingOrStop = (at : ℕ) (bytes lines : List ℕ) (stop : ℕ) (why : DecodeError) → IsListing at bytes lines → ¬ StopsAt at bytes stop why
