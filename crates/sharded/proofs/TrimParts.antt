-- A part of the trim of a shard's journal: what is discarded is listed, not how much was to be kept.
use Rattle.std.proofs.Common.{◌≡◌, ℕ, List, Result, Ok, Err, refl, subst}
use Rattle.sealed.specs.declared.fault.Fault.{Fault}
use Rattle.book.specs.Serial.{Act}
use Rattle.ledger.specs.Acts.{LedgerState, FollowerState}
use Rattle.shared.specs.Deeds.{trim_deed, act_if, Takes}
use Rattle.shard.specs.Seats.{SeatShows}
use Rattle.shard.specs.Listed.{Listing, listing_of, IsListed, IsUpToDate}
use Rattle.sharded.specs.Seats.{IsSamePlace}
use Rattle.sharded.proofs.Seats.{SteppedSeat, stepped_seat}

same_acts : (who k j : ℕ) (r : Result ℕ Fault) → act_if who (trim_deed k r) ≡ act_if who (trim_deed j r)
same_acts who k j (Ok n) = refl
same_acts who k j (Err e) = refl

pub part_stepped : {ledger : LedgerState} (own new : SeatShows) (f g : FollowerState Act) (keep k : ℕ) (r : Result ℕ Fault) → Takes own.shows (trim_deed k r) new.shows → IsSamePlace own new
    → IsListed own.shard (act_if own.shows.who (trim_deed keep r)) own.shows.acts new.shows.acts (listing_of f) (listing_of g) → IsUpToDate ledger.setup own.shard own.shows.acts new.shows.acts f g → SteppedSeat ledger (trim_deed k r) own new f g
part_stepped own new f g keep k r takes place listed follower =
    stepped_seat own new f g takes place (subst (λ (acts : List Act). IsListed own.shard acts own.shows.acts new.shows.acts (listing_of f) (listing_of g)) (same_acts own.shows.who keep k r) listed) follower

pub part_listed : (at who k keep : ℕ) (r : Result ℕ Fault) (had shown : List Act) (v w : Listing) → IsListed at (act_if who (trim_deed k r)) had shown v w → IsListed at (act_if who (trim_deed keep r)) had shown v w
part_listed at who k keep r had shown v w listed = subst (λ (acts : List Act). IsListed at acts had shown v w) (same_acts who k keep r) listed
