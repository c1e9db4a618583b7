-- A step of the seat at one shard, and what it leaves of all seats and of the follower.
use Rattle.std.proofs.Common.{◌≡◌, ◌≢◌, ◌⊎◌, inl, inr, ℕ, zero, suc, ◌<◌, ◌==◌, true, false, List, [], ◌∷◌, length, Option, Some, IfSome, Result, slice_get, slice_set, slice_index_or, refl, ap, sym, subst, ◌∙◌}
use Rattle.std.proofs.lemmas.Option.{slice_get_within, slice_get_read}
use Rattle.std.proofs.lemmas.List.{length-set, length-map}
use Rattle.std.proofs.lemmas.Bool.Decides.{eqb_tells}
use mathlib.Core.List.{IsPrefix}
use Rattle.gate.proofs.Lists.{prefix_trans}
use Rattle.sealed.specs.declared.fault.Fault.{Fault}
use Rattle.history.specs.Step.{Operation}
use Rattle.book.specs.Serial.{Act, Deed}
use Rattle.book.specs.declared.answer.Answer.{Answer}
use Rattle.one_map.specs.Hash.{shard_of}
use Rattle.one_map.specs.OneMap.{name_of, operation_shard, IsLegalOneMap}
use Rattle.ledger_map.specs.Legal.{calls_of}
use Rattle.ledger.specs.declared.view.ShardAct.{ShardAct}
use Rattle.ledger.specs.Acts.{LedgerState, FollowerState, as_shard_acts, acts_at}
use Rattle.ledger.proofs.Lists.{acts_at-append}
use Rattle.shared.specs.Passes.{Which, Shows, FindsBusy}
use Rattle.shared.specs.Deeds.{deed_of, act_if, Takes}
use Rattle.shared.specs.Calls.{Called}
use Rattle.shared.specs.Mends.{FoundBusy}
use Rattle.shard.specs.Seats.{SeatShows, IsSeatOf}
use Rattle.shard.specs.Listed.{Listing, listing_of, IsListed, IsUpToDate}
use Rattle.sharded.specs.Passes.{StoreShows, PassShows, stores_of, store_of, AreLone, HaveActsOfShards}
use Rattle.sharded.specs.Steps.{IsStepAt, IsCallAt, IsBusyAt, IsBusyRepairAt, width_for, seen_for}
use Rattle.sharded.specs.Listings.{who_at, shown_at, listing, IsListedAt, IsListedCall}
use Rattle.sharded.specs.Seats.{shows_of, pass_shows, IsSeatAt, IsPassOf, IsSamePlace}
use Rattle.sharded.proofs.Steps.{set_here, set_there, same_some, Held, held_there, held_stores, held_of_shards, held_step, step_at_name, call_step, finds_step, busy_step, width_is, seen_is, IsDeedOfShard, deed_of_shard}

-- ---- lists
pub shows_set : (seats : List SeatShows) (k : ℕ) (s : SeatShows) → shows_of (slice_set seats k s) ≡ slice_set (shows_of seats) k s.shows
shows_set [] k s = refl
shows_set (x ∷ seats) zero s = refl
shows_set (x ∷ seats) (suc k) s = ap (λ (l : List Shows). x.shows ∷ l) (shows_set seats k s)

pub shows_index : (seats : List SeatShows) (k : ℕ) (s : SeatShows) → slice_index_or (shows_of seats) k s.shows ≡ (slice_index_or seats k s).shows
shows_index [] k s = refl
shows_index (x ∷ seats) zero s = refl
shows_index (x ∷ seats) (suc k) s = shows_index seats k s

pub shows_length : (seats : List SeatShows) → length (shows_of seats) ≡ length seats
shows_length seats = length-map seats (λ (s : SeatShows). s.shows)

pub shows_there : (seats : List SeatShows) (k : ℕ) (s : SeatShows) → slice_get seats k ≡ Some s → slice_get (shows_of seats) k ≡ Some s.shows
shows_there [] k s e = absurd (cc)
shows_there (x ∷ seats) zero s e = let same : x ≡ s = cc in ap (λ (y : SeatShows). Some y.shows) same
shows_there (x ∷ seats) (suc k) s e = shows_there seats k s e

pub who_there : (vs : List Shows) (k : ℕ) (v : Shows) → slice_get vs k ≡ Some v → who_at vs k ≡ v.who
who_there [] k v e = absurd (cc)
who_there (x ∷ vs) zero v e = let same : x ≡ v = cc in ap (λ (y : Shows). y.who) same
who_there (x ∷ vs) (suc k) v e = who_there vs k v e

pub shown_there : (vs : List Shows) (k : ℕ) (v : Shows) → slice_get vs k ≡ Some v → shown_at vs k ≡ v.acts
shown_there [] k v e = absurd (cc)
shown_there (x ∷ vs) zero v e = let same : x ≡ v = cc in ap (λ (y : Shows). y.acts) same
shown_there (x ∷ vs) (suc k) v e = shown_there vs k v e

pub acts_longer : (k : ℕ) (xs ys : List (ShardAct Act)) → IsPrefix xs ys → IsPrefix (acts_at k xs) (acts_at k ys)
acts_longer k xs ys p = (acts_at k p.0, sym (acts_at-append k xs p.0) ∙ ap (acts_at k) p.1)

pub list_longer : (k : ℕ) (acts had shown : List Act) (v w : Listing) → IsListed k acts had shown v w → IsPrefix v.list w.list
list_longer k acts had shown v w l = prefix_trans v.list l.before w.list l.seen (as_shard_acts k acts, sym l.list)

-- ---- the seat at one shard, as the code takes it
pub record HeldSeat (seats : List SeatShows) (f : FollowerState Act) (args : PassShows) (ss : List Which) (ledger : LedgerState) (store : StoreShows) (k : ℕ) (own : SeatShows) : Type 0 where
  pub view : pass_shows seats f ≡ args
  pub inv : IsPassOf seats f
  pub opened : record { shards = ss; ledger = ledger } ≡ store
  pub same : store_of args ≡ store
  pub below : k < length store.shards
  pub own_is : own ≡ slice_index_or seats k own

pub held_seat : {seats : List SeatShows} {f : FollowerState Act} {args : PassShows} {ss : List Which} {ledger : LedgerState} {store : StoreShows} {k : ℕ} {own : SeatShows}
    → pass_shows seats f ≡ args → IsPassOf seats f → record { shards = ss; ledger = ledger } ≡ store → store_of args ≡ store → k < length store.shards → own ≡ slice_index_or seats k own → HeldSeat seats f args ss ledger store k own
held_seat view inv opened same below own_is = record { view = view; inv = inv; opened = opened; same = same; below = below; own_is = own_is }

-- what a step leaves of it
pub record SteppedSeat (ledger : LedgerState) (deed : Option Deed) (own new : SeatShows) (f g : FollowerState Act) : Type 0 where
  pub takes : Takes own.shows deed new.shows
  pub place : IsSamePlace own new
  pub listed : IsListed own.shard (act_if own.shows.who deed) own.shows.acts new.shows.acts (listing_of f) (listing_of g)
  pub follower : IsUpToDate ledger.setup own.shard own.shows.acts new.shows.acts f g

pub stepped_seat : {ledger : LedgerState} {deed : Option Deed} (own new : SeatShows) (f g : FollowerState Act) → Takes own.shows deed new.shows → IsSamePlace own new
    → IsListed own.shard (act_if own.shows.who deed) own.shows.acts new.shows.acts (listing_of f) (listing_of g) → IsUpToDate ledger.setup own.shard own.shows.acts new.shows.acts f g → SteppedSeat ledger deed own new f g
stepped_seat own new f g takes place listed follower = record { takes = takes; place = place; listed = listed; follower = follower }

module _ {seats : List SeatShows} {f : FollowerState Act} {args : PassShows} {ss : List Which} {ledger : LedgerState} {store : StoreShows} {k : ℕ} {own : SeatShows} (h : HeldSeat seats f args ss ledger store k own) where
  pub plain_held : Held (shows_of seats) args.shards store.shards k own.shows
  plain_held = record {
    view = ap (λ (v : PassShows). v.shards) h.view;
    stores = ap (λ (s : StoreShows). s.shards) h.same;
    below = h.below;
    own_is = ap (λ (s : SeatShows). s.shows) h.own_is ∙ sym (shows_index seats k own);
  }

  pub held_ledger : f.ledger ≡ ledger
  held_ledger = ap (λ (v : PassShows). v.ledger) h.view ∙ ap (λ (s : StoreShows). s.ledger) h.same ∙ ap (λ (s : StoreShows). s.ledger) (sym h.opened)

  many : length seats ≡ length store.shards
  many = sym (shows_length seats) ∙ ap (λ (v : PassShows). length v.shards) h.view ∙ sym (length-map args.shards (λ (v : Shows). v.store)) ∙ ap (λ (s : StoreShows). length s.shards) h.same

  pub seat_there : slice_get seats k ≡ Some own
  seat_there = slice_get_read seats (length store.shards) k own (sym many) h.below h.own_is

  seat_at : IsSeatAt f k own
  seat_at = h.inv.each k own seat_there

  -- what the shard asks of the seat
  pub held_of : IsSeatOf ledger own
  held_of = subst (λ (l : LedgerState). IsSeatOf l own) held_ledger seat_at.of

  pub held_store : (shard : Which) → shard ≡ slice_index_or ss k shard → own.shows.store ≡ shard
  held_store shard is =
      let plain = plain_held in
      let here : slice_get args.shards k ≡ Some own.shows = held_there plain in
      let mine : slice_get (stores_of args.shards) k ≡ Some own.shows.store = store_there args.shards k own.shows here in
      let theirs : slice_get ss k ≡ Some shard = slice_get_read ss (length store.shards) k shard (ap (λ (s : StoreShows). length s.shards) (sym h.opened)) h.below is in
      same_some own.shows.store shard (slice_get (stores_of args.shards) k) mine (ap (λ (l : List Which). slice_get l k) (ap (λ (s : StoreShows). s.shards) h.same ∙ ap (λ (s : StoreShows). s.shards) (sym h.opened)) ∙ theirs)
    where
      store_there : (vs : List Shows) (j : ℕ) (v : Shows) → slice_get vs j ≡ Some v → slice_get (stores_of vs) j ≡ Some v.store
      store_there [] j v e = absurd (cc)
      store_there (x ∷ vs) zero v e = let same : x ≡ v = cc in ap (λ (y : Shows). Some y.store) same
      store_there (x ∷ vs) (suc j) v e = store_there vs j v e

  pub held_width : (shard : Which) → shard ≡ slice_index_or ss k shard → shard ≡ slice_index_or store.shards k shard
  held_width shard is = is ∙ ap (λ (s : StoreShows). slice_index_or s.shards k shard) h.opened

  pub held_name : (n : List ℕ) (o : Operation) → k ≡ shard_of (length store.shards) n → name_of o ≡ n → operation_shard ledger.setup.count o ≡ own.shard
  held_name n o place e =
      let count : ledger.setup.count ≡ length store.shards = ap (λ (l : LedgerState). l.setup.count) (sym held_ledger) ∙ sym h.inv.count ∙ many in
      (λ i. shard_of (count i) (e i)) ∙ sym place ∙ sym seat_at.shard

  pub seat_lone : AreLone args.shards → own.shows.room ≡ 64
  seat_lone lone = lone k own.shows (held_there plain_held)

  -- ---- after a step
  module _ {deed : Option Deed} {new : SeatShows} {g : FollowerState Act} (step : SteppedSeat ledger deed own new f g) where
    grown : IsPrefix f.list g.list
    grown = list_longer own.shard (act_if own.shows.who deed) own.shows.acts new.shows.acts (listing_of f) (listing_of g) step.listed

    -- another seat
    still_at : (j : ℕ) (s : SeatShows) → IsSeatAt f j s → IsSeatAt g j s
    still_at j s at = record {
      of = subst (λ (l : LedgerState). IsSeatOf l s) (sym step.follower.ledger) at.of;
      shard = at.shard;
      room = at.room ∙ sym step.follower.room;
      begins = prefix_trans s.shows.acts (acts_at j f.list) (acts_at j g.list) at.begins (acts_longer j f.list g.list grown);
      agrees = at.agrees;
    }

    -- the seat itself
    now_at : IsSeatAt g k new
    now_at =
        let shard : own.shard ≡ k = seat_at.shard in record {
          of = record {
            ledger_is = step.place.0 ∙ seat_at.of.ledger_is ∙ ap (λ (l : LedgerState). Some l.table) (sym step.follower.ledger);
            width = ap (λ (w : Which). w.width) step.takes.stays.0 ∙ seat_at.of.width ∙ ap (λ (l : LedgerState). l.setup.about) (sym step.follower.ledger);
            some = subst (λ (l : LedgerState). 0 < l.setup.count) (sym step.follower.ledger) seat_at.of.some;
          };
          shard = step.place.1 ∙ shard;
          room = step.takes.stays.2 ∙ seat_at.room ∙ sym step.follower.room;
          begins = subst (λ (j : ℕ). IsPrefix new.shows.acts (acts_at j g.list)) shard (step.follower.begins (subst (λ (j : ℕ). IsPrefix own.shows.acts (acts_at j f.list)) (sym shard) seat_at.begins));
          agrees = step.takes.agrees;
        }

    each_at : (j : ℕ) (s : SeatShows) → slice_get (slice_set seats k new) j ≡ Some s → IsSeatAt g j s
    each_at j s e = by (eqb_tells k j)
      where
        by : (((k == j) ≡ true) × (k ≡ j)) ⊎ (((k == j) ≡ false) × (k ≢ j)) → IsSeatAt g j s
        by (inl (t, same)) =
            let is : new ≡ s = same_some new s (slice_get (slice_set seats k new) k) (set_here seats k new (slice_get_within seats k own seat_there)) (ap (slice_get (slice_set seats k new)) same ∙ e) in
            subst (λ (u : ℕ × SeatShows). IsSeatAt g u.0 u.1) (λ i. (same i, is i)) now_at
        by (inr (t, other)) = still_at j s (h.inv.each j s (sym (set_there seats k j new other) ∙ e))

    pub step_kept : IfSome deed (IsDeedOfShard (length (shows_of seats)) k) → IsPassOf (slice_set seats k new) g
    step_kept of = record {
      count = length-set seats k new ∙ h.inv.count ∙ ap (λ (l : LedgerState). l.setup.count) (sym step.follower.ledger);
      some = subst (λ (l : LedgerState). 0 < l.setup.count) (sym step.follower.ledger) h.inv.some;
      each = each_at;
      one_map = subst (λ (l : LedgerState). IsLegalOneMap l.setup.count l.setup.about (calls_of g.list)) (sym step.follower.ledger)
          (subst (λ (l : LedgerState). IsLegalOneMap l.setup.count l.setup.about (calls_of g.list)) (sym held_ledger)
          (step.follower.one_map (subst (λ (l : LedgerState). IsLegalOneMap l.setup.count l.setup.about (calls_of f.list)) held_ledger h.inv.one_map)));
      homed = subst HaveActsOfShards (sym (shows_set seats k new)) (held_of_shards plain_held step.takes of h.inv.homed);
    }

    pub step_same : store_of (pass_shows (slice_set seats k new) g) ≡ store
    step_same =
        (λ i. record { shards = (ap stores_of (shows_set seats k new) ∙ held_stores plain_held new.shows step.takes.stays.0) i; ledger = (step.follower.ledger ∙ held_ledger ∙ ap (λ (s : StoreShows). s.ledger) h.opened) i })

    pub step_listed : IsListedAt k deed args (pass_shows (slice_set seats k new) g)
    step_listed =
        let here : slice_get args.shards k ≡ Some own.shows = held_there plain_held in
        let there : slice_get (shows_of (slice_set seats k new)) k ≡ Some new.shows = shows_there (slice_set seats k new) k new (set_here seats k new (slice_get_within seats k own seat_there)) in
        let before : listing_of f ≡ listing args = ap listing h.view in
        subst (λ (u : List Act × List Act × List Act × Listing). IsListed k u.0 u.1 u.2 u.3 (listing_of g))
        (λ i. (act_if (sym (who_there args.shards k own.shows here) i) deed, sym (shown_there args.shards k own.shows here) i, sym (shown_there (shows_of (slice_set seats k new)) k new.shows there) i, before i))
        (subst (λ (j : ℕ). IsListed j (act_if own.shows.who deed) own.shows.acts new.shows.acts (listing_of f) (listing_of g)) seat_at.shard step.listed)

    pub step_at : (P : Shows → Shows → Type 0) → P own.shows new.shows → IsStepAt k P args.shards (shows_of (slice_set seats k new))
    step_at P does = subst (IsStepAt k P args.shards) (sym (shows_set seats k new)) (held_step plain_held P new.shows does)

  -- ---- at the shard of a name
  module _ (n : List ℕ) (place : k ≡ shard_of (length store.shards) n) where
    args_many : length args.shards ≡ length store.shards
    args_many = sym (length-map args.shards (λ (v : Shows). v.store)) ∙ ap (λ (s : StoreShows). length s.shards) h.same

    -- the pass to the shard of the name
    pub named_there : slice_get args.shards (shard_of (length args.shards) n) ≡ Some own.shows
    named_there = ap (slice_get args.shards) (ap (λ (m : ℕ). shard_of m n) args_many ∙ sym place) ∙ held_there plain_held

    -- a step there
    pub named_step : (P : Shows → Shows → Type 0) (o : Operation) (new : SeatShows) → P own.shows new.shows → name_of o ≡ n → IsStepAt (operation_shard (length args.shards) o) P args.shards (shows_of (slice_set seats k new))
    named_step P o new does e = subst (IsStepAt (operation_shard (length args.shards) o) P args.shards) (sym (shows_set seats k new)) (step_at_name plain_held n place P o new.shows does e)

    pub listed_call : (o : Operation) (r : Result Answer Fault) {new : SeatShows} {g : FollowerState Act} → SteppedSeat ledger (deed_of o r) own new f g → name_of o ≡ n → IsListedCall args o r (pass_shows (slice_set seats k new) g)
    listed_call o r {new} {g} step e =
        let shard : k ≡ operation_shard (length args.shards) o = place ∙ (λ i. shard_of (sym args_many i) (sym e i)) in
        subst (λ (j : ℕ). IsListedAt j (deed_of o r) args (pass_shows (slice_set seats k new) g)) shard (step_listed step)

    pub kept_call : {o : Operation} {r : Result Answer Fault} {new : SeatShows} {g : FollowerState Act} → SteppedSeat ledger (deed_of o r) own new f g → Called own.shows o r new.shows → name_of o ≡ n → IsPassOf (slice_set seats k new) g
    kept_call {o} {r} {new} {g} step made e =
        let all = step_kept step (deed_of_shard (length (shows_of seats)) k o r ((λ i. shard_of (shows_many i) (e i)) ∙ sym place)) in all
      where
        shows_many : length (shows_of seats) ≡ length store.shards
        shows_many = shows_length seats ∙ many

    pub called_at : {o : Operation} {r : Result Answer Fault} (new : SeatShows) → Called own.shows o r new.shows → name_of o ≡ n → IsCallAt args.shards o r (shows_of (slice_set seats k new))
    called_at {o} {r} new made e = subst (IsCallAt args.shards o r) (sym (shows_set seats k new)) (call_step plain_held n place made e)

    pub finds_at : (o : Operation) (new : SeatShows) → FindsBusy own.shows new.shows → name_of o ≡ n → IsBusyAt args.shards o (shows_of (slice_set seats k new))
    finds_at o new found e = subst (IsBusyAt args.shards o) (sym (shows_set seats k new)) (finds_step plain_held n place o new.shows found e)

    pub busy_at : (j i : ℕ) (new : SeatShows) → FoundBusy own.shows n j i new.shows → IsBusyRepairAt args.shards n j i (shows_of (slice_set seats k new))
    busy_at j i new found = subst (IsBusyRepairAt args.shards n j i) (sym (shows_set seats k new)) (busy_step plain_held n place j i new.shows found)

    pub width_at_name : (shard : Which) → shard ≡ slice_index_or ss k shard → shard.width ≡ width_for store.shards n
    width_at_name shard is = width_is plain_held n place shard (held_width shard is)

    pub seen_at_name : (new : SeatShows) → new.shows.seen ≡ seen_for (shows_of (slice_set seats k new)) n
    seen_at_name new = seen_is plain_held n place new.shows ∙ ap (λ (vs : List Shows). seen_for vs n) (sym (shows_set seats k new))
