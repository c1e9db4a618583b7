-- Sessions: the result of opening, splitting and closing.
use Rattle.std.specs.Prelude.{◌≡◌, ℕ, ◌+◌, ◌<◌, [], length}
use Rattle.gate.specs.Places.{times}
use Rattle.book.specs.Contents.{Contents}
use Rattle.book.specs.Holds.{HoldsHistory}
use Rattle.shared.specs.Passes.{Shows, IsConsistent}

-- the first session of a store with this width and limit: it has seen and made no call
pub record IsFirstSession (width limit : ℕ) (v : Shows) : Type 0 where
  pub width_is : v.store.width ≡ width
  pub limit_is : v.store.limit ≡ limit
  pub is : v ≡ record { store = v.store; who = 0; room = 64; seen = []; trimmed = 0; made = []; acts = []; did = []; visits = 0; seen_visits = 1; expected_visits = 0 }

-- a session with this label that has seen the same as v, and has made no call
abbrev pub split_from : Shows → ℕ → Shows
split_from v who = record {
  store = v.store;
  who = who;
  room = 1;
  seen = v.seen;
  trimmed = v.trimmed;
  made = [];
  acts = v.acts;
  did = [];
  visits = 0;
  seen_visits = v.seen_visits;
  expected_visits = 0;
}

pub record IsSplitOff (v : Shows) (who : ℕ) (w : Shows) : Type 0 where
  pub is : w ≡ split_from v who

-- the book represents all that the session has seen, and each of its calls and trims was the
-- session's own
pub record IsClosing (v : Shows) (book : Contents) : Type 0 where
  pub room : v.room ≡ 64
  pub holds : HoldsHistory book v.seen
  pub made : (k : ℕ) → k < length v.seen → times k v.made ≡ 1
  pub count : length v.made ≡ length v.seen
  pub trimmed : book.base.trimmed ≡ v.trimmed
  pub agrees : IsConsistent v
  pub did : (k : ℕ) → k < length v.acts → times k v.did ≡ 1
  pub did_count : length v.did ≡ length v.acts
  pub entries : book.base.trimmed + length book.entries ≡ length v.made
  pub width_kept : book.width ≡ v.store.width
  pub limit_kept : book.limit ≡ v.store.limit
