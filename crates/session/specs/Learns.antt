-- A restoration with bytes from outside, by a session that first learns of their version.
use Rattle.std.specs.Prelude.{◌≡◌, ◌≢◌, ◌⊎◌, ℕ, Result, Err, IfErr}
use mathlib.Core.List.{IsPrefix}
use Rattle.sealed.specs.declared.fault.Fault.{Fault}
use Rattle.sealed.specs.declared.fault.Fault.TheVariants.{Busy}
use Rattle.history.specs.Step.{restore}
use Rattle.book.specs.declared.answer.Answer.{Answer}
use Rattle.shared.specs.Passes.{Shows, ReceiptShows, seen_by, FindsBusy}
use Rattle.shared.specs.Calls.{Called}
use Rattle.session.specs.KnownFault.{IsBusyOrCallFault}
use Rattle.session.specs.VersionShows.{VersionShows}

-- Of two histories of its store the session shows the one that begins with both. Its own calls are
-- those that it had made. While there is no other session, it had seen all
pub record Learns (v : Shows) (known : ReceiptShows) (u : Shows) : Type 0 where
  pub kept : u ≡ record v { seen = u.seen; trimmed = u.trimmed; acts = u.acts; seen_visits = u.seen_visits }
  pub one : (u ≡ v) ⊎ (seen_by u ≡ known)
  pub seen : IsPrefix v.seen u.seen × IsPrefix known.seen u.seen
  pub acts : IsPrefix v.acts u.acts × IsPrefix known.acts u.acts
  pub lone : v.room ≡ 64 → u ≡ v

-- the session learned what was seen of the version, and then restored a fragment of it, with this
-- reply
pub record HasRestored (v : Shows) (x : VersionShows) (j f : ℕ) (reply : Result Answer Fault) (w : Shows) : Type 0 where
  pub aware : Shows
  pub learns : Learns v x.known aware
  pub called : Called aware (restore x.name x.sealed.version j f) reply w
  pub faults : IfErr reply IsBusyOrCallFault
  pub busy : reply ≡ Err Busy → FindsBusy aware w
  pub lone : v.room ≡ 64 → reply ≢ Err Busy
