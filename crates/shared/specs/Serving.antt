-- Runs of jobs, as the sequential specification does them, each at its place.
use Rattle.std.specs.Prelude.{◌≡◌, ℕ, ◌+◌, ◌≤◌, List, [], ◌∷◌, ◌++◌, map, length, Option, Some, None}
use Rattle.std.specs.List.{flat_map}
use Rattle.std.specs.Option.{option_map}
use mathlib.Core.List.{IsPrefix}
use Rattle.gate.specs.Events.{number_if}
use Rattle.sealed.specs.declared.fault.Fault.TheVariants.{JournalFull, TooLong}
use Rattle.lent.specs.declared.grant.Grant.{Grant}
use Rattle.history.specs.Step.{Operation, read}
use Rattle.history.specs.History.{History}
use Rattle.book.specs.declared.answer.Answer.TheVariants.{Granted}
use Rattle.book.specs.Notes.{note_of}
use Rattle.book.specs.Serial.{Deed, called, full, too_long, trimmed, Does, Act, act_of, events_in, standing_of}
use Rattle.requests.specs.declared.jobs.Ask.{Ask}
use Rattle.requests.specs.declared.jobs.Ask.TheVariants as ask
use Rattle.requests.specs.declared.jobs.Job.{Job}
use Rattle.requests.specs.declared.jobs.Reply.{Reply}
use Rattle.requests.specs.declared.jobs.Reply.TheVariants.{Made, Refused, Trimmed}
use Rattle.requests.specs.declared.jobs.RowReply.{RowReply}
use Rattle.shared.specs.Passes.{Shows, Stays}
use Rattle.shared.specs.Deeds.{act_if}
use Rattle.shared.specs.Calls.{GrantedIn}
use Rattle.shared.specs.Runs.{operation_asked}

abbrev pub asks_of : List Job → List Ask
asks_of jobs = map (λ job. job.ask) jobs

-- the rows of the jobs, and those of the replies
abbrev pub rows_asked : List Job → List ℕ
rows_asked jobs = map (λ job. job.row) jobs

abbrev pub rows_replied : List RowReply → List ℕ
rows_replied replies = map (λ r. r.row) replies

-- the replies without their rows
abbrev pub replies_in : List RowReply → List Reply
replies_in replies = map (λ r. r.reply) replies

-- how many entries a trim is asked to keep
abbrev pub keep_asked : Ask → Option ℕ
keep_asked (ask.Trim keep) = Some keep
keep_asked other = None

-- ---- one job
-- what was done, as the reply shows it
abbrev pub deed_of_reply : Ask → Reply → Option Deed
deed_of_reply a (Made answer) = option_map (λ o. called o (note_of answer)) (operation_asked a)
deed_of_reply a (Refused JournalFull) = option_map full (operation_asked a)
deed_of_reply a (Refused TooLong) = option_map too_long (operation_asked a)
deed_of_reply a (Refused fault) = None
deed_of_reply a (Trimmed n) = option_map (λ keep. trimmed keep n) (keep_asked a)

-- where a read was asked for, and the reply is a grant, it is one after this history
abbrev pub IfGrantedTo : History → ℕ → Option Operation → Reply → Type 0
IfGrantedTo h w asked reply = (n : List ℕ) (start len : ℕ) (g : Grant) → asked ≡ Some (read n start len) → reply ≡ Made (Granted g) → GrantedIn h w n start len g

-- what was asked for and the reply, after so many acts
pub record Turn : Type 0 where
  pub place : ℕ
  pub ask : Ask
  pub reply : Reply

-- as an act, if it is one
abbrev pub act_in : ℕ → Turn → List Act
act_in who t = act_if who (deed_of_reply t.ask t.reply)

-- What the reply shows is what one thread does after the first acts, as many as the place says. It
-- is the next act, where it is one. A granted read is so after just these acts and itself
pub record IsServed (w limit : ℕ) (acts : List Act) (who : ℕ) (t : Turn) : Type 0 where
  pub deed : Deed
  pub holds : deed_of_reply t.ask t.reply ≡ Some deed
  pub before : List Act
  pub place_is : length before ≡ t.place
  pub does : Does w limit (standing_of before) deed
  pub stands : IsPrefix (before ++ act_of who deed) acts
  pub granted : IfGrantedTo (events_in (before ++ act_of who deed)) w (operation_asked t.ask) t.reply

-- ---- all jobs
-- one after the other, from this place on
abbrev pub AreServed : ℕ → ℕ → List Act → ℕ → ℕ → List Turn → Type 0
AreServed w limit acts who low [] = Unit {0}
AreServed w limit acts who low (t ∷ turns) = (low ≤ t.place) × IsServed w limit acts who t × AreServed w limit acts who (t.place + length (act_in who t)) turns

-- the places of those that are acts
abbrev pub places_of : ℕ → List Turn → List ℕ
places_of who turns = flat_map (λ t. number_if t.place (act_in who t)) turns

-- those that are acts, in order
abbrev pub acts_in : ℕ → List Turn → List Act
acts_in who turns = flat_map (act_in who) turns

-- The first jobs have these replies, in order, each in its turn, under the pass's label and after
-- all that the pass had seen; and the pass did nothing else. While no other pass is out, nothing
-- else was done
pub record Serves (v : Shows) (asks : List Ask) (replies : List Reply) (w : Shows) : Type 0 where
  pub stays : Stays v w
  pub acts : IsPrefix v.acts w.acts
  pub turns : List Turn
  pub asked : IsPrefix (map (λ t. t.ask) turns) asks
  pub replied : map (λ t. t.reply) turns ≡ replies
  pub each : AreServed v.store.width v.store.limit w.acts v.who (length v.acts) turns
  pub did : w.did ≡ v.did ++ places_of v.who turns
  pub lone : v.room ≡ 64 → w.acts ≡ v.acts ++ acts_in v.who turns
